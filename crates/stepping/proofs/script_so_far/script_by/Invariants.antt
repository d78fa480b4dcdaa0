use Rattle.std.proofs.Common.{◌≡◌, ◌≤◌, ◌<◌, ◌++◌, ℕ, length, drop, get_or}
use Rattle.game_rules.specs.declared.change.Change.{Change}
use Rattle.game_session.specs.Changes.{last_frame}
use Rattle.stepping.specs.Played.{changes_by}
use Rattle.stepping.proofs.script_so_far.script_by.Given as goal

abbrev pub invariant-changes : goal.invariant-changes
invariant-changes l = record {
  taken : l.script ++ changes_by l.fn.frame (drop l.change-index l.fn.changes) ≡ changes_by l.fn.frame l.fn.changes;
  rising : (k : ℕ) (d : Change) → l.change-index ≤ k → k < length l.fn.changes → last_frame l.script ≤ (get_or l.fn.changes k d).frame;
}
