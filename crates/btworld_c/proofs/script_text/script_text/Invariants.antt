use Rattle.std.proofs.Common.{◌≡◌, ◌<◌, ◌++◌, ℕ, length, drop, get_or}
use Rattle.game_rules.specs.declared.change.Change.{Change}
use Rattle.btworld_c.specs.Scripts.{changes_text, IsNameable}
use Rattle.btworld_c.proofs.script_text.script_text.Given as goal

abbrev pub invariant-changes : goal.invariant-changes
invariant-changes l = record {
  written : l.text.items ++ changes_text (drop l.change-index l.script) ≡ changes_text l.script;
  nameable : (k : ℕ) (d : Change) → k < l.change-index → k < length l.script → IsNameable (get_or l.script k d);
}
