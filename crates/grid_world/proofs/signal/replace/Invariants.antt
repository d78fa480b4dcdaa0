use Rattle.std.proofs.Common.{ℕ, ◌==◌, ◌≡◌, ◌<◌, ◌≤◌, get_or, if◌then◌else◌}
use Rattle.grid_world.proofs.signal.replace.Given as goal

abbrev pub invariant-characters : goal.invariant-characters
invariant-characters l = record {
  done : (k : ℕ) → k < l.character-index → get_or l.text k 0 ≡ (if get_or l.fn.text k 0 == l.from then l.to else get_or l.fn.text k 0);
  left : (k : ℕ) → l.character-index ≤ k → get_or l.text k 0 ≡ get_or l.fn.text k 0;
}
