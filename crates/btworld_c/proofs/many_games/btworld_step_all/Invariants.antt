use Rattle.std.proofs.Common.{◌≡◌, ℕ, ◌<◌, ◌≤◌, get_or}
use Rattle.btworld_c.specs.Games.{IsSteppedIn}
use Rattle.btworld_c.specs.Many.{held_at}
use Rattle.btworld_c.proofs.many_games.btworld_step_all.Given as goal

abbrev pub invariant-games : goal.invariant-games
invariant-games l = record {
  before : (k : ℕ) → k < l.number → IsSteppedIn (get_or l.signals k 0) (held_at l.fn.games k) (held_at l.games k);
  behind : (k : ℕ) → l.number ≤ k → held_at l.games k ≡ held_at l.fn.games k;
}
