use Rattle.std.proofs.Common.{◌≡◌, ◌≢◌, ℕ, ◌<◌, ◌+◌, None, length, take}
use Rattle.std.specs.List.{flat_map}
use Rattle.btworld_c.specs.Many.{held_by, held_at, cells_in, agents_in}
use Rattle.btworld_c.proofs.look_reading.room_for.Given as goal

abbrev pub invariant-games : goal.invariant-games
invariant-games l = record {
  kept : held_by l.games ≡ held_by l.fn.games;
  open_so_far : (k : ℕ) → k < l.number → held_at l.fn.games k ≢ None;
  cells : l.cells_left + length (flat_map cells_in (take l.number (held_by l.fn.games))) ≡ l.fn.cells;
  agents : l.agents_left + length (flat_map agents_in (take l.number (held_by l.fn.games))) ≡ l.fn.agents;
}
