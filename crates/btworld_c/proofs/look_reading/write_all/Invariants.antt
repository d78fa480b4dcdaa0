use Rattle.std.proofs.Common.{◌≡◌, ◌++◌, length, take, drop}
use Rattle.std.specs.List.{flat_map}
use Rattle.btworld_c.specs.Many.{held_by, cells_in, agents_in}
use Rattle.btworld_c.proofs.look_reading.write_all.Given as goal

abbrev pub invariant-games : goal.invariant-games
invariant-games l = record {
  kept : held_by l.games ≡ held_by l.fn.games;
  cells_at : l.cells_at ≡ length (flat_map cells_in (take l.number (held_by l.fn.games)));
  agents_at : l.agents_at ≡ length (flat_map agents_in (take l.number (held_by l.fn.games)));
  cells : l.cells ≡ flat_map cells_in (take l.number (held_by l.fn.games)) ++ drop l.cells_at l.fn.cells;
  agents : l.agents ≡ flat_map agents_in (take l.number (held_by l.fn.games)) ++ drop l.agents_at l.fn.agents;
}
