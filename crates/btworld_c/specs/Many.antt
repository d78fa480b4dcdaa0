-- What the calls do to the games of many handles.
use Rattle.std.specs.Prelude.{ℕ, List, [], map, Option, Some, None, slice_index_or}
use Rattle.std.specs.List.{flat_map}
use Rattle.stepping.specs.Played.{Played}
use Rattle.btworld_c.specs.Agents.{agents_seen}
use Rattle.btworld_c.specs.Maps.{world_of, cells_told}
use Rattle.btworld_c.specs.declared.game.Agent.{Agent}
use Rattle.btworld_c.specs.declared.game.CellState.{CellState}
use Rattle.btworld_c.specs.declared.game.Game.{Game}

-- the games that handles hold
abbrev pub held_by : List Game → List (Option Played)
held_by games = map (λ g. g.handle.value) games

-- that of one of the handles; none behind the last
abbrev pub held_at : List Game → ℕ → Option Played
held_at games number = slice_index_or (held_by games) number None

-- ---- what is seen of them

abbrev pub cells_in : Option Played → List CellState
cells_in None = []
cells_in (Some p) = cells_told (world_of p)

abbrev pub agents_in : Option Played → List Agent
agents_in None = []
agents_in (Some p) = agents_seen p

-- the cells of all, game after game
abbrev pub all_cells : List Game → List CellState
all_cells games = flat_map cells_in (held_by games)

abbrev pub all_agents : List Game → List Agent
all_agents games = flat_map agents_in (held_by games)
