-- The cells of a map by their numbers, and how many cells and agents are told.
use Rattle.std.proofs.Common.{◌≡◌, ℕ, ◌*◌, ◌<◌, length, true, arith}
use Rattle.std.proofs.lemmas.Grind.{common_steps}
use Rattle.std.proofs.lemmas.List.FromFn.{length-map-range_with_len}
use Rattle.grid_world.specs.Grid.{Grid, point_at, is_on_map}
use Rattle.stepping.specs.Played.{Played}
use Rattle.btworld_c.specs.Agents.{agent_seen, agents_seen}
use Rattle.btworld_c.specs.Maps.{cell_told, cells_told}

pub point_is_on_map : (w : Grid) (number : ℕ) → number < w.width * w.height → is_on_map w (point_at w number) ≡ true
point_is_on_map w number l = grind (arith, common_steps)

pub length_of_cells : (w : Grid) → length (cells_told w) ≡ w.width * w.height
length_of_cells w = length-map-range_with_len (λ (k : ℕ). cell_told w (point_at w k)) 0 (w.width * w.height)

pub length_of_agents : (p : Played) → length (agents_seen p) ≡ length p.game.trees
length_of_agents p = length-map-range_with_len (agent_seen p) 0 (length p.game.trees)
