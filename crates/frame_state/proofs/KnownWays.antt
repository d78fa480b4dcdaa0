-- Ways that are read off distances.
use Rattle.std.proofs.Common.{◌≡◌, ℕ, ◌-◌, ◌∙◌, refl, sym, ap, subst}
use Rattle.grid_world.specs.Grid.{Grid, Point, agent_of, point_of}
use Rattle.grid_world.specs.Ground.{emptied}
use Rattle.grid_world.specs.Way.{way}
use Rattle.game_rules.specs.Game.{Game}
use Rattle.game_rules.specs.View.{cell_of}
use Rattle.game_rules.proofs.Ground.{SameGround, ground_is, play_ground, way_stays}
use Rattle.frame_state.specs.Contents.{signals_in, seen, way_to_in, world_after}

-- all worlds of a game stand on its ground
pub one_ground : (g : Game) (f : ℕ) (world : Grid) → world ≡ world_after g f → emptied g.world ≡ emptied world
unfolding world_after
one_ground g f world is = ground_is g.world world (subst (λ (w : Grid). SameGround g.world w) (sym is) (play_ground g f))

pub read_way : (g : Game) (f a place : ℕ) (p : Point) → p ≡ cell_of (seen g f a) → way g.world (signals_in g f) p place ≡ way_to_in g f a place
unfolding seen
read_way g f a place p here =
    way_stays g.world (world_after g (f - 1)) (one_ground g (f - 1) (world_after g (f - 1)) refl) (signals_in g f) p place
    ∙ ap (λ (q : Point). way (world_after g (f - 1)) (signals_in g f) q place) here

-- an agent's cell in what it sees
pub cell_seen : (g : Game) (f a : ℕ) (world : Grid) → world ≡ world_after g (f - 1) → point_of (agent_of world a) ≡ cell_of (seen g f a)
unfolding seen
cell_seen g f a world is = ap (λ (w : Grid). point_of (agent_of w a)) is
