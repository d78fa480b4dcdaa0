-- What no intent changes of a world: its size, its cells, and how many agents there are.
use Rattle.std.proofs.Common.{◌≡◌, ℕ, zero, suc, List, [], ◌∷◌, length, map, Bool, true, false, Option, Some, None, refl, sym, ap, ◌∙◌, ◌&&◌, if◌then◌else◌}
use Rattle.std.specs.Prelude.{not, is_none}
use Rattle.std.proofs.lemmas.List.{length-set}
use Rattle.grid_world.specs.Grid.{Grid, Point, agent_of, agent_on, point_of, has_item, is_on_map, place_of}
use Rattle.grid_world.specs.Ground.{bare, emptied}
use Rattle.grid_world.specs.Way.{way, way_to}
use Rattle.grid_world.specs.declared.cell.Answer.TheVariants.{NoWay}
use Rattle.grid_world.specs.declared.cell.Intent.{Intent}
use Rattle.grid_world.specs.declared.cell.Intent.TheVariants.{Stay, Move, Take, Drop, Give}
use Rattle.grid_world.specs.Open.{is_open}
use Rattle.grid_world.specs.Walks.{next}
use Rattle.grid_world.specs.Intents.{apply, apply_all, moved, handed, loaded, given, may_give, with_agent}
use Rattle.game_rules.specs.Game.{Game, signals}
use Rattle.game_rules.specs.Play.{play, thoughts}

pub record SameGround (g h : Grid) : Type 0 where
  pub width : h.width ≡ g.width
  pub height : h.height ≡ g.height
  pub cells : h.cells ≡ g.cells
  pub agents : length h.agents ≡ length g.agents

pub same : (g : Grid) → SameGround g g
same g = record { width = refl; height = refl; cells = refl; agents = refl }

onward : (g h k : Grid) → SameGround g h → SameGround h k → SameGround g k
onward g h k s t = record { width = t.width ∙ s.width; height = t.height ∙ s.height; cells = t.cells ∙ s.cells; agents = t.agents ∙ s.agents }

chosen : (b : Bool) (g h k : Grid) → SameGround g h → SameGround g k → SameGround g (if b then h else k)
chosen true g h k s t = s
chosen false g h k s t = t

moved_ground : (g : Grid) (on : List Bool) (a : ℕ) (o : Option Point) → SameGround g (moved g on a o)
moved_ground g on a None = same g
moved_ground g on a (Some p) =
    chosen (is_open g on p && is_none (agent_on g p)) g (with_agent g a (record (agent_of g a) { x = p.x; y = p.y })) g
    (record { width = refl; height = refl; cells = refl; agents = length-set g.agents a (record (agent_of g a) { x = p.x; y = p.y }) }) (same g)

handed_ground : (g : Grid) (a : ℕ) (carrying : Bool) → SameGround g (handed g a carrying)
handed_ground g a carrying =
    record { width = refl; height = refl; cells = refl; agents = length-set g.agents a (record (agent_of g a) { carrying = carrying }) }

loaded_ground : (g : Grid) (a : ℕ) (carrying : Bool) → SameGround g (loaded g a carrying)
loaded_ground g a carrying =
    record { width = refl; height = refl; cells = refl; agents = length-set g.agents a (record (agent_of g a) { carrying = carrying }) }

given_ground : (g : Grid) (a b : ℕ) → SameGround g (given g a b)
given_ground g a b = onward g (loaded g a false) (given g a b) (loaded_ground g a false) (loaded_ground (loaded g a false) b true)

apply_ground : (g : Grid) (on : List Bool) (a : ℕ) (i : Intent) → SameGround g (apply g on a i)
apply_ground g on a Stay = same g
apply_ground g on a (Move d) = moved_ground g on a (next d (point_of (agent_of g a)))
apply_ground g on a Take = chosen (not (agent_of g a).carrying && has_item g (point_of (agent_of g a))) g (handed g a true) g (handed_ground g a true) (same g)
apply_ground g on a Drop = chosen ((agent_of g a).carrying && not (has_item g (point_of (agent_of g a)))) g (handed g a false) g (handed_ground g a false) (same g)
apply_ground g on a (Give b) = chosen (may_give g a b) g (given g a b) g (given_ground g a b) (same g)

pub apply_all_ground : (g : Grid) (on : List Bool) (a : ℕ) (is : List Intent) → SameGround g (apply_all g on a is)
apply_all_ground g on a [] = same g
apply_all_ground g on a (i ∷ is) =
    onward g (apply g on a i) (apply_all (apply g on a i) on (suc a) is) (apply_ground g on a i) (apply_all_ground (apply g on a i) on (suc a) is)

-- all worlds of a game stand on the ground of the first
pub play_ground : (g : Game) (f : ℕ) → SameGround g.world (play g f).world
play_ground g zero = same g.world
play_ground g (suc f) =
    onward g.world (play g f).world (play g (suc f)).world (play_ground g f)
    (apply_all_ground (play g f).world (signals g.changes (suc f)) 0 (map (λ t. t.intent) (thoughts g (suc f) (play g f))))

pub ground_is : (g h : Grid) → SameGround g h → emptied g ≡ emptied h
ground_is g h s =
    sym (ap (λ n. bare n h.height h.cells) s.width ∙ ap (λ n. bare g.width n h.cells) s.height ∙ ap (λ cells. bare g.width g.height cells) s.cells)

-- ---- what is told by the ground alone

module _ (k w : Grid) (same : emptied k ≡ emptied w) where
  pub way_stays : (on : List Bool) (p : Point) (place : ℕ) → way k on p place ≡ way w on p place
  way_stays on p place = ap (λ (g : Grid). way g on p place) same

  pub map_stays : (p : Point) → is_on_map w p ≡ true → is_on_map k p ≡ true
  map_stays p there = ap (λ (g : Grid). is_on_map g p) same ∙ there

  -- to a place that is not there no way leads
  pub no_way : (on : List Bool) (p : Point) (place : ℕ) → place_of k place ≡ None → NoWay ≡ way w on p place
  no_way on p place none = sym (ap (way_to w on p) (sym (ap (λ (g : Grid). place_of g place) same) ∙ none))
