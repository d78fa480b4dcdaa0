-- Items and agents that make a world of a ground.
use Rattle.std.proofs.Common.{◌≡◌, ◌∙◌, ◌+◌, ◌*◌, ◌<◌, ◌≤◌, ℕ, Bool, true, false, List, All, length, take, get_or, position, Option, Some, None, is_some, refl, sym, ap, subst, arith, length-take}
use Rattle.std.proofs.lemmas.Bool.{true≢false}
use Rattle.std.proofs.lemmas.List.{take_more, get_or-take}
use Rattle.std.proofs.lemmas.List.Quantifiers.{all_pairs_push, position-Some}
use Rattle.grid_world.specs.declared.cell.Agent.{Agent}
use Rattle.grid_world.specs.Grid.{point_of, same_point}
use Rattle.grid_world.specs.declared.cell.Cell.TheVariants.{Wall}
use Rattle.grid_world.specs.Grid.{Grid}
use Rattle.grid_world.specs.Ground.{AreOffWalls, furnished}
use Rattle.grid_world.specs.World.{AreApart, IsSized, IsStanding, IsWorld, point}
use Rattle.grid_world.proofs.Changed.{position-None}

module _ (agents : List Agent) (n : ℕ) (d : Agent) (within : n < length agents) where
  pub one_more_apart : AreApart (take n agents) → position (λ a. same_point (point_of a) (point_of (get_or agents n d))) (take n agents) ≡ None
      → AreApart (take (n + 1) agents)
  one_more_apart apart free =
      subst AreApart (sym (take_more agents n d within))
      (all_pairs_push (λ a b. same_point (point_of a) (point_of b) ≡ false) (take n agents) (get_or agents n d) apart
      (λ k e small. position-None (λ a. same_point (point_of a) (point_of (get_or agents n d))) (take n agents) k e free small))

  pub one_beside : is_some (position (λ a. same_point (point_of a) (point_of (get_or agents n d))) (take n agents)) ≡ true → AreApart agents → ⊥
  one_beside some apart = found (position (λ a. same_point (point_of a) (point_of (get_or agents n d))) (take n agents)) refl some
    where
      found : (o : Option ℕ) → position (λ a. same_point (point_of a) (point_of (get_or agents n d))) (take n agents) ≡ o → is_some o ≡ true → ⊥
      found None e s = absurd cc
      found (Some i) e s =
          let at = position-Some (λ a. same_point (point_of a) (point_of (get_or agents n d))) (take n agents) i d e in
          let before : i < n = (let l = at.0 in omega (arith, l, length-take n agents, within)) in
          let here = sym (ap (λ a. same_point (point_of a) (point_of (get_or agents n d))) (get_or-take n agents i d before)) ∙ at.1 in
          true≢false (sym here ∙ apart i n d before within)

module _ (ground : Grid) (items : List Bool) (agents : List Agent) where
  pub makes_world : IsSized ground → length items ≡ ground.width * ground.height → length agents ≤ 26 → All (IsStanding ground) agents → AreApart agents
      → AreOffWalls ground.cells items → IsWorld (furnished ground items agents)
  makes_world sized many few standing apart off = record {
    sized = record {
      some_columns = sized.some_columns;
      most_columns = sized.most_columns;
      some_rows = sized.some_rows;
      most_rows = sized.most_rows;
      all_cells = sized.all_cells;
    };
    all_items = many;
    few_agents = few;
    standing = λ k d within. let stands = standing k d within in record { column = stands.column; row = stands.row; no_wall = stands.no_wall };
    apart = apart;
    items_off_walls = λ p here. off (p.y * ground.width + p.x) here;
  }

  pub agents_standing : IsWorld (furnished ground items agents) → All (IsStanding ground) agents
  agents_standing world k d within = let stands = world.standing k d within in record { column = stands.column; row = stands.row; no_wall = stands.no_wall }

  pub items_off_walls : IsWorld (furnished ground items agents) → AreOffWalls ground.cells items
  items_off_walls world i here wall = world.items_off_walls (point i 0) (subst (λ (k : ℕ). get_or items k false ≡ true) at here) (ap (λ k. get_or ground.cells k Wall) (sym at) ∙ wall)
    where
      at : i ≡ 0 * ground.width + i
      at = omega arith
