-- From what the parts of `ask` promise to what it promises.
use Rattle.std.proofs.Common.{◌≡◌, ◌≢◌, ℕ, ◌+◌, ◌<◌, ◌≤◌, Bool, true, List, length, sym, ap, subst, ◌∙◌}
use Rattle.std.specs.Prelude.{Some}
use Rattle.grid_world.specs.declared.cell.Answer.{Answer}
use Rattle.grid_world.specs.Grid.{Grid, Point, place_of}
use Rattle.grid_world.specs.Way.{way, way_to}
use Rattle.grid_world.specs.World.{IsSized}
use Rattle.grid_path.specs.Bordered.{stride_of, number_of, IsTable}
use Rattle.grid_path.specs.Levels.{at, IsFound}
use Rattle.grid_path.proofs.Cells.{IsIn, inner, point_in_table}
use Rattle.grid_path.proofs.Places.{place_open}
use Rattle.grid_path.proofs.Answered.{way_found}

-- the cells that the search may enter are in no outer row
pub asked_inner : (g : Grid) (on t u : List Bool) (width : ℕ) → IsTable g on t → u ≡ t → width ≡ g.width
    → (i : ℕ) → at u i ≡ true → (width + 2 ≤ i) × (i + (width + 2) < length u)
asked_inner g on t u width is e same i there =
    rw (same, e) (inner g on t is i (rw e at there))

pub asked_goal : (g : Grid) (on t u : List Bool) (b : Point) (j p : ℕ) → IsSized g → IsTable g on t → u ≡ t → j ≡ number_of g b
    → place_of g p ≡ Some b → at u j ≡ true
asked_goal g on t u b j p sized is e number found =
    let open_b = place_open g on p b sized found in
    ap (λ (xs : List Bool). at xs j) e ∙ ap (at t) number ∙ point_in_table g on t is b open_b.inside ∙ open_b.free

pub asked_way : (g : Grid) (on t u : List Bool) (a b : Point) (width i j p : ℕ) (r : Answer) → IsSized g → IsTable g on t → u ≡ t → width ≡ g.width
    → i ≡ number_of g a → j ≡ number_of g b → IsIn g a → place_of g p ≡ Some b → a ≢ b → IsFound (at u) (width + 2) j i r → r ≡ way g on a p
asked_way g on t u a b width i j p r sized is e same number_a number_b in_a found apart finds =
    let open_b = place_open g on p b sized found in
    let one = subst (λ (xs : List Bool). IsFound (at xs) (width + 2) j i r) e finds in
    let two = subst (λ (n : ℕ). IsFound (at t) (n + 2) j i r) same one in
    let three = subst (λ (n : ℕ). IsFound (at t) (stride_of g) n i r) number_b two in
    let four = subst (λ (n : ℕ). IsFound (at t) (stride_of g) (number_of g b) n r) number_a three in
    way_found g on a b t is in_a open_b.inside apart r four ∙ ap (way_to g on a) (sym found)
