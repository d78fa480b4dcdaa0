-- Lists of distances that stay on their ground.
use Rattle.std.proofs.Common.{◌≡◌, ◌<◌, ◌∙◌, ◌⊎◌, ◌∷◌, ℕ, List, Vec, ap, ⊎_elim, subst, sym, get_or, length}
use Rattle.std.specs.List.{AllZip, insert}
use Rattle.std.specs.Vec.{vec_len}
use Rattle.std.specs.List.Sorted.{IsPermutation}
use Rattle.std.proofs.lemmas.List.Elements.{All-cons, AllZip-get_or}
use Rattle.std.proofs.lemmas.List.Sorted.{All-permutation, IsPermutation-insert}
use Rattle.std.proofs.lemmas.Slice.Zip.{AllZip-long}
use Rattle.grid_world.specs.Grid.{Grid}
use Rattle.frame_parts.specs.Distances.{DistancesOf, AllOn}

pub on_moved : (g : Grid) (all them : List DistancesOf) → IsPermutation all them → AllOn g all → AllOn g them
on_moved g all them moved on = All-permutation (λ d. d.ground ≡ g) all them moved on

pub on_more : (g : Grid) (all : List DistancesOf) (i : ℕ) (d : DistancesOf) → d.ground ≡ g → AllOn g all → AllOn g (insert all i d)
on_more g all i d is on =
    All-permutation (λ d. d.ground ≡ g) (d ∷ all) (insert all i d) (IsPermutation-insert all i d) (All-cons (λ d. d.ground ≡ g) d all is on)

pub on_copied : (g : Grid) (all them : List DistancesOf) → AllZip (λ d e. e ≡ d) all them → AllOn g all → AllOn g them
on_copied g all them same on k d h =
    ap (λ (e : DistancesOf). e.ground) (AllZip-get_or (λ d e. e ≡ d) all them k d d same (subst (λ n. k < n) (AllZip-long (λ d e. e ≡ d) all them same) h))
    ∙ on k d (subst (λ n. k < n) (AllZip-long (λ d e. e ≡ d) all them same) h)

-- what is written to is the list itself, or a copy of it
pub on_made : {A : Type 0} (g : Grid) (all them : Vec DistancesOf A) → (them ≡ all) ⊎ (AllZip (λ d e. e ≡ d) all.items them.items × (vec_len them ≡ vec_len all)) → AllOn g all.items → AllOn g them.items
on_made {A} g all them made on = ⊎_elim (λ same. subst (λ (v : Vec DistancesOf A). AllOn g v.items) (sym same) on) (λ copied. on_copied g all.items them.items copied.0 on) made
