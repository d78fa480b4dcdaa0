-- Entries of lists: what stands at a place, where one is written, and where none was.
use Rattle.std.proofs.Common.{◌≡◌, ◌<◌, ℕ, zero, suc, List, [], ◌∷◌, Option, Some, length, replicate, slice_get, slice_set, refl, sym, ap, ◌∙◌, arith}
use Rattle.board_model.specs.Lists.{at}
use Rattle.board_model.proofs.Kit.{length_write, at_here, at_other}
use Rattle.board_model.proofs.Bridges.{write_is}

pub length_set : {X : Type 0} (xs : List X) (i : ℕ) (y : X) → length (slice_set xs i y) ≡ length xs
length_set xs i y = ap length (sym (write_is xs i y)) ∙ length_write xs i y

pub length_replicate : {X : Type 0} (n : ℕ) (x : X) → length (replicate n x) ≡ n
length_replicate zero x = refl
length_replicate (suc n) x = let h = length_replicate n x in omega arith

pub get_here : {X : Type 0} (xs : List X) (i : ℕ) (y : X) → i < length xs → slice_get (slice_set xs i y) i ≡ Some y
get_here [] i y l = absurd (omega arith)
get_here (x ∷ xs) zero y l = refl
get_here (x ∷ xs) (suc i) y l = get_here xs i y (omega arith)

pub get_other : {X : Type 0} (xs : List X) (i k : ℕ) (y : X) → (k ≡ i → ⊥) → slice_get (slice_set xs i y) k ≡ slice_get xs k
get_other (x ∷ xs) zero zero y n = absurd (n refl)
get_other (x ∷ xs) (suc i) (suc k) y n = get_other xs i k y (λ e. n (ap suc e))
get_other _ _ _ y n = refl

pub get_first : {X : Type 0} (n i : ℕ) (x : X) → i < n → slice_get (replicate n x) i ≡ Some x
get_first zero i x l = absurd (omega arith)
get_first (suc n) zero x l = refl
get_first (suc n) (suc i) x l = get_first n i x (omega arith)

pub get_at : {X : Type 0} (xs : List (Option X)) (i : ℕ) → i < length xs → slice_get xs i ≡ Some (at xs i)
get_at [] i l = absurd (omega arith)
get_at (x ∷ xs) zero l = refl
get_at (x ∷ xs) (suc i) l = get_at xs i (omega arith)

pub at_set : {X : Type 0} (xs : List (Option X)) (i : ℕ) (y : Option X) → i < length xs → at (slice_set xs i y) i ≡ y
at_set xs i y l = ap (λ ys. at ys i) (sym (write_is xs i y)) ∙ at_here xs i y l

pub at_set_other : {X : Type 0} (xs : List (Option X)) (i k : ℕ) (y : Option X) → (k ≡ i → ⊥) → at (slice_set xs i y) k ≡ at xs k
at_set_other xs i k y n = ap (λ ys. at ys k) (sym (write_is xs i y)) ∙ at_other xs i k y n
