-- The numbers counted up: one by one, as the cells of a row, and what is tested or made of each.
use Rattle.std.proofs.Common.{◌≡◌, ℕ, zero, suc, ◌+◌, ◌-◌, ◌<◌, ◌≤◌, List, [], ◌∷◌, ◌++◌, map, length, get_or, refl, sym, ap, ◌∙◌, arith, Bool, true, false, ◌&&◌, Option, Some, None, append_assoc}
use Rattle.std.specs.List.{list_all, filter_map, cons_option}
use Rattle.std.proofs.lemmas.List.{append-nil}
use Rattle.grid_world.specs.Map.{count_up}

pub get_or-map-count_up : {X : Type 0} (f : ℕ → X) (a n i : ℕ) (d : X) → i < n
    → get_or (map f (count_up a n)) i d ≡ f (a + i)
unfolding count_up
get_or-map-count_up f a zero i d h = absurd (omega arith)
get_or-map-count_up f a (suc n) zero d h = let e : a ≡ a + zero = omega arith in ap f e
get_or-map-count_up f a (suc n) (suc i) d h =
    let e : suc a + i ≡ a + suc i = omega arith in get_or-map-count_up f (suc a) n i d (omega arith) ∙ ap f e

pub length-map-count_up : {X : Type 0} (f : ℕ → X) (a n : ℕ) → length (map f (count_up a n)) ≡ n
unfolding count_up
length-map-count_up f a zero = refl
length-map-count_up f a (suc n) = ap suc (length-map-count_up f (suc a) n)

count_up-more : (i n m : ℕ) → n ≡ suc m → count_up i n ≡ i ∷ count_up (i + 1) m
unfolding count_up
count_up-more i n m e = let next : suc i ≡ i + 1 = omega arith in rw (e, ← next) refl

-- the numbers that are left, from i up to n
pub count_up-left : (i n : ℕ) → i < n → count_up i (n - i) ≡ i ∷ count_up (i + 1) (n - (i + 1))
count_up-left i n h = count_up-more i (n - i) (n - (i + 1)) (omega arith)

pub count_up-none_left : (i n : ℕ) → n ≤ i → count_up i (n - i) ≡ []
unfolding count_up
count_up-none_left i n h = let e : n - i ≡ 0 = omega arith in rw e refl

-- a test of the numbers that are left: one is tested, one fails, none is left
module _ (test : ℕ → Bool) (k n : ℕ) (all : Bool) where
  one_tested : k < n → list_all test (count_up k (n - k))
      ≡ (test k && list_all test (count_up (k + 1) (n - (k + 1))))
  one_tested h = ap (list_all test) (count_up-left k n h)

  pub passed_one : k < n → test k ≡ true → list_all test (count_up k (n - k)) ≡ all
      → list_all test (count_up (k + 1) (n - (k + 1))) ≡ all
  passed_one h t e = sym (one_tested h ∙ ap (λ t. t && list_all test (count_up (k + 1) (n - (k + 1)))) t) ∙ e

  pub failed_one : k < n → test k ≡ false → list_all test (count_up k (n - k)) ≡ all → false ≡ all
  failed_one h t e = sym (one_tested h ∙ ap (λ t. t && list_all test (count_up (k + 1) (n - (k + 1)))) t) ∙ e

  pub passed_all : n ≤ k → list_all test (count_up k (n - k)) ≡ all → true ≡ all
  passed_all h e = sym (ap (list_all test) (count_up-none_left k n h)) ∙ e

-- items made of the numbers that are left
module _ {X : Type 0} (make : ℕ → Option X) (k n : ℕ) (made all : List X) where
  pub made_one : k < n → made ++ filter_map make (count_up k (n - k)) ≡ all
      → (made ++ cons_option (make k) []) ++ filter_map make (count_up (k + 1) (n - (k + 1))) ≡ all
  made_one h e = joined (make k) ∙ sym (ap (λ ks. made ++ filter_map make ks) (count_up-left k n h)) ∙ e
    where
      joined : (o : Option X) → (made ++ cons_option o []) ++ filter_map make (count_up (k + 1) (n - (k + 1)))
          ≡ made ++ cons_option o (filter_map make (count_up (k + 1) (n - (k + 1))))
      joined None = ap (λ xs. xs ++ filter_map make (count_up (k + 1) (n - (k + 1)))) (append-nil made)
      joined (Some x) = append_assoc made (x ∷ []) (filter_map make (count_up (k + 1) (n - (k + 1))))

  pub made_all : n ≤ k → made ++ filter_map make (count_up k (n - k)) ≡ all → made ≡ all
  made_all h e = sym (append-nil made)
      ∙ sym (ap (λ ks. made ++ filter_map make ks) (count_up-none_left k n h)) ∙ e
