-- Memories that fit their trees, one after another.
use Rattle.std.proofs.Common.{◌≡◌, ℕ, ◌+◌, ◌<◌, List, [], ◌∷◌, ◌++◌, length, map, get_or, take, sym, ap, ◌∙◌, subst, arith, ⊎_elim}
use Rattle.std.proofs.Math.Seq.{get_or-append_seam}
use Rattle.std.proofs.lemmas.Bool.{cases_lt}
use Rattle.std.proofs.lemmas.List.{get_or_append_left, take_more, map-append}
use Rattle.bt_nodes.specs.Plain.{Plain}
use Rattle.bt_nodes.specs.Bounds.{Fits}

-- the first memories fit the trees of the first things
abbrev pub FitSoFar : {X : Type 0} → (X → Plain) → List X → List (List ℕ) → ℕ → Type 0
FitSoFar {X} tree xs ms n = (k : ℕ) (d : X) → k < n → Fits (tree (get_or xs k d)) (get_or ms k [])

pub fit_more : {X : Type 0} (tree : X → Plain) (xs : List X) (ms : List (List ℕ)) (m : List ℕ) (i : ℕ) → length ms ≡ i → FitSoFar tree xs ms i
    → ((d : X) → Fits (tree (get_or xs i d)) m) → FitSoFar tree xs (ms ++ m ∷ []) (i + 1)
fit_more {X} tree xs ms m i count fit new k d h =
    let P : List ℕ → Type 0 = λ l. Fits (tree (get_or xs k d)) l in
    ⊎_elim
    (λ below. subst P (sym (get_or_append_left ms (m ∷ []) [] k (omega arith))) (fit k d below))
    (λ above.
    let at : k ≡ i = omega arith in
    let e : m ≡ get_or (ms ++ m ∷ []) k [] = sym (get_or-append_seam ms m [] []) ∙ ap (λ j. get_or (ms ++ m ∷ []) j []) (count ∙ sym at) in
    let Q : ℕ → Type 0 = λ j. Fits (tree (get_or xs j d)) m in
    subst P e (subst Q (sym at) (new d)))
    (cases_lt k i)

-- one more of what is made of a list's first
pub took_more : {X Y : Type 0} (f : X → Y) (xs : List X) (done : List Y) (y : Y) (i : ℕ) (d x : X) → i < length xs → get_or xs i d ≡ x → y ≡ f x
    → done ≡ map f (take i xs) → done ++ y ∷ [] ≡ map f (take (i + 1) xs)
took_more f xs done y i d x h e is so_far =
    ap (λ l. l ++ y ∷ []) so_far ∙ ap (λ n. map f (take i xs) ++ n ∷ []) (is ∙ ap f (sym e))
    ∙ sym (ap (map f) (take_more xs i d h) ∙ map-append f (take i xs) (get_or xs i d ∷ []))
