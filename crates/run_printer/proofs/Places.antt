-- The places of a frame's bands: what is seen of them when one is filled or emptied.
use Rattle.std.proofs.Common.{◌≡◌, ℕ, zero, suc, ◌<◌, ◌≤◌, ◌⊎◌, inl, inr, List, [], ◌∷◌, Option, Some, None, option_map, length, map, replicate, get_or, set, sym, ap, ◌∙◌, refl, arith}
use Rattle.std.proofs.lemmas.List.{map-set, set_past, length-map, get_or-map}
use Rattle.run_printer.specs.Tables.{AreAtTheirNumbers}

-- a number of what lies at each place
abbrev pub each : {X : Type 0} → (X → ℕ) → List (Option X) → List (Option ℕ)
each f places = map (λ place. option_map f place) places

pub each-set : {X : Type 0} (f : X → ℕ) (places : List (Option X)) (i : ℕ) (o : Option X) → each f (set places i o) ≡ set (each f places) i (option_map f o)
each-set f places i o = map-set (λ place. option_map f place) places i o

pub each-none : {X : Type 0} (f : X → ℕ) (n : ℕ) → each f (replicate n None) ≡ replicate n None
each-none f zero = refl
each-none f (suc n) = ap (λ (l : List (Option ℕ)). None ∷ l) (each-none f n)

pub each-length : {X : Type 0} (f : X → ℕ) (places : List (Option X)) → length (each f places) ≡ length places
each-length f places = length-map places (λ place. option_map f place)

-- what is seen of a place that there is
pub each-at : {X : Type 0} (f : X → ℕ) (places : List (Option X)) (i : ℕ) (o : Option X) → i < length places → o ≡ get_or places i o
    → get_or (each f places) i None ≡ option_map f o
each-at f places i o h e = get_or-map (λ place. option_map f place) places i o None h ∙ ap (λ place. option_map f place) (sym e)

none-there : (n i : ℕ) (o : Option ℕ) → o ≡ None → get_or (replicate n o) i None ≡ None
none-there zero i o e = refl
none-there (suc n) zero o e = e
none-there (suc n) (suc i) o e = none-there n i o e

pub none_numbered : (numbers : List (Option ℕ)) (n : ℕ) → numbers ≡ replicate n None → AreAtTheirNumbers numbers
none_numbered numbers n e place number h =
    let there : get_or numbers place None ≡ None = ap (λ l. get_or l place None) e ∙ none-there n place None refl in
    let wrong : Some number ≡ None = sym h ∙ there in
    cc

-- a place is the one that is written, or as it was
set_cases : (xs : List (Option ℕ)) (i k : ℕ) (o : Option ℕ) → ((k ≡ i) × (get_or (set xs i o) k None ≡ o)) ⊎ (get_or (set xs i o) k None ≡ get_or xs k None)
set_cases [] i k o = inr refl
set_cases (x ∷ xs) zero zero o = inl (refl, refl)
set_cases (x ∷ xs) zero (suc k) o = inr refl
set_cases (x ∷ xs) (suc i) zero o = inr refl
set_cases (x ∷ xs) (suc i) (suc k) o = elim (set_cases xs i k o) [ inl w ↦ inl (ap suc w.0, w.1) | inr e ↦ inr e ]

pub set_numbered : (numbers : List (Option ℕ)) (i : ℕ) (o : Option ℕ) → ((n : ℕ) → o ≡ Some n → n ≡ i) → AreAtTheirNumbers numbers → AreAtTheirNumbers (set numbers i o)
set_numbered numbers i o own before place number h =
    elim (set_cases numbers i place o) [ inl w ↦ own number (sym w.1 ∙ h) ∙ sym w.0 | inr e ↦ before place number (sym e ∙ h) ]

pub some_same : (a b : ℕ) → Some a ≡ Some b → a ≡ b
some_same a b e = cc

-- where there is no such place, all are as they were
pub unwritten_is : {X : Type 0} (f : X → ℕ) (places : List (Option X)) (i n : ℕ) (o : Option ℕ) (old : List (Option ℕ)) → each f places ≡ old → i ≡ n → length places ≤ i
    → each f places ≡ set old n o
unwritten_is f places i n o old before e past =
    let beyond : length old ≤ n = omega (arith, past, e, each-length f places, ap length before) in
    before ∙ sym (set_past old n o beyond)

-- ---- a place that is filled

pub filled_is : {X : Type 0} (f : X → ℕ) (places : List (Option X)) (i n : ℕ) (x : X) (old : List (Option ℕ)) → each f places ≡ old → i ≡ n
    → each f (set places i (Some x)) ≡ set old n (Some (f x))
filled_is f places i n x old before e =
    each-set f places i (Some x) ∙ ap (λ l. set l i (Some (f x))) before ∙ ap (λ k. set old k (Some (f x))) e

pub filled_numbered : {X : Type 0} (f : X → ℕ) (places : List (Option X)) (i : ℕ) (x : X) → i ≡ f x → AreAtTheirNumbers (each f places)
    → AreAtTheirNumbers (each f (set places i (Some x)))
filled_numbered f places i x e before =
    rw (each-set f places i (Some x)) (set_numbered (each f places) i (Some (f x)) (λ n h. sym (some_same (f x) n h) ∙ sym e) before)

-- ---- a place that is emptied

pub emptied_is : {X : Type 0} (f : X → ℕ) (places : List (Option X)) (i : ℕ) (o : Option X) → o ≡ None → each f (set places i o) ≡ set (each f places) i None
emptied_is f places i o e = each-set f places i o ∙ ap (λ p. set (each f places) i (option_map f p)) e

pub emptied_numbered : {X : Type 0} (f : X → ℕ) (places : List (Option X)) (i : ℕ) (o : Option X) → o ≡ None → AreAtTheirNumbers (each f places)
    → AreAtTheirNumbers (each f (set places i o))
emptied_numbered f places i o e before =
    rw (emptied_is f places i o e) (set_numbered (each f places) i None (λ n h. let wrong : None ≡ Some n = h in cc) before)
