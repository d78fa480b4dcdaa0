-- Numbers counted up, and what is joined along them.
use Rattle.std.proofs.Common.{◌≡◌, ◌<◌, ◌≤◌, ℕ, zero, suc, ◌+◌, ◌-◌, ◌*◌, List, [], ◌∷◌, ◌++◌, map, length, get_or, refl, sym, ap, ◌∙◌, arith, append_assoc, append-nil}
use Rattle.std.specs.List.{flat_map}
use Rattle.std.proofs.lemmas.List.{length-append, get_or_append_left, get_or-append-add}
use Rattle.grid_world.specs.Map.{count_up}

pub count_up-zero : (i : ℕ) → count_up i 0 ≡ []
unfolding count_up
count_up-zero i = refl

pub count_up-suc : (i n : ℕ) → count_up i (suc n) ≡ i ∷ count_up (suc i) n
unfolding count_up
count_up-suc i n = refl

pub length-count_up : (i n : ℕ) → length (count_up i n) ≡ n
length-count_up i zero = rw count_up-zero refl
length-count_up i (suc n) = rw count_up-suc (ap suc (length-count_up (suc i) n))

pub count_up-append : (i m n : ℕ) → count_up i (m + n) ≡ count_up i m ++ count_up (i + m) n
count_up-append i zero n =
    let e : zero + n ≡ n = omega arith in let f : i + zero ≡ i = omega arith in rw (e, f, count_up-zero) refl
count_up-append i (suc m) n =
    let e : suc m + n ≡ suc (m + n) = omega arith in
    let f : i + suc m ≡ suc i + m = omega arith in
    rw (e, f, count_up-suc i (m + n), count_up-suc i m) (ap (λ l. i ∷ l) (count_up-append (suc i) m n))

-- pieces of one length each
pub length-flat_map-count_up : (f : ℕ → List ℕ) (k i n : ℕ) → ((j : ℕ) → length (f j) ≡ k) → length (flat_map f (count_up i n)) ≡ k * n
length-flat_map-count_up f k i zero h = rw count_up-zero (omega arith)
length-flat_map-count_up f k i (suc n) h =
    let rest = length-flat_map-count_up f k (suc i) n h in
    let more : k * suc n ≡ k + k * n = omega arith in
    rw (count_up-suc, length-append (f i) (flat_map f (count_up (suc i) n)), h i, rest, more) refl

-- an element of one of them
pub piece_at : (f : ℕ → List ℕ) (k i n row x d : ℕ) → ((j : ℕ) → length (f j) ≡ k) → row < n → x < k
    → get_or (flat_map f (count_up i n)) (k * row + x) d ≡ get_or (f (i + row)) x d
piece_at f k i zero row x d all r c = absurd (omega arith)
piece_at f k i (suc n) zero x d all r c =
    let len = all i in
    let e : k * zero + x ≡ x = omega arith in
    let g : i + zero ≡ i = omega arith in
    rw (count_up-suc, e, g) (get_or_append_left (f i) (flat_map f (count_up (suc i) n)) d x (omega (arith, len)))
piece_at f k i (suc n) (suc row) x d all r c =
    let len = all i in
    let e : k * suc row + x ≡ length (f i) + (k * row + x) = omega (arith, len) in
    let g : i + suc row ≡ suc i + row = omega arith in
    rw (count_up-suc, e, g) (get_or-append-add (f i) (flat_map f (count_up (suc i) n)) (k * row + x) d
    ∙ piece_at f k (suc i) n row x d all (omega arith) c)

-- what is left to count, one number on and at the end
count_up-left : (i n : ℕ) → i < n → count_up i (n - i) ≡ i ∷ count_up (i + 1) (n - (i + 1))
count_up-left i n h =
    let e : n - i ≡ suc (n - (i + 1)) = omega arith in
    let f : i + 1 ≡ suc i = omega arith in
    rw (e, f, count_up-suc) refl

count_up-end : (i n : ℕ) → n ≤ i → count_up i (n - i) ≡ []
count_up-end i n h = let e : n - i ≡ 0 = omega arith in rw (e, count_up-zero) refl

pub pieces_more : (f : ℕ → List ℕ) (done after whole : List ℕ) (i n : ℕ) → i < n → after ≡ done ++ f i
    → done ++ flat_map f (count_up i (n - i)) ≡ whole → after ++ flat_map f (count_up (i + 1) (n - (i + 1))) ≡ whole
pieces_more f done after whole i n h e w =
    ap (λ l. l ++ flat_map f (count_up (i + 1) (n - (i + 1)))) e
    ∙ append_assoc done (f i) (flat_map f (count_up (i + 1) (n - (i + 1))))
    ∙ ap (λ l. done ++ flat_map f l) (sym (count_up-left i n h)) ∙ w

pub pieces_end : (f : ℕ → List ℕ) (done whole : List ℕ) (i n : ℕ) → n ≤ i → done ++ flat_map f (count_up i (n - i)) ≡ whole → done ≡ whole
pieces_end f done whole i n h w = sym (append-nil done) ∙ ap (λ l. done ++ flat_map f l) (sym (count_up-end i n h)) ∙ w

-- what is made of the numbers that are left: one more, and the last
pub one_more : {X : Type 0} (make : ℕ → X) (i n : ℕ) (done longer whole : List X) → i < n → longer ≡ done ++ make i ∷ []
    → done ++ map make (count_up i (n - i)) ≡ whole → longer ++ map make (count_up (i + 1) (n - (i + 1))) ≡ whole
one_more make i n done longer whole h e w =
    ap (λ l. l ++ map make (count_up (i + 1) (n - (i + 1)))) e
    ∙ append_assoc done (make i ∷ []) (map make (count_up (i + 1) (n - (i + 1))))
    ∙ ap (λ l. done ++ map make l) (sym (count_up-left i n h)) ∙ w

pub all_made : {X : Type 0} (make : ℕ → X) (i n : ℕ) (done whole : List X) → n ≤ i → done ++ map make (count_up i (n - i)) ≡ whole → done ≡ whole
all_made make i n done whole h w = sym (append-nil done) ∙ ap (λ l. done ++ map make l) (sym (count_up-end i n h)) ∙ w
