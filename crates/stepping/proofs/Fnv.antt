-- A digest that takes in the parts of a list one after another.
use Rattle.std.proofs.Common.{◌≡◌, ◌<◌, ◌≤◌, ℕ, suc, ◌+◌, List, [], ◌∷◌, ◌++◌, length, map, get_or, drop, Bool, false, if◌then◌else◌, refl, sym, ap, ◌∙◌, arith}
use Rattle.std.specs.List.{flat_map}
use Rattle.std.proofs.lemmas.List.{drop_more, drop_all}
use Rattle.stepping.specs.Digest.{fnv, fnv_all, bytes, bit, item_bytes}

pub in_turn : (h : ℕ) (front back : List ℕ) → fnv_all h (front ++ back) ≡ fnv_all (fnv_all h front) back
in_turn h [] back = refl
in_turn h (b ∷ bs) back = in_turn (fnv h b) bs back

-- one part more
pub part_in : (h : ℕ) (front part : List ℕ) (r whole : ℕ) → r ≡ fnv_all h front → whole ≡ fnv_all r part → whole ≡ fnv_all h (front ++ part)
part_in h front part r whole e f = f ∙ ap (λ k. fnv_all k part) e ∙ sym (in_turn h front part)

-- five parts, and what is taken in with each
pub five_in : (h : ℕ) (a b c d e : List ℕ) (r₁ r₂ r₃ r₄ r₅ : ℕ) → r₁ ≡ fnv_all h a → r₂ ≡ fnv_all r₁ b → r₃ ≡ fnv_all r₂ c → r₄ ≡ fnv_all r₃ d → r₅ ≡ fnv_all r₄ e
    → r₅ ≡ fnv_all h (a ++ b ++ c ++ d ++ e)
five_in h a b c d e r₁ r₂ r₃ r₄ r₅ e₁ e₂ e₃ e₄ e₅ =
    let two : r₂ ≡ fnv_all h (a ++ b) = e₂ ∙ ap (λ r. fnv_all r b) e₁ ∙ sym (in_turn h a b) in
    let three : r₃ ≡ fnv_all h (a ++ b ++ c) = e₃ ∙ ap (λ r. fnv_all r c) two ∙ sym (in_turn h (a ++ b) c) in
    let four : r₄ ≡ fnv_all h (a ++ b ++ c ++ d) = e₄ ∙ ap (λ r. fnv_all r d) three ∙ sym (in_turn h (a ++ b ++ c) d) in
    e₅ ∙ ap (λ r. fnv_all r e) four ∙ sym (in_turn h (a ++ b ++ c ++ d) e)

-- seven parts
pub seven_in : (h : ℕ) (a b c d e f g : List ℕ) (r₁ r₂ r₃ r₄ r₅ r₆ r₇ : ℕ) → r₁ ≡ fnv_all h a → r₂ ≡ fnv_all r₁ b → r₃ ≡ fnv_all r₂ c → r₄ ≡ fnv_all r₃ d → r₅ ≡ fnv_all r₄ e
    → r₆ ≡ fnv_all r₅ f → r₇ ≡ fnv_all r₆ g → r₇ ≡ fnv_all h (a ++ b ++ c ++ d ++ e ++ f ++ g)
seven_in h a b c d e f g r₁ r₂ r₃ r₄ r₅ r₆ r₇ e₁ e₂ e₃ e₄ e₅ e₆ e₇ =
    let two : r₂ ≡ fnv_all h (a ++ b) = part_in h a b r₁ r₂ e₁ e₂ in
    let three : r₃ ≡ fnv_all h (a ++ b ++ c) = part_in h (a ++ b) c r₂ r₃ two e₃ in
    let four : r₄ ≡ fnv_all h (a ++ b ++ c ++ d) = part_in h (a ++ b ++ c) d r₃ r₄ three e₄ in
    let five : r₅ ≡ fnv_all h (a ++ b ++ c ++ d ++ e) = part_in h (a ++ b ++ c ++ d) e r₄ r₅ four e₅ in
    let six : r₆ ≡ fnv_all h (a ++ b ++ c ++ d ++ e ++ f) = part_in h (a ++ b ++ c ++ d ++ e) f r₅ r₆ five e₆ in
    part_in h (a ++ b ++ c ++ d ++ e ++ f) g r₆ r₇ six e₇

-- ---- what is left of a list

module _ {X : Type 0} (of : X → List ℕ) (xs : List X) (i h whole : ℕ) where
  pub next_in : (d x : X) (next : ℕ) → i < length xs → get_or xs i d ≡ x → next ≡ fnv_all h (of x)
      → fnv_all h (flat_map of (drop i xs)) ≡ whole → fnv_all next (flat_map of (drop (i + 1) xs)) ≡ whole
  next_in d x next lt is e w =
      ap (λ k. fnv_all k (flat_map of (drop (i + 1) xs))) e
      ∙ sym (in_turn h (of x) (flat_map of (drop (i + 1) xs)))
      ∙ sym (ap (λ y. fnv_all h (of y ++ flat_map of (drop (i + 1) xs))) is)
      ∙ sym (ap (λ l. fnv_all h (flat_map of l)) (drop_more xs i d lt))
      ∙ w

  pub each_in : (x : X) (next : ℕ) → i < length xs → get_or xs i x ≡ x → next ≡ fnv_all h (of x)
      → fnv_all h (flat_map of (drop i xs)) ≡ whole → fnv_all next (flat_map of (drop (i + 1) xs)) ≡ whole
  each_in x next lt is e w = next_in x x next lt is e w

  pub all_in : length xs ≤ i → fnv_all h (flat_map of (drop i xs)) ≡ whole → h ≡ whole
  all_in le w = sym (ap (λ l. fnv_all h (flat_map of l)) (drop_all i xs le)) ∙ w

module _ (on : List Bool) (i h whole : ℕ) where
  pub bit_in : (b : Bool) (next : ℕ) → i < length on → get_or on i false ≡ b → next ≡ fnv h (bit b)
      → fnv_all h (map bit (drop i on)) ≡ whole → fnv_all next (map bit (drop (i + 1) on)) ≡ whole
  bit_in b next lt is e w =
      ap (λ k. fnv_all k (map bit (drop (i + 1) on))) (e ∙ sym (ap (λ x. fnv h (bit x)) is))
      ∙ sym (ap (λ l. fnv_all h (map bit l)) (drop_more on i false lt))
      ∙ w

  pub bits_in : length on ≤ i → fnv_all h (map bit (drop i on)) ≡ whole → h ≡ whole
  bits_in le w = sym (ap (λ l. fnv_all h (map bit l)) (drop_all i on le)) ∙ w

-- ---- items

module _ (items : List Bool) (i h whole : ℕ) where
  pub item_in : (here : Bool) (next : ℕ) → i < length items → get_or items i false ≡ here → next ≡ fnv_all h (if here then bytes 4 i else [])
      → fnv_all h (item_bytes i (drop i items)) ≡ whole → fnv_all next (item_bytes (i + 1) (drop (i + 1) items)) ≡ whole
  item_in here next lt is e w =
      let n : i + 1 ≡ suc i = omega arith in
      let rest : List ℕ = item_bytes (suc i) (drop (i + 1) items) in
      ap (λ k. fnv_all next (item_bytes k (drop (i + 1) items))) n
      ∙ ap (λ k. fnv_all k rest) e
      ∙ sym (in_turn h (if here then bytes 4 i else []) rest)
      ∙ sym (ap (λ b. fnv_all h ((if b then bytes 4 i else []) ++ rest)) is)
      ∙ sym (ap (λ l. fnv_all h (item_bytes i l)) (drop_more items i false lt))
      ∙ w

  pub items_in : length items ≤ i → fnv_all h (item_bytes i (drop i items)) ≡ whole → h ≡ whole
  items_in le w = sym (ap (λ l. fnv_all h (item_bytes i l)) (drop_all i items le)) ∙ w
