-- The wants of the nodes that act and are Running, by number.
use Rattle.std.proofs.Common.{◌≡◌, ◌∙◌, ◌≢◌, ◌<◌, ◌≤◌, ◌+◌, ◌++◌, ◌∷◌, [], ◌&&◌, ℕ, Bool, true, false, List, sym, ap, refl, arith, length, get_or, append_assoc, get_or-set_other}
use Rattle.std.specs.Prelude.{Option, Some, None, slice_set}
use Rattle.grid_world.specs.declared.cell.Intent.{Intent}
use Rattle.bt_nodes.specs.declared.node.Status.{Status}
use Rattle.bt_nodes.specs.declared.node.Status.TheVariants.{Success, Failure, Running}
use Rattle.bt_nodes.specs.Plain.{Plain}
use Rattle.game_rules.specs.View.{View}
use Rattle.stepping.specs.Answered.{written}
use Rattle.btworld_c.specs.Wants.{want_of}
use Rattle.btworld_c.specs.Intents.{acts}

abbrev pub is_running : Option Status → Bool
is_running (Some Running) = true
is_running (Some Success) = false
is_running (Some Failure) = false
is_running None = false

abbrev pub one_if : Bool → Intent → List Intent
one_if true i = i ∷ []
one_if false i = []

abbrev pub Told : Type 0
Told = List (Option Status)

-- of nodes behind one another, of which the first has the number n
abbrev pub picked : View → List Plain → ℕ → Told → List Intent
picked v [] n told = []
picked v (q ∷ qs) n told = one_if (acts q && is_running (get_or told n None)) (want_of v q) ++ picked v qs (n + 1) told

module _ (v : View) where
  pub picked_append : (xs ys : List Plain) (n : ℕ) (told : Told) → picked v (xs ++ ys) n told ≡ picked v xs n told ++ picked v ys (n + length xs) told
  picked_append [] ys n told = let e : n ≡ n + 0 = omega arith in ap (λ k. picked v ys k told) e
  picked_append (x ∷ xs) ys n told =
      let own : List Intent = one_if (acts x && is_running (get_or told n None)) (want_of v x) in
      let e : n + 1 + length xs ≡ n + length (x ∷ xs) = omega arith in
      ap (λ l. own ++ l) (picked_append xs ys (n + 1) told ∙ ap (λ k. picked v xs (n + 1) told ++ picked v ys k told) e)
      ∙ sym (append_assoc own (picked v xs (n + 1) told) (picked v ys (n + length (x ∷ xs)) told))

  pub picked_local : (xs : List Plain) (n : ℕ) (told later : Told) → ((k : ℕ) → n ≤ k → k < n + length xs → get_or told k None ≡ get_or later k None)
      → picked v xs n told ≡ picked v xs n later
  picked_local [] n told later same = refl
  picked_local (x ∷ xs) n told later same =
      ap (λ o. one_if (acts x && is_running o) (want_of v x) ++ picked v xs (n + 1) told) (same n (omega arith) (omega arith))
      ∙ ap (λ l. one_if (acts x && is_running (get_or later n None)) (want_of v x) ++ l) (picked_local xs (n + 1) told later (λ k a b. same k (omega (arith, a)) (omega (arith, b))))

  nothing : (b : Bool) (i : Intent) → one_if (b && false) i ≡ []
  nothing true i = refl
  nothing false i = refl

  pub picked_none : (xs : List Plain) (n : ℕ) (told : Told) → ((k : ℕ) → n ≤ k → k < n + length xs → get_or told k None ≡ None) → picked v xs n told ≡ []
  picked_none [] n told none = refl
  picked_none (x ∷ xs) n told none =
      ap (λ o. one_if (acts x && is_running o) (want_of v x) ++ picked v xs (n + 1) told) (none n (omega arith) (omega arith))
      ∙ ap (λ l. l ++ picked v xs (n + 1) told) (nothing (acts x) (want_of v x))
      ∙ picked_none xs (n + 1) told (λ k a b. none k (omega (arith, a)) (omega (arith, b)))

-- ---- answers of a range of nodes

abbrev pub Within : (lo hi : ℕ) → List (ℕ × Status) → Type 0
Within lo hi [] = Unit {0}
Within lo hi (x ∷ xs) = (lo ≤ x.0) × (x.0 < hi) × Within lo hi xs

pub within_append : (lo hi : ℕ) (xs ys : List (ℕ × Status)) → Within lo hi xs → Within lo hi ys → Within lo hi (xs ++ ys)
within_append lo hi [] ys a b = b
within_append lo hi (x ∷ xs) ys a b = (a.0, a.1, within_append lo hi xs ys a.2 b)

pub within_wider : (lo hi lo' hi' : ℕ) (xs : List (ℕ × Status)) → lo' ≤ lo → hi ≤ hi' → Within lo hi xs → Within lo' hi' xs
within_wider lo hi lo' hi' [] l h a = tt
within_wider lo hi lo' hi' (x ∷ xs) l h a = (omega (arith, l, a.0), omega (arith, h, a.1), within_wider lo hi lo' hi' xs l h a.2)

pub outside : (lo hi : ℕ) (xs : List (ℕ × Status)) (told : Told) (k : ℕ) → ((j : ℕ) → lo ≤ j → j < hi → k ≢ j) → Within lo hi xs → get_or (written xs told) k None ≡ get_or told k None
outside lo hi [] told k off a = refl
outside lo hi (x ∷ xs) told k off a = outside lo hi xs (slice_set told x.0 (Some x.1)) k off a.2 ∙ get_or-set_other told x.0 k (Some x.1) None (off x.0 a.0 a.1)
