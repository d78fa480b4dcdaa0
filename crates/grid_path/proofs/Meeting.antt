-- One visit after another.
use Rattle.std.proofs.Common.{◌≡◌, ℕ, ◌+◌, ◌<◌, ◌≤◌, ◌⊎◌, inl, inr, Bool, true, sym, subst, ◌∙◌, arith, ⊎_elim, refl}
use Rattle.std.proofs.lemmas.Bool.{cases_Bool, cases_lt, both_ways}
use Rattle.grid_world.specs.declared.cell.Dir.{Dir}
use Rattle.grid_world.specs.declared.cell.Dir.TheVariants.{North, East, South, West}
use Rattle.grid_path.specs.Bordered.{IsNext}
use Rattle.grid_path.specs.Levels.{IsBeside, Meets}

-- no cell is met
pub meets_none : (P : ℕ → Type 0) (u : ℕ → Bool) (q : ℕ → ℕ) (m : ℕ) → ((i : ℕ) → P i → ⊥) → Meets P u u q q m m
meets_none P u q m none = record {
  grows = omega arith;
  keeps = λ l _. refl;
  falls = λ i e. e;
  all = λ i p. absurd (none i p);
  only = λ i e f. absurd (both_ways (u i) f e);
  queued = λ l from to. absurd (omega (arith, from, to));
}

-- the cells of P, and then those of Q
pub meets_both : (P Q R : ℕ → Type 0) (u u' u'' : ℕ → Bool) (q q' q'' : ℕ → ℕ) (m m' m'' : ℕ)
    → Meets P u u' q q' m m' → Meets Q u' u'' q' q'' m' m''
    → ((i : ℕ) → P i → R i) → ((i : ℕ) → Q i → R i) → ((i : ℕ) → R i → P i ⊎ Q i)
    → Meets R u u'' q q'' m m''
meets_both P Q R u u' u'' q q' q'' m m' m'' one two left right parts = record {
  grows = (let a = one.grows in let b = two.grows in omega (arith, a, b));
  keeps = λ l low. two.keeps l (let a = one.grows in omega (arith, a, low)) ∙ one.keeps l low;
  falls = λ i e. two.falls i (one.falls i e);
  all = λ i r. ⊎_elim (λ p. two.falls i (one.all i p)) (λ p. two.all i p) (parts i r);
  only = λ i e f. ⊎_elim (λ there. later i (two.only i there f)) (λ gone. earlier i (one.only i e gone)) (cases_Bool (u' i));
  queued = λ l from to. ⊎_elim (λ low. old l from low) (λ high. new l high to) (cases_lt l m');
}
  where
    earlier : (i : ℕ) → P i × ((l : ℕ) × (m ≤ l) × (l < m') × (q' l ≡ i)) → R i × ((l : ℕ) × (m ≤ l) × (l < m'') × (q'' l ≡ i))
    earlier i (p, (l, from, to, e)) =
        let b = two.grows in (left i p, (l, from, omega (arith, b, to), two.keeps l to ∙ e))

    later : (i : ℕ) → Q i × ((l : ℕ) × (m' ≤ l) × (l < m'') × (q'' l ≡ i)) → R i × ((l : ℕ) × (m ≤ l) × (l < m'') × (q'' l ≡ i))
    later i (p, (l, from, to, e)) = let a = one.grows in (right i p, (l, omega (arith, a, from), to, e))

    old : (l : ℕ) → m ≤ l → l < m' → R (q'' l) × (u (q'' l) ≡ true)
    old l from low =
        let e = sym (two.keeps l low) in
        let was = one.queued l from low in
        (subst R e (left (q' l) was.0), subst (λ (i : ℕ). u i ≡ true) e was.1)

    new : (l : ℕ) → m' ≤ l → l < m'' → R (q'' l) × (u (q'' l) ≡ true)
    new l high to =
        let now = two.queued l high to in (
          right (q'' l) now.0,
          ⊎_elim (λ there. there) (λ gone. absurd (both_ways (u' (q'' l)) (one.falls (q'' l) gone) now.1)) (cases_Bool (u (q'' l))),
        )

abbrev IsEither : ℕ → ℕ → ℕ → Type 0
IsEither a b i = (i ≡ a) ⊎ (i ≡ b)

-- the four cells around a cell
pub meets_around : (s cell north east south west : ℕ) → north + s ≡ cell → east ≡ cell + 1 → south ≡ cell + s → west + 1 ≡ cell
    → (u u1 u2 u3 u4 : ℕ → Bool) (q q1 q2 q3 q4 : ℕ → ℕ) (m m1 m2 m3 m4 : ℕ)
    → Meets (λ i. i ≡ north) u u1 q q1 m m1 → Meets (λ i. i ≡ east) u1 u2 q1 q2 m1 m2
    → Meets (λ i. i ≡ south) u2 u3 q2 q3 m2 m3 → Meets (λ i. i ≡ west) u3 u4 q3 q4 m3 m4
    → Meets (λ i. (d : Dir) × IsNext s d i cell) u u4 q q4 m m4
meets_around s cell north east south west en ee es ew u u1 u2 u3 u4 q q1 q2 q3 q4 m m1 m2 m3 m4 a b c d =
    let ab = meets_both (λ i. i ≡ north) (λ i. i ≡ east) (IsEither north east) u u1 u2 q q1 q2 m m1 m2 a b (λ i e. inl e) (λ i e. inr e) (λ i r. r) in
    let cd = meets_both (λ i. i ≡ south) (λ i. i ≡ west) (IsEither south west) u2 u3 u4 q2 q3 q4 m2 m3 m4 c d (λ i e. inl e) (λ i e. inr e) (λ i r. r) in
    meets_both (IsEither north east) (IsEither south west) (λ i. (d : Dir) × IsNext s d i cell) u u2 u4 q q2 q4 m m2 m4 ab cd
    (λ i r. ⊎_elim (λ e. (South, omega (arith, e, en))) (λ e. (West, omega (arith, e, ee))) r)
    (λ i r. ⊎_elim (λ e. (North, omega (arith, e, es))) (λ e. (East, omega (arith, e, ew))) r)
    side
  where
    side : (i : ℕ) → (d : Dir) × IsNext s d i cell → IsEither north east i ⊎ IsEither south west i
    side i (North, e) = inr (inl (omega (arith, e, es)))
    side i (East, e) = inr (inr (omega (arith, e, ew)))
    side i (South, e) = inl (inl (omega (arith, e, en)))
    side i (West, e) = inl (inr (omega (arith, e, ee)))

-- one more cell of a level
pub meets_more : (s : ℕ) (u u' u'' : ℕ → Bool) (q q' q'' : ℕ → ℕ) (head l end m m' : ℕ) → head ≤ l → l < end
    → Meets (IsBeside s q head l) u u' q q' end m → Meets (λ i. (d : Dir) × IsNext s d i (q' l)) u' u'' q' q'' m m'
    → Meets (IsBeside s q head (l + 1)) u u'' q q'' end m'
meets_more s u u' u'' q q' q'' head l end m m' from to one two =
    meets_both (IsBeside s q head l) (λ i. (d : Dir) × IsNext s d i (q' l)) (IsBeside s q head (l + 1)) u u' u'' q q' q'' end m m' one two
    (λ i (j, low, high, d, next). (j, low, omega (arith, high), d, next))
    (λ i (d, next). (l, from, omega arith, d, subst (λ (x : ℕ). IsNext s d i x) (one.keeps l to) next))
    parts
  where
    parts : (i : ℕ) → IsBeside s q head (l + 1) i → IsBeside s q head l i ⊎ ((d : Dir) × IsNext s d i (q' l))
    parts i (j, low, high, d, next) =
        ⊎_elim (λ lt. inl (j, low, lt, d, next)) (λ ge. inr (last j (omega (arith, high, ge)) d next)) (cases_lt j l)
      where
        last : (j : ℕ) → l ≡ j → (d : Dir) → IsNext s d i (q j) → (d : Dir) × IsNext s d i (q' l)
        last j e d next = (d, subst (λ (x : ℕ). IsNext s d i x) (sym (one.keeps l to)) (subst (λ (x : ℕ). IsNext s d i (q x)) (sym e) next))
