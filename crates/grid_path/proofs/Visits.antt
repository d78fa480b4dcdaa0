-- What one level of the search makes of the next, and what the levels say of walks.
use Rattle.std.proofs.Common.{◌≡◌, ℕ, zero, suc, ◌+◌, ◌<◌, ◌≤◌, ◌⊎◌, inl, inr, Bool, true, false, sym, subst, arith, ⊎_elim}
use Rattle.std.proofs.lemmas.Bool.{both_ways, cases_Bool, cases_lt}
use Rattle.grid_path.specs.Bordered.{IsNext}
use Rattle.grid_path.specs.Levels.{Reaches, IsBeside, Meets, IsPassed, Level}

module _ (open_at : ℕ → Bool) (s goal : ℕ) where
  -- a cell that is met in a level was met before, or stands beside the level
  was_met : {unmet unmet' : ℕ → Bool} {queue queue' : ℕ → ℕ} {head met met' : ℕ} → Meets (IsBeside s queue head met) unmet unmet' queue queue' met met'
      → (i : ℕ) → unmet' i ≡ false
      → (unmet i ≡ false) ⊎ (IsBeside s queue head met i × ((l : ℕ) × (met ≤ l) × (l < met') × (queue' l ≡ i)))
  was_met {unmet} m i gone = ⊎_elim (λ there. inr (m.only i there gone)) (λ was. inl was) (cases_Bool (unmet i))

  beside_reaches : {unmet : ℕ → Bool} {queue : ℕ → ℕ} {head met k : ℕ} → Level open_at s goal unmet queue head met k
      → (i : ℕ) → IsBeside s queue head met i → Reaches open_at s goal (suc k) i
  beside_reaches {queue} v i (l, from, to, d, next) = let c = v.level l from to in (d, queue l, next, c.0, c.1)

  was_unmet : {unmet unmet' : ℕ → Bool} {queue queue' : ℕ → ℕ} {head met met' : ℕ} → Meets (IsBeside s queue head met) unmet unmet' queue queue' met met'
      → (i : ℕ) → unmet' i ≡ true → unmet i ≡ true
  was_unmet {unmet} {unmet'} m i there =
      ⊎_elim (λ was. was) (λ gone. absurd (both_ways (unmet' i) (m.falls i gone) there)) (cases_Bool (unmet i))

  next_met : {unmet unmet' : ℕ → Bool} {queue queue' : ℕ → ℕ} {head met met' k : ℕ} → Level open_at s goal unmet queue head met k
      → Meets (IsBeside s queue head met) unmet unmet' queue queue' met met'
      → (i n : ℕ) → open_at i ≡ true → (n ≤ k) ⊎ (n ≡ suc k) → Reaches open_at s goal n i → unmet' i ≡ false
  next_met v m i n here (inl low) walk = m.falls i (v.lower i n here low walk)
  next_met {unmet} {unmet'} {queue} {queue'} {head} {met} {met'} {k} v m i n here (inr e) walk =
      from (subst (λ (j : ℕ). Reaches open_at s goal j i) e walk)
    where
      from : Reaches open_at s goal (suc k) i → unmet' i ≡ false
      from (d, c, next, there, rest) =
          ⊎_elim
          (λ place. m.all i (place.0, place.1, place.2, d, subst (λ (x : ℕ). IsNext s d i x) (sym place.3) next))
          (λ passed. m.falls i (passed.closed d i next here))
          (v.rest c there (v.lower c k there (omega arith) rest))

  pub next_level : {unmet unmet' : ℕ → Bool} {queue queue' : ℕ → ℕ} {head met met' k : ℕ} → Level open_at s goal unmet queue head met k
      → Meets (IsBeside s queue head met) unmet unmet' queue queue' met met'
      → Level open_at s goal unmet' queue' met met' (k + 1)
  next_level {unmet} {unmet'} {queue} {queue'} {head} {met} {met'} {k} v m = record {
    within = m.grows;
    open_only = λ i there. v.open_only i (was_unmet m i there);
    lower = λ i n here low walk. next_met v m i n here (last n low) walk;
    level = λ l from to.
        let q = m.queued l from to in
        (v.open_only (queue' l) q.1, one_more (queue' l) (beside_reaches v (queue' l) q.0));
    rest = λ i here gone. ⊎_elim (λ was. inr (passed i here was)) (λ new. inl new.1) (was_met m i gone);
  }
    where
      one_more : (i : ℕ) → Reaches open_at s goal (suc k) i → Reaches open_at s goal (k + 1) i
      one_more i walk = let e : suc k ≡ k + 1 = omega arith in subst (λ (n : ℕ). Reaches open_at s goal n i) e walk

      passed : (i : ℕ) → open_at i ≡ true → unmet i ≡ false → IsPassed open_at s goal unmet' (k + 1) i
      passed i here was = ⊎_elim from_level before (v.rest i here was)
        where
          from_level : (l : ℕ) × (head ≤ l) × (l < met) × (queue l ≡ i) → IsPassed open_at s goal unmet' (k + 1) i
          from_level (l, from, to, e) = record {
            walk = (k, omega arith, subst (λ (c : ℕ). Reaches open_at s goal k c) e (v.level l from to).1);
            closed = λ d j next there. m.all j (l, from, to, d, subst (λ (x : ℕ). IsNext s d j x) (sym e) next);
          }

          before : IsPassed open_at s goal unmet k i → IsPassed open_at s goal unmet' (k + 1) i
          before p = record {
            walk = (let w = p.walk in (w.0, omega (arith, w.1), w.2));
            closed = λ d j next there. m.falls j (p.closed d j next there);
          }

      last : (n : ℕ) → n ≤ k + 1 → (n ≤ k) ⊎ (n ≡ suc k)
      last n low = ⊎_elim (λ l. inl (omega (arith, l))) (λ l. inr (omega (arith, l, low))) (cases_lt n (suc k))

  -- a met cell has a walk
  pub near : {unmet : ℕ → Bool} {queue : ℕ → ℕ} {head met k : ℕ} → Level open_at s goal unmet queue head met k
      → (i : ℕ) → open_at i ≡ true → unmet i ≡ false → (n : ℕ) × (n ≤ k) × Reaches open_at s goal n i
  near {unmet} {queue} {head} {met} {k} v i here gone =
      ⊎_elim
      (λ place. (k, omega arith, subst (λ (c : ℕ). Reaches open_at s goal k c) place.3 (v.level place.0 place.1 place.2).1))
      (λ passed. let w = passed.walk in (w.0, omega (arith, w.1), w.2))
      (v.rest i here gone)

  -- where a level is empty, every cell with a walk has been met
  pub all_met : {unmet : ℕ → Bool} {queue : ℕ → ℕ} {met k : ℕ} → Level open_at s goal unmet queue met met k
      → (n i : ℕ) → open_at i ≡ true → Reaches open_at s goal n i → unmet i ≡ false
  all_met v zero i here walk = v.lower i 0 here (omega arith) walk
  all_met v (suc n) i here (d, c, next, there, rest) =
      ⊎_elim (λ place. absurd (omega (arith, place.1, place.2))) (λ passed. passed.closed d i next here)
      (v.rest c there (all_met v n c there rest))
