-- What each call does to the counters and the ready fibers.
use Rattle.std.proofs.Common.{◌≡◌, ◌<◌, ℕ, zero, suc, ◌+◌, Bool, true, false, ◌==◌, List, [], ◌∷◌, ◌++◌, Option, Some, None, if◌then◌else◌, refl, sym, ap, ◌∙◌, subst, arith}
use Rattle.job_core.specs.Core.{Counter}
use Rattle.job_core.proofs.ByCases.{by_eq}
use Rattle.board_model.specs.Lists.{bit, tally, Priority, Three, all, add, drop_first, change_first}
use Rattle.board_model.specs.Board.{same_counter, Row, Held, has_key, raise, lowered, with_waiter, is_last, waiters_in, lower, woken, unless_kept, wait, wait_ready, wake, priority_on}
use Rattle.board_model.specs.Law.{is_for, is_ready, rows, RowFits, WaitsFit}
use Rattle.board_model.specs.Lists.{at}
use Rattle.board_model.proofs.Kit.{by_bool, tally_append, all_add}
use Rattle.board_model.proofs.Tables.{by_counter, counter_self, counter_other, counter_is, head, tail, change_head, first_is, rows_append, rows_change, rows_change_other, rows_drop, rows_drop_other}

pub row_same : (n m : ℕ) (b d : ℕ → Bool) (xs : List Row) → m ≡ n → (0 < n → (f : ℕ) → b f ≡ d f) → RowFits n b xs → RowFits m d xs
row_same n m b d [] e s h = e ∙ h
row_same n m b d (c ∷ []) e s h = (h.0 ∙ sym e, omega (arith, h.1), λ f. h.2 f ∙ ap bit (s h.1 f))
row_same n m b d (c ∷ x ∷ xs) e s h = h

row_empty : (n : ℕ) (b : ℕ → Bool) (xs : List Row) → n ≡ 0 → RowFits n b xs → xs ≡ []
row_empty n b [] e h = refl
row_empty n b (c ∷ []) e h = absurd (omega (arith, h.1))
row_empty n b (c ∷ x ∷ xs) e h = absurd h

append_nil : (xs : List Row) → xs ++ [] ≡ xs
append_nil [] = refl
append_nil (x ∷ xs) = ap (λ l. x ∷ l) (append_nil xs)

zero_is : (n m : ℕ) → n ≡ m → (n == 0) ≡ (m == 0)
zero_is n m e = ap (λ x. x == 0) e

pub ready_same : (n m : Counter → ℕ) (o : Option Counter) → ((k : Counter) → m k ≡ n k) → is_ready m o ≡ is_ready n o
ready_same n m None s = refl
ready_same n m (Some k) s = zero_is _ _ (s k)

ready_else : (n m : Counter → ℕ) (k : Counter) (o : Option Counter) → ((l : Counter) → (l ≡ k → ⊥) → m l ≡ n l) → is_for k o ≡ false → is_ready m o ≡ is_ready n o
ready_else n m k None s e = refl
ready_else n m k (Some l) s e = zero_is _ _ (s l (λ d. let t : same_counter k l ≡ true = subst (λ x. same_counter k x ≡ true) (sym d) (counter_self k) in absurd cc))

for_is : (k : Counter) (o : Option Counter) → is_for k o ≡ true → o ≡ Some k
for_is k None e = absurd cc
for_is k (Some l) e = ap Some (sym (counter_is k l e))

-- equal numbers and equal waits
pub waits_same : (n m : Counter → ℕ) (w v : ℕ → Option Counter) (cs : List Row) (r : List ℕ) → WaitsFit n w cs r → ((k : Counter) → m k ≡ n k) → ((f : ℕ) → v f ≡ w f) → WaitsFit m v cs r
waits_same n m w v cs r h a b = record {
  row = λ k. row_same (n k) (m k) (λ f. is_for k (w f)) (λ f. is_for k (v f)) (rows k cs) (a k) (λ p f. ap (is_for k) (sym (b f))) (h.row k);
  ready = λ f. h.ready f ∙ ap bit (sym (ready_same n m (v f) a ∙ ap (is_ready n) (b f)));
}

-- a counter is started at m
pub waits_raise : (n l : Counter → ℕ) (w : ℕ → Option Counter) (cs : List Row) (r : List ℕ) (k : Counter) (m : ℕ) → WaitsFit n w cs r → n k ≡ 0 → ((f : ℕ) → is_for k (w f) ≡ false) → l k ≡ m → ((x : Counter) → (x ≡ k → ⊥) → l x ≡ n x) → WaitsFit l w (raise k m cs) r
waits_raise n l w cs r k zero h z none e s = waits_same n l w w cs r h (λ x. by_counter x k (λ b. l x ≡ n x) (λ d. ap l d ∙ (e ∙ (sym z ∙ ap n (sym d)))) (λ d. s x d)) (λ f. refl)
waits_raise n l w cs r k (suc m) h z none e s = record {
  row = λ x. subst (λ xs. RowFits (l x) (λ f. is_for x (w f)) xs) (sym (rows_append x cs (new ∷ []))) (one x);
  ready = λ f. h.ready f ∙ ap bit (sym (ready_else n l k (w f) s (none f)));
}
  where
    new : Row
    new = record { key = k; left = suc m; waiters = [] }

    one : (x : Counter) → RowFits (l x) (λ f. is_for x (w f)) (rows x cs ++ rows x (new ∷ []))
    one x = by_counter x k (λ b. RowFits (l x) (λ f. is_for x (w f)) (rows x cs ++ (if b then (new ∷ []) else [])))
        (λ d. let q : rows x cs ≡ [] = row_empty (n x) (λ f. is_for x (w f)) (rows x cs) (ap n d ∙ z) (h.row x) in
        rw q (let y : l x ≡ suc m = ap l d ∙ e in (sym y, omega arith, λ f. ap bit (sym (ap (λ c. is_for c (w f)) d ∙ none f)))))
        (λ d. rw (append_nil (rows x cs)) (row_same (n x) (l x) (λ f. is_for x (w f)) (λ f. is_for x (w f)) (rows x cs) (s x d) (λ p f. refl) (h.row x)))

-- a ready fiber is taken
pub waits_leave : (n : Counter → ℕ) (w v : ℕ → Option Counter) (cs : List Row) (r t : List ℕ) (f : ℕ) (k : Counter) → WaitsFit n w cs r → w f ≡ Some k → n k ≡ 0 → v f ≡ None → ((g : ℕ) → (g ≡ f → ⊥) → v g ≡ w g) → ((g : ℕ) → tally (λ x. g == x) t + bit (g == f) ≡ tally (λ x. g == x) r) → WaitsFit n v cs t
waits_leave n w v cs r t f k h wf z vf s ts = record {
  row = λ l. row_same (n l) (n l) (λ g. is_for l (w g)) (λ g. is_for l (v g)) (rows l cs) refl (λ p g. by_eq g f (λ b. is_for l (w g) ≡ is_for l (v g))
      (λ d. let a : is_for l (w g) ≡ same_counter l k = ap (is_for l) (ap w d ∙ wf) in
      let c : is_for l (v g) ≡ false = ap (is_for l) (ap v d ∙ vf) in
      a ∙ (counter_other l k (λ x. let y : n l ≡ 0 = ap n x ∙ z in omega arith) ∙ sym c))
      (λ d. ap (is_for l) (sym (s g d)))) (h.row l);
  ready = λ g. by_eq g f (λ b. tally (λ x. g == x) t + bit b ≡ tally (λ x. g == x) r → tally (λ x. g == x) t ≡ bit (is_ready n (v g)))
      (λ d e. let a : bit (is_ready n (v g)) ≡ 0 = ap (λ o. bit (is_ready n o)) (ap v d ∙ vf) in
      let c : bit (is_ready n (w g)) ≡ 1 = ap (λ o. bit (is_ready n o)) (ap w d ∙ wf) ∙ ap bit (zero_is _ _ z) in
      let y = h.ready g in omega arith)
      (λ d e. let a : bit (is_ready n (v g)) ≡ bit (is_ready n (w g)) = ap (λ o. bit (is_ready n o)) (s g d) in let y = h.ready g in omega arith) (ts g);
}

-- a fiber waits
pub waits_wait : (n : Counter → ℕ) (w v : ℕ → Option Counter) (cs : List Row) (t : Three ℕ) (f : ℕ) (k : Counter) (p : Priority) → WaitsFit n w cs (all t) → w f ≡ None → v f ≡ Some k → ((g : ℕ) → (g ≡ f → ⊥) → v g ≡ w g) → WaitsFit n v (wait k f cs) (all (wait_ready k f p cs t))
waits_wait n w v cs t f k p h wf vf s = go (rows k cs) refl (h.row k)
  where
    keeps : (c : Row) → (with_waiter f c).key ≡ c.key
    keeps c = refl

    others : (l : Counter) → (l ≡ k → ⊥) → (g : ℕ) → is_for l (w g) ≡ is_for l (v g)
    others l ne g = by_eq g f (λ b. is_for l (w g) ≡ is_for l (v g))
        (λ d. let a : is_for l (w g) ≡ false = ap (is_for l) (ap w d ∙ wf) in
        let c : is_for l (v g) ≡ same_counter l k = ap (is_for l) (ap v d ∙ vf) in
        a ∙ sym (c ∙ counter_other l k ne))
        (λ d. ap (is_for l) (sym (s g d)))

    other_row : (l : Counter) → (l ≡ k → ⊥) → RowFits (n l) (λ g. is_for l (v g)) (rows l (wait k f cs))
    other_row l ne = subst (λ xs. RowFits (n l) (λ g. is_for l (v g)) xs) (sym (rows_change_other (with_waiter f) keeps k l ne cs))
        (row_same (n l) (n l) (λ g. is_for l (w g)) (λ g. is_for l (v g)) (rows l cs) refl (λ q g. others l ne g) (h.row l))

    each_row : (l : Counter) → RowFits (n k) (λ g. is_for k (v g)) (rows k (wait k f cs)) → RowFits (n l) (λ g. is_for l (v g)) (rows l (wait k f cs))
    each_row l mine = by_counter l k (λ b. RowFits (n l) (λ g. is_for l (v g)) (rows l (wait k f cs))) (λ d. subst (λ x. RowFits (n x) (λ g. is_for x (v g)) (rows x (wait k f cs))) (sym d) mine) (λ d. other_row l d)

    go : (xs : List Row) → rows k cs ≡ xs → RowFits (n k) (λ g. is_for k (w g)) xs → WaitsFit n v (wait k f cs) (all (wait_ready k f p cs t))
    go [] e r = record {
      row = λ l. each_row l (subst (λ xs. RowFits (n k) (λ g. is_for k (v g)) xs) (sym (rows_change (with_waiter f) keeps k cs ∙ ap (change_head (with_waiter f)) e)) r);
      ready = λ g. ap (λ o. tally (λ x. g == x) (all (unless_kept o f p t))) (first_is k cs ∙ ap head e) ∙ (all_add (λ x. g == x) p f t ∙ by_eq g f (λ b. tally (λ x. g == x) (all t) + bit b ≡ bit (is_ready n (v g)))
          (λ d. let a : bit (is_ready n (v g)) ≡ 1 = ap (λ o. bit (is_ready n o)) (ap v d ∙ vf) ∙ ap bit (zero_is _ _ r) in
          let c : bit (is_ready n (w g)) ≡ 0 = ap (λ o. bit (is_ready n o)) (ap w d ∙ wf) in
          let y = h.ready g in omega arith)
          (λ d. let a : bit (is_ready n (v g)) ≡ bit (is_ready n (w g)) = ap (λ o. bit (is_ready n o)) (s g d) in let y = h.ready g in omega arith));
    }
    go (c ∷ []) e r = record {
      row = λ l. each_row l (subst (λ xs. RowFits (n k) (λ g. is_for k (v g)) xs) (sym (rows_change (with_waiter f) keeps k cs ∙ ap (change_head (with_waiter f)) e)) (
        r.0,
        r.1,
        λ g. tally_append (λ x. g == x) c.waiters (f ∷ []) ∙ by_eq g f (λ b. tally (λ x. g == x) c.waiters + (bit b + 0) ≡ bit (is_for k (v g)))
            (λ d. let a : bit (is_for k (v g)) ≡ 1 = ap (λ o. bit (is_for k o)) (ap v d ∙ vf) ∙ ap bit (counter_self k) in
            let z : bit (is_for k (w g)) ≡ 0 = ap (λ o. bit (is_for k o)) (ap w d ∙ wf) in
            let y = r.2 g in omega arith)
            (λ d. let a : bit (is_for k (v g)) ≡ bit (is_for k (w g)) = ap (λ o. bit (is_for k o)) (s g d) in let y = r.2 g in omega arith),
      ));
      ready = λ g. ap (λ o. tally (λ x. g == x) (all (unless_kept o f p t))) (first_is k cs ∙ ap head e) ∙ (h.ready g ∙ by_eq g f (λ b. bit (is_ready n (w g)) ≡ bit (is_ready n (v g)))
          (λ d. let a : bit (is_ready n (v g)) ≡ bit (n k == 0) = ap (λ o. bit (is_ready n o)) (ap v d ∙ vf) in
          let z : bit (n k == 0) ≡ 0 = by_eq (n k) 0 (λ b. bit b ≡ 0) (λ q. absurd (omega (arith, r.1))) (λ q. refl) in
          let c : bit (is_ready n (w g)) ≡ 0 = ap (λ o. bit (is_ready n o)) (ap w d ∙ wf) in
          omega arith)
          (λ d. ap (λ o. bit (is_ready n o)) (sym (s g d))));
    }
    go (c ∷ d ∷ xs) e r = absurd r

wake_tally : (jobs : List (Option Held)) (g : ℕ) (t : Three ℕ) (fs : List ℕ) → tally (λ x. g == x) (all (wake jobs t fs)) ≡ tally (λ x. g == x) (all t) + tally (λ x. g == x) fs
wake_tally jobs g t [] = omega arith
wake_tally jobs g t (f ∷ fs) = let a = wake_tally jobs g (add (priority_on (at jobs f)) f t) fs in let b = all_add (λ x. g == x) (priority_on (at jobs f)) f t in omega arith

-- a counter is lowered
pub waits_lower : (n l : Counter → ℕ) (w : ℕ → Option Counter) (cs : List Row) (t : Three ℕ) (k : Counter) (jobs : List (Option Held)) → WaitsFit n w cs (all t) → n k ≡ suc (l k) → ((x : Counter) → (x ≡ k → ⊥) → l x ≡ n x) → WaitsFit l w (lower k cs) (all (wake jobs t (woken k cs)))
waits_lower n l w cs t k jobs h e s = go (rows k cs) refl (h.row k)
  where
    keeps : (c : Row) → (lowered c).key ≡ c.key
    keeps c = refl

    ready_for : (m : ℕ) → l k ≡ m → (g : ℕ) → is_for k (w g) ≡ true → (bit (is_ready n (w g)) ≡ 0) × (bit (is_ready l (w g)) ≡ bit (m == 0))
    ready_for m q g y =
        let d : w g ≡ Some k = for_is k (w g) y in
        (ap (λ o. bit (is_ready n o)) d ∙ by_eq (n k) 0 (λ b. bit b ≡ 0) (λ x. absurd (omega arith)) (λ x. refl), ap (λ o. bit (is_ready l o)) d ∙ ap (λ x. bit (x == 0)) q)

    row_by : (new : List Row) → RowFits (l k) (λ g. is_for k (w g)) (rows k new) → ((x : Counter) → (x ≡ k → ⊥) → rows x new ≡ rows x cs) → (x : Counter) → RowFits (l x) (λ g. is_for x (w g)) (rows x new)
    row_by new mine rest x = by_counter x k (λ b. RowFits (l x) (λ g. is_for x (w g)) (rows x new))
        (λ d. subst (λ y. RowFits (l y) (λ g. is_for y (w g)) (rows y new)) (sym d) mine)
        (λ d. subst (λ xs. RowFits (l x) (λ g. is_for x (w g)) xs) (sym (rest x d)) (row_same (n x) (l x) (λ g. is_for x (w g)) (λ g. is_for x (w g)) (rows x cs) (s x d) (λ p g. refl) (h.row x)))

    two : (c : Row) → rows k cs ≡ c ∷ [] → RowFits (n k) (λ g. is_for k (w g)) (c ∷ []) → (m : ℕ) → l k ≡ m → WaitsFit l w (if c.left == 1 then drop_first (has_key k) cs else change_first lowered (has_key k) cs) (all (wake jobs t (if c.left == 1 then c.waiters else [])))
    two c q r zero z =
        let one : c.left ≡ 1 = r.0 ∙ (e ∙ ap suc z) in
        rw one (record {
          row = row_by (drop_first (has_key k) cs) (subst (λ xs. RowFits (l k) (λ g. is_for k (w g)) xs) (sym (rows_drop k cs ∙ ap tail q)) z) (λ x d. rows_drop_other k x d cs);
          ready = λ g. wake_tally jobs g t c.waiters ∙ by_bool (is_for k (w g)) (λ b. is_for k (w g) ≡ b → tally (λ x. g == x) (all t) + tally (λ x. g == x) c.waiters ≡ bit (is_ready l (w g)))
              (λ y d. let a = ready_for 0 z g y in let a0 = a.0 in let a1 = a.1 in let o = h.ready g in let u = r.2 g in let v : bit (is_for k (w g)) ≡ 1 = ap bit y in omega arith)
              (λ y d. let a : bit (is_ready l (w g)) ≡ bit (is_ready n (w g)) = ap bit (ready_else n l k (w g) s y) in let o = h.ready g in let u = r.2 g in let v : bit (is_for k (w g)) ≡ 0 = ap bit y in omega arith) refl;
        })
    two c q r (suc m) z =
        let more : (c.left == 1) ≡ false = by_eq c.left 1 (λ b. b ≡ false) (λ y. absurd (omega (arith, r.0))) (λ y. refl) in
        rw more (record {
          row = row_by (change_first lowered (has_key k) cs) (subst (λ xs. RowFits (l k) (λ g. is_for k (w g)) xs) (sym (rows_change lowered keeps k cs ∙ ap (change_head lowered) q)) (omega (arith, r.0), omega arith, r.2)) (λ x d. rows_change_other lowered keeps k x d cs);
          ready = λ g. h.ready g ∙ by_bool (is_for k (w g)) (λ b. is_for k (w g) ≡ b → bit (is_ready n (w g)) ≡ bit (is_ready l (w g)))
              (λ y d. let a = ready_for (suc m) z g y in a.0 ∙ sym (a.1 ∙ by_eq (suc m) 0 (λ b. bit b ≡ 0) (λ x. absurd (omega arith)) (λ x. refl)))
              (λ y d. ap bit (sym (ready_else n l k (w g) s y))) refl;
        })

    go : (xs : List Row) → rows k cs ≡ xs → RowFits (n k) (λ g. is_for k (w g)) xs → WaitsFit l w (lower k cs) (all (wake jobs t (woken k cs)))
    go [] q r = absurd (omega arith)
    go (c ∷ []) q r = subst (λ o. WaitsFit l w (if is_last o then drop_first (has_key k) cs else change_first lowered (has_key k) cs) (all (wake jobs t (if is_last o then waiters_in o else [])))) (sym (first_is k cs ∙ ap head q)) (two c q r (l k) refl)
    go (c ∷ d ∷ xs) q r = absurd r
