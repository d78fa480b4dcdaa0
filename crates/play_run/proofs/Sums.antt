-- The numbers of the workers, added up, are the events that count for one of them.
use Rattle.std.proofs.Common.{◌≡◌, ℕ, zero, suc, ◌+◌, ◌*◌, ◌<◌, ◌≤◌, Bool, false, nat_lt, List, [], ◌∷◌, ◌++◌, length, take, cond, get_or, refl, sym, ap, ◌∙◌, subst, arith, add-one}
use Rattle.std.specs.Prelude.{count_by, sum, ◌==◌, slice_index}
use Rattle.std.specs.List.{sum_by}
use Rattle.std.proofs.lemmas.List.Sums.{sum_by-cons, sum_by_more}
use Rattle.std.proofs.lemmas.Bool.Decides.{nat_tests}
use Rattle.std.proofs.Math.Seq.{take-length}
use Rattle.job_core.specs.declared.names.JobName.TheVariants.{Logic, Think, Path, Draw}
use Rattle.job_core.specs.declared.names.Event.{Event}
use Rattle.job_core.specs.declared.names.Event.TheVariants.{Start, Resume, Ask, Spread, Hold, Finish, Emit, Stop}
use Rattle.job_core.specs.Core.{Setup, State, May, IsLegalFrom, IsLegalList, IsComplete, opening, state}
use Rattle.job_core.proofs.Keeping.{Apart, apart, after_more, legal_more}
use Rattle.job_core.specs.Draws.{ends_draw}
use Rattle.job_core.proofs.Draws.{draws_ended}
use Rattle.run_shared.specs.Counts.{names, names_worker}
use Rattle.play_run.specs.Reports.{ends_draw_of, AreCountsOf, AreStepsOf, AreBandsOf}

-- for how many of the first n workers it counts
abbrev first : (ℕ → Event → Bool) → ℕ → Event → ℕ
first counts zero e = 0
first counts (suc n) e = first counts n e + cond (counts n e) 1 0

none : (counts : ℕ → Event → Bool) (es : List Event) → sum_by (first counts 0) es ≡ 0
none counts [] = refl
none counts (e ∷ es) =
    let a : sum_by (first counts 0) (e ∷ es) ≡ 0 + sum_by (first counts 0) es = sum_by-cons (first counts 0) e es in
    let ih = none counts es in
    omega (arith, a, ih)

more : (counts : ℕ → Event → Bool) (n : ℕ) (es : List Event) → sum_by (first counts (suc n)) es ≡ sum_by (first counts n) es + count_by (counts n) es
more counts n [] = refl
more counts n (e ∷ es) =
    let a : sum_by (first counts (suc n)) (e ∷ es) ≡ (first counts n e + cond (counts n e) 1 0) + sum_by (first counts (suc n)) es = sum_by-cons (first counts (suc n)) e es in
    let b : sum_by (first counts n) (e ∷ es) ≡ first counts n e + sum_by (first counts n) es = sum_by-cons (first counts n) e es in
    let c : count_by (counts n) (e ∷ es) ≡ cond (counts n e) 1 0 + count_by (counts n) es = sum_by-cons (λ (x : Event). cond (counts n x) 1 0) e es in
    let ih = more counts n es in
    omega (arith, a, b, c, ih)

upto : (counts : ℕ → Event → Bool) (es : List Event) (numbers : List ℕ) → ((k : ℕ) → k < length numbers → slice_index numbers k ≡ count_by (counts k) es) → (n : ℕ) → n ≤ length numbers
    → sum (take n numbers) ≡ sum_by (first counts n) es
upto counts es numbers each zero le = sym (none counts es)
upto counts es numbers each (suc n) le =
    let ih = upto counts es numbers each n (omega arith) in
    let a : sum (take (n + 1) numbers) ≡ sum (take n numbers) + get_or numbers n 0 = sum_by_more (λ (x : ℕ). x) numbers n 0 (omega arith) in
    let b = each n (omega arith) in
    let c = more counts n es in
    ap (λ (k : ℕ). sum (take k numbers)) (sym (add-one n)) ∙ omega (arith, ih, a, b, c)

-- ---- for how many workers one event counts

by_number : (w n : ℕ) → cond {A = ℕ} (nat_lt w (n + 1)) 1 0 ≡ cond {A = ℕ} (nat_lt w n) 1 0 + cond {A = ℕ} (w == n) 1 0
by_number w n = grind (arith, nat_tests)

none_below : (w : ℕ) → cond {A = ℕ} (nat_lt w 0) 1 0 ≡ 0
none_below w = grind (arith, nat_tests)

known : (w n : ℕ) → w < n → cond {A = ℕ} (nat_lt w n) 1 0 ≡ 1
known w n h = grind (arith, nat_tests)

for_one : (counts : ℕ → Event → Bool) (e : Event) (w : ℕ) → ((k : ℕ) → counts k e ≡ (w == k)) → (n : ℕ) → first counts n e ≡ cond {A = ℕ} (nat_lt w n) 1 0
for_one counts e w is zero = sym (none_below w)
for_one counts e w is (suc n) =
    let a = for_one counts e w is n in
    let b : cond {A = ℕ} (counts n e) 1 0 ≡ cond {A = ℕ} (w == n) 1 0 = ap (λ (x : Bool). cond {A = ℕ} x 1 0) (is n) in
    let c : cond {A = ℕ} (nat_lt w (suc n)) 1 0 ≡ cond {A = ℕ} (nat_lt w n) 1 0 + cond {A = ℕ} (w == n) 1 0 = ap (λ (k : ℕ). cond {A = ℕ} (nat_lt w k) 1 0) (sym (add-one n)) ∙ by_number w n in
    omega (arith, a, b, c)

once : (counts : ℕ → Event → Bool) (e : Event) (w : ℕ) → ((k : ℕ) → counts k e ≡ (w == k)) → (n : ℕ) → w < n → first counts n e ≡ 1
once counts e w is n low = for_one counts e w is n ∙ known w n low

never : (counts : ℕ → Event → Bool) (e : Event) → ((k : ℕ) → counts k e ≡ false) → (n : ℕ) → first counts n e ≡ 0
never counts e is zero = refl
never counts e is (suc n) =
    let a = never counts e is n in
    let b : cond {A = ℕ} (counts n e) 1 0 ≡ 0 = ap (λ (x : Bool). cond {A = ℕ} x 1 0) (is n) in
    omega (arith, a, b)

-- an event that may happen counts for one worker of the run, or for none
abbrev CountsForOne : Setup → (ℕ → Event → Bool) → (Event → Bool) → Type 0
CountsForOne s counts one = (st : State) → Apart s st → (e : Event) → May s st e → first counts s.workers e ≡ cond {A = ℕ} (one e) 1 0

names_one : (s : Setup) → CountsForOne s names names_worker
names_one s st a (Start w j) m = once names (Start w j) w (λ k. refl) s.workers m.0
names_one s st a (Resume w j) m = once names (Resume w j) w (λ k. refl) s.workers m.0
names_one s st a (Ask w (Logic f)) m = absurd m
names_one s st a (Ask w (Think f i)) m = once names (Ask w (Think f i)) w (λ k. refl) s.workers (a.below (Think f i) w m.0 m.1)
names_one s st a (Ask w (Path f i q)) m = absurd m
names_one s st a (Ask w (Draw f b)) m = absurd m
names_one s st a (Spread w (Logic f)) m = once names (Spread w (Logic f)) w (λ k. refl) s.workers (a.below (Logic f) w 0 m.0)
names_one s st a (Spread w (Think f i)) m = absurd m
names_one s st a (Spread w (Path f i q)) m = absurd m
names_one s st a (Spread w (Draw f b)) m = absurd m
names_one s st a (Hold w (Logic f)) m = once names (Hold w (Logic f)) w (λ k. refl) s.workers (a.below (Logic f) w 0 m.0)
names_one s st a (Hold w (Think f i)) m = absurd m
names_one s st a (Hold w (Path f i q)) m = absurd m
names_one s st a (Hold w (Draw f b)) m = absurd m
names_one s st a (Finish w j) m = once names (Finish w j) w (λ k. refl) s.workers (a.below j w m.0 m.1)
names_one s st a (Emit f) m = never names (Emit f) (λ k. refl) s.workers
names_one s st a Stop m = never names Stop (λ k. refl) s.workers

draws_one : (s : Setup) → CountsForOne s ends_draw_of ends_draw
draws_one s st a (Start w j) m = never ends_draw_of (Start w j) (λ k. refl) s.workers
draws_one s st a (Resume w j) m = never ends_draw_of (Resume w j) (λ k. refl) s.workers
draws_one s st a (Ask w j) m = never ends_draw_of (Ask w j) (λ k. refl) s.workers
draws_one s st a (Spread w j) m = never ends_draw_of (Spread w j) (λ k. refl) s.workers
draws_one s st a (Hold w j) m = never ends_draw_of (Hold w j) (λ k. refl) s.workers
draws_one s st a (Finish w (Logic f)) m = never ends_draw_of (Finish w (Logic f)) (λ k. refl) s.workers
draws_one s st a (Finish w (Think f i)) m = never ends_draw_of (Finish w (Think f i)) (λ k. refl) s.workers
draws_one s st a (Finish w (Path f i q)) m = never ends_draw_of (Finish w (Path f i q)) (λ k. refl) s.workers
draws_one s st a (Finish w (Draw f b)) m = once ends_draw_of (Finish w (Draw f b)) w (λ k. refl) s.workers (a.below (Draw f b) w m.0 m.1)
draws_one s st a (Emit f) m = never ends_draw_of (Emit f) (λ k. refl) s.workers
draws_one s st a Stop m = never ends_draw_of Stop (λ k. refl) s.workers

all_for_one : (s : Setup) (counts : ℕ → Event → Bool) (one : Event → Bool) → CountsForOne s counts one → (front rest : List Event) → IsLegalList s front → IsLegalFrom s (state s front) rest
    → sum_by (first counts s.workers) rest ≡ count_by one rest
all_for_one s counts one each front [] legal h = refl
all_for_one s counts one each front (e ∷ es) legal h =
    let a : sum_by (first counts s.workers) (e ∷ es) ≡ first counts s.workers e + sum_by (first counts s.workers) es = sum_by-cons (first counts s.workers) e es in
    let b : count_by one (e ∷ es) ≡ cond (one e) 1 0 + count_by one es = sum_by-cons (λ (x : Event). cond (one x) 1 0) e es in
    let d = each (state s front) (apart s front legal) e h.0.1 in
    let ih = all_for_one s counts one each (front ++ e ∷ []) es (legal_more s front e legal h.0) (subst (λ st. IsLegalFrom s st es) (sym (after_more s front (opening s) e)) h.1) in
    omega (arith, a, b, d, ih)

sum_counts : (s : Setup) (counts : ℕ → Event → Bool) (one : Event → Bool) → CountsForOne s counts one → (es : List Event) (numbers : List ℕ) → IsLegalList s es
    → AreCountsOf counts s.workers es numbers → sum numbers ≡ count_by one es
sum_counts s counts one for_each es numbers legal (len, each) =
    let a = upto counts es numbers (λ k low. each k (omega (arith, len))) (length numbers) (omega arith) in
    sym (ap sum (take-length numbers)) ∙ a ∙ ap (λ (n : ℕ). sum_by (first counts n) es) len ∙ all_for_one s counts one for_each [] es tt legal

pub sum_steps : (s : Setup) (es : List Event) (steps : List ℕ) → IsLegalList s es → AreStepsOf s.workers es steps → sum steps ≡ count_by names_worker es
sum_steps s es steps legal are = sum_counts s names names_worker (names_one s) es steps legal are

pub sum_drawn : (s : Setup) (es : List Event) (bands : List ℕ) → IsLegalList s es → AreBandsOf s.workers es bands → sum bands ≡ count_by ends_draw es
sum_drawn s es bands legal are = sum_counts s ends_draw_of ends_draw (draws_one s) es bands legal are

pub sum_bands : (s : Setup) (es : List Event) (bands : List ℕ) → IsComplete s es → AreBandsOf s.workers es bands → sum bands ≡ s.frames * s.bands
sum_bands s es bands complete are = sum_drawn s es bands complete.0 are ∙ draws_ended s es complete
