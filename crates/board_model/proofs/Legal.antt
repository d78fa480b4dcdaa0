-- What the code's tests say of the state: each is a legal event, and each legal event passes.
use Rattle.std.proofs.Common.{◌≡◌, ◌≤◌, ◌<◌, ◌⊎◌, ◌↔◌, ℕ, zero, suc, ◌-◌, Bool, true, false, not, ◌&&◌, ◌==◌, nat_lt, List, [], ◌∷◌, Option, Some, None, if◌then◌else◌, refl, sym, ap, ◌∙◌, subst, inl, inr, arith}
use Rattle.job_core.specs.declared.names.JobName.{JobName}
use Rattle.job_core.specs.declared.names.JobName.TheVariants.{Logic, Think, Path, Draw}
use Rattle.job_core.specs.declared.names.Size.{Size}
use Rattle.job_core.specs.declared.names.Event.{Event}
use Rattle.job_core.specs.declared.names.Event.TheVariants.{Start, Resume, Emit}
use Rattle.job_core.specs.Core.{Setup, IsJob, same, Phase, Absent, Queued, Runs, Waits, Finished, State, held, size_of, free, HasFiber, left, unfinished, awaited, Counter, Draws, Shown, IsIdle, IsReady, IsLegal, May}
use Rattle.job_core.proofs.ByCases.{by_eq, by_lt, by_le}
use Rattle.job_core.proofs.Sums.{total_same}
use Rattle.job_core.proofs.Rank.{draw_waits}
use Rattle.job_core.proofs.Shape.{Shape, there, logic_next, asked, ThinkFits, IsUnderWay, PathFits, DrawFits, IsSimple}
use Rattle.board_model.specs.Lists.{bit, tally, at, first_place, all}
use Rattle.board_model.specs.Board.{Core, Held, Row, taken_of, has_fiber, runner, holds, first_row}
use Rattle.board_model.specs.Law.{queued, pending, has_spread, number, standing, StandsAs, waits_by, waits_of, is_for, is_ready, rows, RowFits, Fits}
use Rattle.board_model.proofs.Numbers.{number_le}
use Rattle.board_model.specs.Pick.{Pick, Ready, New, given}
use Rattle.board_model.proofs.Picks.{pick_none, pick_some}
use Rattle.board_model.proofs.Tables.{head, first_is}
use Rattle.board_model.proofs.Entries.{waiting_at, running_at, idle_at, free_of}

-- ---- for a job that waits the number is what is left

pending_there : (p : Phase) → (p ≡ Absent → ⊥) → pending p ≡ unfinished p
pending_there Absent n = absurd (n refl)
pending_there _ n = refl

way_there : (q : ℕ) (p : Phase) → IsUnderWay q p → p ≡ Absent → ⊥
way_there q p h e = subst (IsUnderWay q) e h

simple_there : (p : Phase) → IsSimple p → p ≡ Absent → ⊥
simple_there p h e = subst IsSimple e h

module _ (s : Setup) (st : State) (inv : Shape s st) (p : 0 < s.slots) where
  pub number_left : (j : JobName) (n : ℕ) → st.phase j ≡ Waits n → number s st (awaited s j n) ≡ left s st (awaited s j n)
  number_left (Logic f) zero q =
      let e : f ≡ suc inv.turned = logic_next s st inv f (λ y. cc) (λ y. cc) in
      by_le (f - s.slots) st.emitted (λ x. bit (has_spread (st.phase (Logic (f - s.slots))) && nat_lt st.emitted (f - s.slots)) ≡ (let y : ℕ = if x then 0 else 1 in y))
      (λ l. by_lt st.emitted (f - s.slots) (λ x. bit (has_spread (st.phase (Logic (f - s.slots))) && x) ≡ 0) (λ o. absurd (omega arith)) (λ o. and_false (has_spread (st.phase (Logic (f - s.slots))))))
      (λ l. let z : st.phase (Logic (f - s.slots)) ≡ Finished = inv.early (f - s.slots) (omega arith) (omega arith) in
      ap (λ y. bit (has_spread y && nat_lt st.emitted (f - s.slots))) z ∙ by_lt st.emitted (f - s.slots) (λ x. bit x ≡ 1) (λ o. refl) (λ o. absurd (omega arith)))
    where
      and_false : (b : Bool) → bit (b && false) ≡ 0
      and_false true = refl
      and_false false = refl
  number_left (Logic f) (suc n) q = total_same s.agents _ _ (λ a l. pending_there (st.phase (Think f a)) (way_there (s.questions f a) (st.phase (Think f a)) (subst (λ y. ThinkFits (s.questions f a) y (st.phase (Think f a))) q (inv.think f a (there s st inv (Logic f) (λ y. cc)) l))))
  number_left (Think f a) n q =
      let v : IsJob s (Think f a) = there s st inv (Think f a) (λ y. cc) in
      let d = asked (s.questions f a) n (st.phase (Logic f)) (subst (λ y. ThinkFits (s.questions f a) (st.phase (Logic f)) y) q (inv.think f a v.0 v.1)) in
      pending_there (st.phase (Path f a (n - 1))) (simple_there (st.phase (Path f a (n - 1))) ((subst (λ y. PathFits (n - 1) y (st.phase (Path f a (n - 1)))) q (inv.path f a (n - 1) v.0 v.1 (omega (arith, d.0, d.1)))).1 (omega (arith, d.0))))
  number_left (Path f a i) n q = ap pending q ∙ sym (ap unfinished q)
  number_left (Draw f b) n q =
      let v : IsJob s (Draw f b) = there s st inv (Draw f b) (λ y. cc) in
      absurd (draw_waits n (st.phase (Logic f)) (st.phase (Draw f b)) (inv.draw f b v.0 v.1) q)

module _ (s : Setup) (st : State) (inv : Shape s st) (c : Core) (h : Fits s c st) where
  -- ---- workers

  pub is_idle : (w : ℕ) → (at c.seats.workers w ≡ None) ↔ IsIdle st w
  is_idle w = (λ e j k q. let x = running_at s c.seats st.phase h.seats j w k q in let y = sym e ∙ x.0 in cc, λ i. idle_at s c.seats st.phase h.seats st refl w i)

  -- what a worker that is busy runs
  pub it_runs : (w f : ℕ) → at c.seats.workers w ≡ Some f → (x : Held) × (at c.seats.jobs f ≡ Some x) × (st.phase x.job ≡ Runs w x.step)
  it_runs w f e = go (at c.seats.jobs f) refl (h.seats.stands f) (h.seats.runs w f e)
    where
      go : (o : Option Held) → at c.seats.jobs f ≡ o → StandsAs st.phase o → runner o ≡ Some w → (x : Held) × (at c.seats.jobs f ≡ Some x) × (st.phase x.job ≡ Runs w x.step)
      go None a b d = absurd cc
      go (Some x) a b d = (x, a, b ∙ ap (λ y. standing y x.step) d)

  -- ---- queues

  pub free_is : (z : Size) → tally not (taken_of c.seats z) ≡ free s st z
  free_is z = let a = free_of s c.seats st.phase h.seats z in let b = h.seats.live z in omega arith

  pub fiber_is : (j : JobName) → (has_fiber c.seats j ≡ true) ↔ HasFiber s st j
  fiber_is j =
      let d = free_is (size_of j) in
      by_lt 0 (tally not (taken_of c.seats (size_of j))) (λ b. (b ≡ true) ↔ HasFiber s st j) (λ l. (λ e. omega arith, λ m. refl)) (λ l. (λ e. absurd cc, λ m. absurd (omega arith)))

  queued_one : (q : Phase) → 0 < queued q → q ≡ Queued
  queued_one Queued l = refl
  queued_one _ l = absurd (omega arith)

  pub fresh_is : (j : JobName) → (0 < tally (same j) (all c.queues.fresh)) ↔ (st.phase j ≡ Queued)
  fresh_is j =
      let a = h.queues j in
      (λ l. queued_one (st.phase j) (omega arith), λ q. let b : queued (st.phase j) ≡ 1 = ap queued q in omega arith)

  pub ready_back : (j : JobName) → IsReady s st j → 0 < tally (λ g. first_place (holds j) c.seats.jobs == g) (all c.queues.ready)
  ready_back j r =
      let entry = waiting_at s c.seats st.phase h.seats j r.0 r.1 in
      let a = h.waits.ready (first_place (holds j) c.seats.jobs) in
      let n = number_le s st (awaited s j r.0) in
      let l : left s st (awaited s j r.0) ≡ 0 = r.2 in
      let z : number s st (awaited s j r.0) ≡ 0 = omega arith in
      let b : bit (is_ready (number s st) (waits_of s (at c.seats.jobs (first_place (holds j) c.seats.jobs)))) ≡ 1 = ap (λ y. bit (is_ready (number s st) (waits_of s y))) entry ∙ ap (λ x. bit (x == 0)) z in
      omega arith

  pub ready_is : 0 < s.slots → (f : ℕ) → 0 < tally (λ g. f == g) (all c.queues.ready) → (x : Held) × (at c.seats.jobs f ≡ Some x) × IsReady s st x.job
  ready_is p f l = let a = h.waits.ready f in go (at c.seats.jobs f) refl (h.seats.stands f) (omega arith)
    where
      deep : (x : Held) (v : Option ℕ) → x.worker ≡ v → at c.seats.jobs f ≡ Some x → st.phase x.job ≡ standing v x.step → 0 < bit (is_ready (number s st) (waits_by s x.job x.step v)) → (y : Held) × (at c.seats.jobs f ≡ Some y) × IsReady s st y.job
      deep x None v a q l = by_eq (number s st (awaited s x.job x.step)) 0 (λ b. 0 < bit b → (y : Held) × (at c.seats.jobs f ≡ Some y) × IsReady s st y.job)
          (λ z o. (x, a, (x.step, q, sym (number_left s st inv p x.job x.step q) ∙ z)))
          (λ z o. absurd (omega arith)) l
      deep x (Some w) v a q l = absurd (omega arith)

      go : (o : Option Held) → at c.seats.jobs f ≡ o → StandsAs st.phase o → 0 < bit (is_ready (number s st) (waits_of s o)) → (y : Held) × (at c.seats.jobs f ≡ Some y) × IsReady s st y.job
      go None a b l = absurd (omega arith)
      go (Some x) a b l = deep x x.worker refl a b l

  -- ---- counters

  pub stands_at : (k : Counter) (r : Row) → first_row k c.counters ≡ Some r → (r.left ≡ number s st k) × (0 < number s st k)
  stands_at k r e = go (rows k c.counters) (sym (first_is k c.counters) ∙ e) (h.waits.row k)
    where
      go : (xs : List Row) → head xs ≡ Some r → RowFits (number s st k) (λ f. is_for k (waits_of s (at c.seats.jobs f))) xs → (r.left ≡ number s st k) × (0 < number s st k)
      go [] a b = absurd cc
      go (x ∷ []) a b = let d : x ≡ r = cc in (ap (λ y. y.left) (sym d) ∙ b.0, b.1)
      go (x ∷ y ∷ xs) a b = absurd b

  pub stands_not : (k : Counter) → (first_row k c.counters ≡ None) ↔ (number s st k ≡ 0)
  stands_not k = go (rows k c.counters) refl (h.waits.row k)
    where
      go : (xs : List Row) → rows k c.counters ≡ xs → RowFits (number s st k) (λ f. is_for k (waits_of s (at c.seats.jobs f))) xs → (first_row k c.counters ≡ None) ↔ (number s st k ≡ 0)
      go [] e b = (λ z. b, λ z. first_is k c.counters ∙ ap head e)
      go (x ∷ []) e b = (λ z. let y = sym (first_is k c.counters ∙ ap head e) ∙ z in absurd cc, λ z. absurd (omega (arith, b.1)))
      go (x ∷ y ∷ xs) e b = absurd b

  -- ---- Emit, by the counters and the fibers

  spread_done : (q : Phase) → has_spread q ≡ true → held q ≡ 0 → q ≡ Finished
  spread_done Absent e z = absurd cc
  spread_done Queued e z = absurd cc
  spread_done (Runs w k) e z = absurd (omega arith)
  spread_done (Waits k) e z = absurd (omega arith)
  spread_done Finished e z = refl

  bit_left : (x y : Bool) → bit (x && y) ≡ 1 → x ≡ true
  bit_left true y e = refl
  bit_left false y e = absurd (omega arith)

  pub emit_is : (f : ℕ) → f ≡ suc st.emitted → f ≤ s.frames → number s st (Shown f) ≡ 1 → tally (holds (Logic f)) c.seats.jobs ≡ 0 → number s st (Draws f) ≡ 0 → May s st (Emit f)
  emit_is f e l u z d =
      let q : st.phase (Logic f) ≡ Finished = spread_done (st.phase (Logic f)) (bit_left (has_spread (st.phase (Logic f))) (nat_lt st.emitted f) u) (let a = h.seats.once (Logic f) in omega arith) in
      (e, l, q, sym (total_same s.bands _ _ (λ b m. pending_there (st.phase (Draw f b)) (simple_there (st.phase (Draw f b)) (subst (λ y. DrawFits y (st.phase (Draw f b))) q (inv.draw f b (omega arith, l) m))))) ∙ d)

-- ---- what is given

-- nothing is given to an idle worker exactly where it can neither start nor resume a job
module _ (s : Setup) (st : State) (inv : Shape s st) (c : Core) (h : Fits s c st) (p : 0 < s.slots) (on : st.stopped ≡ false) (w : ℕ) (below : w < s.workers) (idle : IsIdle st w) where
  pub none_is_legal : given c ≡ None → (j : JobName) → (IsLegal s st (Start w j) → ⊥) × (IsLegal s st (Resume w j) → ⊥)
  none_is_legal e j =
      let n = pick_none (has_fiber c.seats) c.queues e in (
        λ m. let q : st.phase j ≡ Queued = m.1.2 in let a = (fresh_is s st inv c h j).1 q in let z = n.1 j ((fiber_is s st inv c h j).1 m.1.3) in omega arith,
        λ m. let r : IsReady s st j = m.1.2 in let a = ready_back s st inv c h j r in let z : tally (λ g. first_place (holds j) c.seats.jobs == g) (all c.queues.ready) ≡ 0 = ap (tally (λ g. first_place (holds j) c.seats.jobs == g)) n.0 in omega arith,
      )

  pub start_is_legal : (j : JobName) → given c ≡ Some (New j) → IsLegal s st (Start w j)
  start_is_legal j e =
      let g = pick_some (has_fiber c.seats) c.queues (New j) e in
      (on, (below, idle, (fresh_is s st inv c h j).0 g.1, (fiber_is s st inv c h j).0 g.0))

  pub fiber_is_ready : (f : ℕ) → given c ≡ Some (Ready f) → (x : Held) × (at c.seats.jobs f ≡ Some x) × IsReady s st x.job
  fiber_is_ready f e = ready_is s st inv c h p f (pick_some (has_fiber c.seats) c.queues (Ready f) e)

  pub given_is_legal : (x : Pick) → given c ≡ Some x → (e : Event) × (((j : JobName) × (e ≡ Start w j)) ⊎ ((j : JobName) × (e ≡ Resume w j))) × IsLegal s st e
  given_is_legal (New j) e = (Start w j, inl (j, refl), start_is_legal j e)
  given_is_legal (Ready f) e = let r = fiber_is_ready f e in (Resume w r.0.job, inr (r.0.job, refl), (on, (below, idle, r.2)))
