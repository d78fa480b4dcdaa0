-- What is given goes first, in the words of the state.
use Rattle.std.proofs.Common.{◌≡◌, ◌<◌, ℕ, ◌+◌, Bool, true, ◌==◌, List, [], ◌∷◌, Some, None, refl, sym, ap, ◌∙◌, subst, arith}
use Rattle.job_core.specs.declared.names.JobName.{JobName}
use Rattle.job_core.specs.declared.names.JobName.TheVariants.{Logic, Think, Path, Draw}
use Rattle.job_core.specs.declared.names.Event.{Event}
use Rattle.job_core.specs.Core.{Setup, State, same, IsReady, IsLegalList, opening, state}
use Rattle.job_core.specs.Priorities.{priority, MayStart, GoesFirst}
use Rattle.job_core.proofs.Shape.{Shape, opens}
use Rattle.job_core.proofs.Moves.{shape_of}
use Rattle.board_model.specs.Lists.{bit, tally, at, first_place, Priority, High, Normal, Low, Three, all}
use Rattle.board_model.specs.Board.{Core, Held, has_fiber, holds, priority_of, priority_on, core_of}
use Rattle.board_model.specs.Law.{Fits}
use Rattle.board_model.specs.Pick.{Pick, Ready, New, given}
use Rattle.board_model.proofs.Kit.{by_bool, all_parts}
use Rattle.board_model.proofs.Picks.{level, queue_of, IsNone, IsHighest, pick_first, pick_some}
use Rattle.board_model.proofs.Entries.{waiting_at}
use Rattle.board_model.proofs.Queued.{is_same}
use Rattle.board_model.proofs.Events.{is_it}
use Rattle.board_model.proofs.Legal.{fiber_is, fresh_is, ready_back, ready_is}
use Rattle.board_model.proofs.Fit.{fits}
use Rattle.board_model.proofs.Sorted.{Only, IsSortedBy, IsSorted, sorted}

-- ---- priorities as numbers

level_of : (j : JobName) → priority j ≡ level (priority_of j)
level_of (Logic f) = refl
level_of (Think f a) = refl
level_of (Path f a i) = refl
level_of (Draw f b) = refl

level_one : (p q : Priority) → level p ≡ level q → p ≡ q
level_one High High e = refl
level_one Normal Normal e = refl
level_one Low Low e = refl
level_one _ _ e = absurd (omega arith)

-- ---- what stands in which queue

sorted_queue : {X : Type 0} (of : X → Priority) (t : Three X) → IsSortedBy of t → (p : Priority) → Only of p (queue_of p t)
sorted_queue of t h High = h.0
sorted_queue of t h Normal = h.1
sorted_queue of t h Low = h.2

-- what passes is of priority r
module _ {X : Type 0} (of : X → Priority) (r : Priority) (q : X → Bool) (s : (x : X) → q x ≡ true → of x ≡ r) where
  -- so it is in a queue of r alone
  only_is : (p : Priority) (xs : List X) → Only of p xs → 0 < tally q xs → r ≡ p
  only_is p [] h l = absurd (omega arith)
  only_is p (x ∷ xs) h l = by_bool (q x) (λ b. 0 < bit b + tally q xs → r ≡ p) (λ e m. sym (s x e) ∙ h.0) (λ e m. only_is p xs h.1 (omega arith)) l

  only_none : (p : Priority) (xs : List X) → (r ≡ p → ⊥) → Only of p xs → tally q xs ≡ 0
  only_none p [] n h = refl
  only_none p (x ∷ xs) n h = let a = only_none p xs n h.1 in by_bool (q x) (λ b. bit b + tally q xs ≡ 0) (λ e. absurd (n (sym (s x e) ∙ h.0))) (λ e. omega arith)

  in_queue : (t : Three X) → IsSortedBy of t → tally q (queue_of r t) ≡ tally q (all t)
  in_queue t h = go r refl
    where
      go : (p : Priority) → r ≡ p → tally q (queue_of p t) ≡ tally q (all t)
      go High e = let a = all_parts q t in let b = only_none Normal t.normal (λ d. let x = sym e ∙ d in cc) h.1 in let c = only_none Low t.low (λ d. let x = sym e ∙ d in cc) h.2 in omega arith
      go Normal e = let a = all_parts q t in let b = only_none High t.high (λ d. let x = sym e ∙ d in cc) h.0 in let c = only_none Low t.low (λ d. let x = sym e ∙ d in cc) h.2 in omega arith
      go Low e = let a = all_parts q t in let b = only_none High t.high (λ d. let x = sym e ∙ d in cc) h.0 in let c = only_none Normal t.normal (λ d. let x = sym e ∙ d in cc) h.1 in omega arith

-- ---- in the state's words

module _ (s : Setup) (st : State) (p : 0 < s.slots) (inv : Shape s st) (c : Core) (h : Fits s c st) (o : IsSorted c) where
  start_in : (j : JobName) → MayStart s st j → 0 < tally (same j) (queue_of (priority_of j) c.queues.fresh)
  start_in j m =
      let a = (fresh_is s st inv c h j).1 m.0 in
      let b = in_queue priority_of (priority_of j) (same j) (λ x e. ap priority_of (is_same j x e)) c.queues.fresh o.fresh in
      omega arith

  ready_in : (j : JobName) → IsReady s st j → 0 < tally (λ g. first_place (holds j) c.seats.jobs == g) (queue_of (priority_of j) c.queues.ready)
  ready_in j r =
      let entry = waiting_at s c.seats st.phase h.seats j r.0 r.1 in
      let a = ready_back s st inv c h j r in
      let b = in_queue (λ g. priority_on (at c.seats.jobs g)) (priority_of j) (λ g. first_place (holds j) c.seats.jobs == g) (λ g e. ap (λ x. priority_on (at c.seats.jobs x)) (is_it (first_place (holds j) c.seats.jobs) g e) ∙ ap priority_on entry) c.queues.ready o.ready in
      omega arith

  -- no job of a priority whose queues have nothing is ready or may start
  none_there : (i : JobName) → IsNone (has_fiber c.seats) (queue_of (priority_of i) c.queues.ready) (queue_of (priority_of i) c.queues.fresh) → (IsReady s st i → ⊥) × (MayStart s st i → ⊥)
  none_there i n = (
    λ r. let a = ready_in i r in let z : tally (λ g. first_place (holds i) c.seats.jobs == g) (queue_of (priority_of i) c.queues.ready) ≡ 0 = ap (tally (λ g. first_place (holds i) c.seats.jobs == g)) n.0 in omega arith,
    λ m. let a = start_in i m in let z = n.1 i ((fiber_is s st inv c h i).1 m.1) in omega arith,
  )

  none_above : (j : JobName) (r : Priority) (x : Pick) → priority_of j ≡ r → IsHighest (has_fiber c.seats) c.queues r x → (i : JobName) → priority j < priority i → (IsReady s st i → ⊥) × (MayStart s st i → ⊥)
  none_above j r x e g i l = none_there i (g.1 (priority_of i) (let a = level_of j in let b = level_of i in let d : level (priority_of j) ≡ level r = ap level e in omega arith))

  new_goes_first : (j : JobName) → given c ≡ Some (New j) → MayStart s st j × GoesFirst s st j
  new_goes_first j e =
      let y = pick_some (has_fiber c.seats) c.queues (New j) e in
      let g = pick_first (has_fiber c.seats) c.queues (New j) e in
      let k : priority_of j ≡ g.0 = only_is priority_of (priority_of j) (same j) (λ x d. ap priority_of (is_same j x d)) g.0 (queue_of g.0 c.queues.fresh) (sorted_queue priority_of c.queues.fresh o.fresh g.0) g.1.0.2 in (
        ((fresh_is s st inv c h j).0 y.1, (fiber_is s st inv c h j).0 y.0),
        record {
          highest = none_above j g.0 (New j) k g.1;
          ready_first = λ n i d r.
              let a = ready_in i r in
              let b = level_of i in
              let u = level_of j in
              let same_one : priority_of i ≡ priority_of j = level_one (priority_of i) (priority_of j) (omega arith) in
              let z : tally (λ v. first_place (holds i) c.seats.jobs == v) (queue_of (priority_of i) c.queues.ready) ≡ 0 = ap (λ v. tally (λ x. first_place (holds i) c.seats.jobs == x) (queue_of v c.queues.ready)) (same_one ∙ k) ∙ ap (tally (λ v. first_place (holds i) c.seats.jobs == v)) g.1.0.0 in
              omega arith;
        },
      )

  ready_goes_first : (f : ℕ) → given c ≡ Some (Ready f) → (x : Held) × (at c.seats.jobs f ≡ Some x) × IsReady s st x.job × GoesFirst s st x.job
  ready_goes_first f e =
      let y = ready_is s st inv c h p f (pick_some (has_fiber c.seats) c.queues (Ready f) e) in
      let g = pick_first (has_fiber c.seats) c.queues (Ready f) e in
      let k : priority_of y.0.job ≡ g.0 = only_is (λ v. priority_on (at c.seats.jobs v)) (priority_of y.0.job) (λ v. f == v) (λ v d. ap (λ x. priority_on (at c.seats.jobs x)) (is_it f v d) ∙ ap priority_on y.1) g.0 (queue_of g.0 c.queues.ready) (sorted_queue (λ v. priority_on (at c.seats.jobs v)) c.queues.ready o.ready g.0) g.1.0 in
      (y.0, y.1, y.2, record { highest = none_above y.0.job g.0 (Ready f) k g.1; ready_first = λ n i d r. n y.2 })

-- ---- over logs

pub new_is_first : (s : Setup) (log : List Event) (j : JobName) → 0 < s.slots → IsLegalList s log → given (core_of s log) ≡ Some (New j) → MayStart s (state s log) j × GoesFirst s (state s log) j
new_is_first s log j p l e = new_goes_first s (state s log) p (shape_of s log (opening s) (opens s) l) (core_of s log) (fits s log p l) (sorted s log p l) j e

pub ready_is_first : (s : Setup) (log : List Event) (f : ℕ) → 0 < s.slots → IsLegalList s log → given (core_of s log) ≡ Some (Ready f) → (x : Held) × (at (core_of s log).seats.jobs f ≡ Some x) × IsReady s (state s log) x.job × GoesFirst s (state s log) x.job
ready_is_first s log f p l e = ready_goes_first s (state s log) p (shape_of s log (opening s) (opens s) l) (core_of s log) (fits s log p l) (sorted s log p l) f e

-- a fiber that is given by its job: the first that holds it
pub resume_is_first : (s : Setup) (log : List Event) (f : ℕ) (j : JobName) → 0 < s.slots → IsLegalList s log → given (core_of s log) ≡ Some (Ready f) → first_place (holds j) (core_of s log).seats.jobs ≡ f → IsReady s (state s log) j → GoesFirst s (state s log) j
resume_is_first s log f j p l e place r =
    let x = ready_is_first s log f p l e in
    let fit = fits s log p l in
    let both : Some x.0 ≡ Some (record { job = j; step = r.0; worker = None }) = sym x.1 ∙ (ap (at (core_of s log).seats.jobs) (sym place) ∙ waiting_at s (core_of s log).seats (state s log).phase fit.seats j r.0 r.1) in
    let one : x.0 ≡ record { job = j; step = r.0; worker = None } = cc in
    subst (GoesFirst s (state s log)) (ap (λ (y : Held). y.job) one) x.3
