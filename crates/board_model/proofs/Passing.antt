-- The code's test passes exactly where the event is legal.
use Rattle.std.proofs.Common.{◌≡◌, ◌<◌, ◌↔◌, ℕ, suc, Bool, true, false, ◌&&◌, nat_lt, List, Option, Some, None, refl, sym, ap, ◌∙◌, subst, arith}
use Rattle.job_core.specs.declared.names.JobName.{JobName}
use Rattle.job_core.specs.declared.names.JobName.TheVariants.{Logic, Think, Path, Draw}
use Rattle.job_core.specs.declared.names.Event.{Event}
use Rattle.job_core.specs.declared.names.Event.TheVariants.{Start, Resume, Ask, Spread, Hold, Finish, Emit, Stop}
use Rattle.job_core.specs.Core.{Setup, Runs, Finished, State, held, left, Draws, Shown, IsReady, IsLegal, IsLegalList, May, state, opening}
use Rattle.job_core.proofs.ByCases.{by_same}
use Rattle.job_core.proofs.Shape.{Shape, opens}
use Rattle.job_core.proofs.Moves.{shape_of}
use Rattle.board_model.specs.Lists.{bit, at, first_place}
use Rattle.board_model.specs.Board.{Core, Held, holds, first_row, core_of}
use Rattle.board_model.specs.Law.{has_spread, number, Fits}
use Rattle.board_model.specs.Passes.{on_fiber, RunsAt, Passes}
use Rattle.board_model.proofs.Kit.{place_found}
use Rattle.board_model.proofs.Numbers.{number_le, emit_before}
use Rattle.board_model.proofs.Entries.{running_at}
use Rattle.board_model.proofs.Legal.{is_idle, it_runs, fiber_is, fresh_is, ready_back, ready_is, stands_not, emit_is}
use Rattle.board_model.proofs.Fit.{fits}

holds_is : (j : JobName) (o : Option Held) (x : Held) → o ≡ Some x → holds j o ≡ true → x.job ≡ j
holds_is j None x e t = absurd cc
holds_is j (Some y) x e t = let d : y ≡ x = cc in ap (λ z. z.job) (sym d) ∙ by_same j y.job (λ b. b ≡ true → y.job ≡ j) (λ m u. sym m) (λ m u. absurd cc) t

module _ (s : Setup) (st : State) (inv : Shape s st) (c : Core) (h : Fits s c st) (p : 0 < s.slots) where
  pub runs_at : (w : ℕ) (j : JobName) (k : ℕ) → RunsAt c.seats w j k ↔ (st.phase j ≡ Runs w k)
  runs_at w j k = (to, from)
    where
      at_fiber : (o : Option ℕ) → at c.seats.workers w ≡ o → (x : Held) → on_fiber c.seats o ≡ Some x → st.phase x.job ≡ Runs w x.step
      at_fiber None e x d = absurd cc
      at_fiber (Some f) e x d = let r = it_runs s st inv c h w f e in let y : r.0 ≡ x = (let z : Some r.0 ≡ Some x = sym r.1 ∙ d in cc) in subst (λ z. st.phase z.job ≡ Runs w z.step) y r.2

      to : RunsAt c.seats w j k → st.phase j ≡ Runs w k
      to r = ap st.phase (sym r.2) ∙ (at_fiber (at c.seats.workers w) refl r.0 r.1 ∙ ap (Runs w) r.3)

      from : st.phase j ≡ Runs w k → RunsAt c.seats w j k
      from q = let x = running_at s c.seats st.phase h.seats j w k q in (record { job = j; step = k; worker = Some w }, ap (on_fiber c.seats) x.0 ∙ x.1, refl, refl)

  pub passes_may : (e : Event) → Passes s c e → May s st e
  passes_may (Start w j) t = (t.0.0, (is_idle s st inv c h w).0 t.0.1, (fresh_is s st inv c h j).0 t.1, (fiber_is s st inv c h j).0 t.2)
  passes_may (Resume w j) t =
      let r = ready_is s st inv c h p (first_place (holds j) c.seats.jobs) t.2 in
      let x = place_found (holds j) c.seats.jobs t.1 in
      (t.0.0, (is_idle s st inv c h w).0 t.0.1, subst (IsReady s st) (holds_is j (at c.seats.jobs (first_place (holds j) c.seats.jobs)) r.0 r.1 x.1) r.2)
  passes_may (Spread w (Logic f)) t = ((runs_at w (Logic f) 0).0 t.0, let a = h.emitted in omega (arith, t.1))
  passes_may (Hold w (Logic f)) t = ((runs_at w (Logic f) 0).0 t.0, let a = h.emitted in omega (arith, t.1))
  passes_may (Ask w (Think f a)) t = (t.0, (runs_at w (Think f a) t.0).0 t.1, t.2)
  passes_may (Finish w j) t = (t.0, (runs_at w j t.0).0 t.1, t.2)
  passes_may (Emit f) t =
      let e : f ≡ suc st.emitted = t.0 ∙ ap suc h.emitted in
      emit_is s st inv c h f e t.1 (one t.2) t.3 ((stands_not s st inv c h (Draws f)).0 t.4)
    where
      small : (x y : Bool) → (bit (x && y) ≡ 0 → ⊥) → bit (x && y) ≡ 1
      small true true n = refl
      small true false n = absurd (n refl)
      small false y n = absurd (n refl)

      one : (first_row (Shown f) c.counters ≡ None → ⊥) → number s st (Shown f) ≡ 1
      one n = small (has_spread (st.phase (Logic f))) (nat_lt st.emitted f) (λ z. n ((stands_not s st inv c h (Shown f)).1 z))
  passes_may Stop t = tt
  passes_may _ t = absurd t

  pub may_passes : (e : Event) → May s st e → Passes s c e
  may_passes (Start w j) m = ((m.0, (is_idle s st inv c h w).1 m.1), (fresh_is s st inv c h j).1 m.2, (fiber_is s st inv c h j).1 m.3)
  may_passes (Resume w j) m = let r = m.2 in ((m.0, (is_idle s st inv c h w).1 m.1), (let a = h.seats.once j in let b : held (st.phase j) ≡ 1 = ap held r.1 in omega arith), ready_back s st inv c h j r)
  may_passes (Spread w (Logic f)) m = ((runs_at w (Logic f) 0).1 m.0, let a = h.emitted in omega (arith, m.1))
  may_passes (Hold w (Logic f)) m = ((runs_at w (Logic f) 0).1 m.0, let a = h.emitted in omega (arith, m.1))
  may_passes (Ask w (Think f a)) m = (m.0, (runs_at w (Think f a) m.0).1 m.1, m.2)
  may_passes (Finish w j) m = (m.0, (runs_at w j m.0).1 m.1, m.2)
  may_passes (Emit f) m =
      let e : f ≡ suc st.emitted = m.0 in
      let q : st.phase (Logic f) ≡ Finished = m.2 in (
        e ∙ ap suc (sym h.emitted),
        m.1,
        (λ n. let a = (stands_not s st inv c h (Shown f)).0 n in let b = emit_before s st inv f e q in omega arith),
        h.seats.once (Logic f) ∙ ap held q,
        (stands_not s st inv c h (Draws f)).1 (let a = number_le s st (Draws f) in let b : left s st (Draws f) ≡ 0 = m.3 in omega arith),
      )
  may_passes Stop m = tt
  may_passes _ m = absurd m

-- over logs
pub test_is : (s : Setup) (log : List Event) (e : Event) → 0 < s.slots → IsLegalList s log → (((core_of s log).stopped ≡ false) × Passes s (core_of s log) e) ↔ IsLegal s (state s log) e
test_is s log e p l =
    let inv = shape_of s log (opening s) (opens s) l in
    let h = fits s log p l in
    (λ t. (sym h.stopped ∙ t.0, passes_may s (state s log) inv (core_of s log) h p e t.1), λ m. (h.stopped ∙ m.0, may_passes s (state s log) inv (core_of s log) h p e m.1))
