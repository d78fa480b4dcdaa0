-- What comes before a job's start, and that started jobs keep to their fibers.
use Rattle.std.proofs.Common.{◌≡◌, ◌≤◌, ◌<◌, ℕ, zero, suc, ◌+◌, ◌-◌, Bool, true, false, ◌&&◌, nat_lt, if◌then◌else◌, List, [], ◌∷◌, ◌++◌, refl, sym, ap, ◌∙◌, subst, ⊎_elim, arith}
use Rattle.std.proofs.lemmas.Bool.{true≢false, cases_order}
use Rattle.job_core.specs.declared.names.JobName.{JobName}
use Rattle.job_core.specs.declared.names.JobName.TheVariants.{Logic, Think, Path, Draw}
use Rattle.job_core.specs.declared.names.Size.{Size}
use Rattle.job_core.specs.declared.names.Size.TheVariants.{Small, Large}
use Rattle.job_core.specs.declared.names.Event.{Event}
use Rattle.job_core.specs.declared.names.Event.TheVariants.{Start, Resume, Ask, Spread, Hold, Finish, Emit, Stop}
use Rattle.job_core.specs.Core.{Setup, IsJob, same, Phase, Absent, Queued, Runs, Waits, Finished, State, held, size_of, held_in, pool, free, May, IsLegal, step_of, put, queue, thinks_of, after, opening, over_jobs, after_all, state, IsLegalFrom, IsLegalList}
use Rattle.job_core.proofs.Sums.{jobs_zero}
use Rattle.job_core.proofs.Shape.{Shape, LogicFits, ThinkFits, PathFits, DrawFits, keeps, opens, there, logic_next}
use Rattle.job_core.proofs.Moves.{job_of, IsMove, put_here}
use Rattle.job_core.proofs.Keeping.{own, held_none, held_own, held_moves, live, live_starts, live_ends, state_more}

-- ---- phases beside those of the jobs that made them

think_made : (q : ℕ) (lp : Phase) → ThinkFits q lp Queued → (k : ℕ) × (lp ≡ Waits (suc k))
think_made q (Runs w zero) h = absurd cc
think_made q (Runs w (suc k)) h = absurd cc
think_made q (Waits (suc k)) h = (k, refl)
think_made q _ h = absurd cc

logic_waits : (room f k : ℕ) → LogicFits room f (Waits (suc k)) → k ≡ 0
logic_waits room f zero h = refl
logic_waits room f (suc k) h = absurd h

path_made : (i : ℕ) (tp : Phase) → PathFits i tp Queued → tp ≡ Waits (suc i)
path_made i (Runs w k) h =
    absurd (⊎_elim (λ e. let q = h.1 (omega arith) in cc) (λ o. ⊎_elim (λ l. let q = h.0 l in cc) (λ l. let q = h.1 (omega arith) in cc) o) (cases_order i k))
path_made i (Waits k) h =
    ⊎_elim (λ e. ap Waits (sym e)) (λ o. ⊎_elim (λ l. let q = h.0 l in absurd cc) (λ l. let q = h.2 (omega arith) in absurd cc) o) (cases_order (suc i) k)
path_made i _ h = absurd cc

draw_made : (lp : Phase) → DrawFits lp Queued → lp ≡ Finished
draw_made Finished h = refl
draw_made _ h = absurd cc

module _ (s : Setup) (st : State) (inv : Shape s st) where
  pub logic_after : (w f : ℕ) → 0 < f → May s st (Start w (Logic (suc f))) → st.phase (Logic f) ≡ Finished
  logic_after w f p m =
      let q : st.phase (Logic (suc f)) ≡ Queued = m.2 in
      let e = logic_next s st inv (suc f) (λ y. cc) (λ y. cc) in
      inv.early f p (omega arith)

  pub think_after : (w f a : ℕ) → May s st (Start w (Think f a)) → st.phase (Logic f) ≡ Waits 1
  think_after w f a m =
      let q : st.phase (Think f a) ≡ Queued = m.2 in
      let v : IsJob s (Think f a) = there s st inv (Think f a) (λ y. cc) in
      let k = think_made (s.questions f a) (st.phase (Logic f)) (subst (ThinkFits (s.questions f a) (st.phase (Logic f))) q (inv.think f a v.0 v.1)) in
      let waits : st.phase (Logic f) ≡ Waits (suc k.0) = k.1 in
      let e = logic_next s st inv f (λ y. cc) (λ y. cc) in
      let n : k.0 ≡ 0 = logic_waits (st.emitted + s.slots) f k.0 (subst (LogicFits (st.emitted + s.slots) f) waits (subst (λ g. LogicFits (st.emitted + s.slots) g (st.phase (Logic g))) (sym e) (inv.now (omega (arith, e, v.0.1))))) in
      waits ∙ ap (λ x. Waits (suc x)) n

  pub path_after : (w f a i : ℕ) → May s st (Start w (Path f a i)) → st.phase (Think f a) ≡ Waits (suc i)
  path_after w f a i m =
      let q : st.phase (Path f a i) ≡ Queued = m.2 in
      let v : IsJob s (Path f a i) = there s st inv (Path f a i) (λ y. cc) in
      path_made i (st.phase (Think f a)) (subst (PathFits i (st.phase (Think f a))) q (inv.path f a i v.0 v.1 v.2))

  pub draw_after : (w f b : ℕ) → May s st (Start w (Draw f b)) → st.phase (Logic f) ≡ Finished
  draw_after w f b m =
      let q : st.phase (Draw f b) ≡ Queued = m.2 in
      let v : IsJob s (Draw f b) = there s st inv (Draw f b) (λ y. cc) in
      draw_made (st.phase (Logic f)) (subst (DrawFits (st.phase (Logic f))) q (inv.draw f b v.0 v.1))

  -- ---- fibers

  -- a job that starts takes a fiber of its size, and none of the other
  starts_within : (z y : Size) (n : ℕ) → 0 < pool s y - live s st y → live s st z ≤ pool s z → n ≡ live s st z + own z y → n ≤ pool s z
  starts_within Small Small n m l e = omega arith
  starts_within Large Large n m l e = omega arith
  starts_within Small Large n m l e = omega arith
  starts_within Large Small n m l e = omega arith

  goes_on : (z : Size) (e : Event) (m : May s st e) → IsMove e → held (st.phase (job_of e)) ≡ 1 → held ((after s st e).phase (job_of e)) ≡ 1 → live s (after s st e) z ≡ live s st z
  goes_on z e m n a b =
      let c = held_moves s st inv z e m n in
      let d = held_own z (size_of (job_of e)) (st.phase (job_of e)) a in
      let f = held_own z (size_of (job_of e)) ((after s st e).phase (job_of e)) b in
      omega arith

  room_for : (j : JobName) → 0 < free s st (size_of j) → 0 < pool s (size_of j) - live s st (size_of j)
  unfolding live
  room_for j m = m

  kept_step : (z : Size) (e : Event) → May s st e → live s st z ≤ pool s z → live s (after s st e) z ≤ pool s z
  unfolding live
  kept_step z (Start w j) m l = starts_within z (size_of j) _ (room_for j m.3) l (live_starts s st inv z w j m)
  kept_step z (Finish w j) m l = let a = live_ends s st inv z w j m in omega arith
  kept_step z (Resume w j) m l = let r = m.2 in let e = goes_on z (Resume w j) m tt (ap held r.1) (ap held (put_here st.phase j (Runs w (step_of (st.phase j))))) in omega arith
  kept_step z (Ask w (Think g a)) m l = let e = goes_on z (Ask w (Think g a)) m tt (ap held m.1) (ap held (put_here (put st.phase (Path g a (step_of (st.phase (Think g a)))) Queued) (Think g a) (Waits (suc (step_of (st.phase (Think g a))))))) in omega arith
  kept_step z (Spread w (Logic g)) m l = let e = goes_on z (Spread w (Logic g)) m tt (ap held m.0) (ap held (put_here (queue st.phase (thinks_of s g)) (Logic g) (Waits 1))) in omega arith
  kept_step z (Hold w (Logic g)) m l = let e = goes_on z (Hold w (Logic g)) m tt (ap held m.0) (ap held (put_here st.phase (Logic g) (Waits 0))) in omega arith
  kept_step z (Emit f) m l = l
  kept_step z Stop m l = l
  kept_step z _ m l = absurd m

kept_list : (s : Setup) (z : Size) (es : List Event) (st : State) → Shape s st → live s st z ≤ pool s z → IsLegalFrom s st es → live s (after_all s st es) z ≤ pool s z
kept_list s z [] st inv l h = l
kept_list s z (e ∷ es) st inv l h = kept_list s z es (after s st e) (keeps s st e inv h.0.1) (kept_step s st inv z e h.0.1 l) h.1

pub fibers_kept : (s : Setup) (es : List Event) (z : Size) → IsLegalList s es → over_jobs s (λ j. held_in z (size_of j) ((state s es).phase j)) ≤ pool s z
unfolding live
fibers_kept s es z l = kept_list s z es (opening s) (opens s) (let e = jobs_zero s (λ j. held_in z (size_of j) ((opening s).phase j)) (λ j v. held_none z (size_of j) ((opening s).phase j) (none j)) in omega arith) l
  where
    go : (b : Bool) → held (if b then Queued else Absent) ≡ 0
    go true = refl
    go false = refl

    none : (j : JobName) → held ((opening s).phase j) ≡ 0
    none j = go (same j (Logic 1) && nat_lt 0 s.frames)

-- ---- stops

pub stopped_last : (s : Setup) (es : List Event) (e : Event) → IsLegal s (state s (es ++ Stop ∷ [])) e → ⊥
stopped_last s es e m = true≢false (sym (ap (λ st. st.stopped) (state_more s es Stop)) ∙ m.0)
