-- A number of questions that a Think hasn't passed yet may be any other one.
use Rattle.std.proofs.Common.{◌≡◌, ◌≤◌, ◌<◌, ◌⊎◌, ℕ, suc, Bool, true, false, if◌then◌else◌, List, [], ◌∷◌, refl, sym, ap, ◌∙◌, subst, ⊎_elim, arith}
use Rattle.job_core.specs.declared.names.JobName.{JobName}
use Rattle.job_core.specs.declared.names.JobName.TheVariants.{Logic, Think, Path, Draw}
use Rattle.job_core.specs.declared.names.Event.{Event}
use Rattle.job_core.specs.declared.names.Event.TheVariants.{Start, Resume, Ask, Spread, Hold, Finish, Emit, Stop}
use Rattle.job_core.specs.Core.{Setup, State, Phase, Queued, Runs, Waits, Finished, IsLegal, May, step_of, put, after, after_all, opening, state, IsLegalFrom, IsLegalList}
use Rattle.job_core.proofs.ByCases.{by_eq2, by_same}
use Rattle.job_core.proofs.Shape.{Shape, keeps, opens}
use Rattle.job_core.proofs.Moves.{job_of, others, put_here}
use Rattle.board_model.specs.Board.{Core, core_after, core_opening}
use Rattle.board_model.specs.Law.{Fits}
use Rattle.board_model.specs.Passes.{Passes}
use Rattle.board_model.proofs.Passing.{runs_at, may_passes, passes_may}
use Rattle.board_model.proofs.Fit.{step_fits}
use Rattle.board_model.proofs.Opening.{opening_fits}
use Rattle.frame_jobs_laws.specs.Asked.{with_questions, with_number, HasAsked}

-- what a board keeps does not depend on them
pub core_same : (s : Setup) (q : ℕ → ℕ → ℕ) (c : Core) (e : Event) → core_after (with_questions s q) c e ≡ core_after s c e
core_same s q c (Start w j) = refl
core_same s q c (Resume w j) = refl
core_same s q c (Spread w (Logic f)) = refl
core_same s q c (Hold w (Logic f)) = refl
core_same s q c (Ask w (Think f a)) = refl
core_same s q c (Finish w (Logic f)) = refl
core_same s q c (Finish w (Think f a)) = refl
core_same s q c (Finish w (Path f a i)) = refl
core_same s q c (Finish w (Draw f b)) = refl
core_same s q c (Emit f) = refl
core_same s q c Stop = refl
core_same s q c _ = refl

module _ (s : Setup) (f a n : ℕ) where
  abbrev t : Setup
  t = with_questions s (with_number s.questions f a n)

  -- ---- what a Think has asked, before an event

  moved : (st : State) (e : Event) → May s st e → Think f a ≡ job_of e → HasAsked n ((after s st e).phase (Think f a)) → HasAsked n (st.phase (Think f a))
  moved st (Start w j) m d h = let old : st.phase (Think f a) ≡ Queued = ap st.phase d ∙ m.2 in subst (HasAsked n) (sym old) tt
  moved st (Resume w j) m d h =
      let r = m.2 in
      let new : put st.phase j (Runs w (step_of (st.phase j))) (Think f a) ≡ Runs w (step_of (st.phase j)) = ap (put st.phase j (Runs w (step_of (st.phase j)))) d ∙ put_here st.phase j (Runs w (step_of (st.phase j))) in
      let few : step_of (st.phase j) ≤ n = subst (HasAsked n) new h in
      let old : st.phase (Think f a) ≡ Waits r.0 = ap st.phase d ∙ r.1 in
      let step : step_of (st.phase j) ≡ r.0 = ap step_of r.1 in
      subst (HasAsked n) (sym old) (omega arith)
  moved st (Ask w (Think g b)) m d h =
      let i : ℕ = step_of (st.phase (Think g b)) in
      let new : (after s st (Ask w (Think g b))).phase (Think f a) ≡ Waits (suc (step_of (st.phase (Think g b)))) = ap (after s st (Ask w (Think g b))).phase d ∙ put_here (put st.phase (Path g b (step_of (st.phase (Think g b)))) Queued) (Think g b) (Waits (suc (step_of (st.phase (Think g b))))) in
      let few : suc (step_of (st.phase (Think g b))) ≤ n = subst (HasAsked n) new h in
      let old : st.phase (Think f a) ≡ Runs w m.0 = ap st.phase d ∙ m.1 in
      let step : step_of (st.phase (Think g b)) ≡ m.0 = ap step_of m.1 in
      subst (HasAsked n) (sym old) (omega arith)
  moved st (Finish w (Think g b)) m d h =
      let new : put st.phase (Think g b) Finished (Think f a) ≡ Finished = ap (put st.phase (Think g b) Finished) d ∙ put_here st.phase (Think g b) Finished in
      absurd (subst (HasAsked n) new h)
  moved st (Spread w (Logic g)) m d h = absurd cc
  moved st (Hold w (Logic g)) m d h = absurd cc
  moved st (Finish w (Logic g)) m d h = absurd cc
  moved st (Finish w (Path g b i)) m d h = absurd cc
  moved st (Finish w (Draw g b)) m d h = absurd cc
  moved st (Emit g) m d h = absurd cc
  moved st Stop m d h = absurd cc
  moved st _ m d h = absurd m

  back : (st : State) → Shape s st → (e : Event) → May s st e → HasAsked n ((after s st e).phase (Think f a)) → HasAsked n (st.phase (Think f a))
  back st inv e m h = by_same (Think f a) (job_of e) (λ _. HasAsked n (st.phase (Think f a)))
      (λ d. moved st e m d h)
      (λ ne. ⊎_elim (λ q. subst (HasAsked n) q h) (λ q. subst (HasAsked n) (sym q.0) tt) (others s st inv e m (Think f a) ne))

  back_all : (es : List Event) (st : State) → Shape s st → IsLegalFrom s st es → HasAsked n ((after_all s st es).phase (Think f a)) → HasAsked n (st.phase (Think f a))
  back_all [] st inv l h = h
  back_all (e ∷ es) st inv l h = back st inv e l.0.1 (back_all es (after s st e) (keeps s st e inv l.0.1) l.1 h)

  -- ---- what is legal stays so

  module _ (slots : 0 < s.slots) (st : State) (inv : Shape s st) (c : Core) (fit : Fits s c st) where
    still : (e : Event) → May s st e → HasAsked n ((after s st e).phase (Think f a)) → Passes t c e
    still (Ask w (Think g b)) m h =
        (m.0, (runs_at s st inv c fit slots w (Think g b) m.0).1 m.1, by_eq2 g f b a (λ x. m.0 < (if x then n else s.questions g b)) here (λ _. m.2))
      where
        here : g ≡ f → b ≡ a → m.0 < n
        here d k =
            let j : Think f a ≡ Think g b = cc in
            let new : (after s st (Ask w (Think g b))).phase (Think f a) ≡ Waits (suc (step_of (st.phase (Think g b)))) = ap (after s st (Ask w (Think g b))).phase j ∙ put_here (put st.phase (Path g b (step_of (st.phase (Think g b)))) Queued) (Think g b) (Waits (suc (step_of (st.phase (Think g b))))) in
            let few : suc (step_of (st.phase (Think g b))) ≤ n = subst (HasAsked n) new h in
            let step : step_of (st.phase (Think g b)) ≡ m.0 = ap step_of m.1 in
            omega arith
    still (Finish w (Think g b)) m h =
        (m.0, (runs_at s st inv c fit slots w (Think g b) m.0).1 m.1, by_eq2 g f b a (λ x. m.0 ≡ (if x then n else s.questions g b)) here (λ _. m.2))
      where
        here : g ≡ f → b ≡ a → m.0 ≡ n
        here d k =
            let j : Think f a ≡ Think g b = cc in
            let new : put st.phase (Think g b) Finished (Think f a) ≡ Finished = ap (put st.phase (Think g b) Finished) j ∙ put_here st.phase (Think g b) Finished in
            absurd (subst (HasAsked n) new h)
    still (Start w j) m h = may_passes s st inv c fit slots (Start w j) m
    still (Resume w j) m h = may_passes s st inv c fit slots (Resume w j) m
    still (Spread w (Logic g)) m h = may_passes s st inv c fit slots (Spread w (Logic g)) m
    still (Hold w (Logic g)) m h = may_passes s st inv c fit slots (Hold w (Logic g)) m
    still (Finish w (Logic g)) m h = may_passes s st inv c fit slots (Finish w (Logic g)) m
    still (Finish w (Path g b i)) m h = may_passes s st inv c fit slots (Finish w (Path g b i)) m
    still (Finish w (Draw g b)) m h = may_passes s st inv c fit slots (Finish w (Draw g b)) m
    still (Emit g) m h = may_passes s st inv c fit slots (Emit g) m
    still Stop m h = tt
    still _ m h = absurd m

  open_from : 0 < s.slots → (es : List Event) (st st2 : State) (c : Core) → Shape s st → Shape t st2 → Fits s c st → Fits t c st2 → IsLegalFrom s st es → HasAsked n ((after_all s st es).phase (Think f a)) → IsLegalFrom t st2 es
  open_from p [] st st2 c inv inv2 fit fit2 l h = tt
  open_from p (e ∷ es) st st2 c inv inv2 fit fit2 l h =
      let next = keeps s st e inv l.0.1 in
      let low = back_all es (after s st e) next l.1 h in
      let may : May t st2 e = passes_may t st2 inv2 c fit2 p e (still p st inv c fit e l.0.1 low) in
      let on : st2.stopped ≡ false = sym fit2.stopped ∙ (fit.stopped ∙ l.0.0) in
      let fits : Fits t (core_after s c e) (after t st2 e) = subst (λ x. Fits t x (after t st2 e)) (core_same s (with_number s.questions f a n) c e) (step_fits t c st2 p inv2 fit2 e may) in
      ((on, may), open_from p es (after s st e) (after t st2 e) (core_after s c e) next (keeps t st2 e inv2 may) (step_fits s c st p inv fit e l.0.1) fits l.1 h)

pub open_list : (s : Setup) (f a n : ℕ) → 0 < s.slots → (events : List Event) → IsLegalList s events → HasAsked n ((state s events).phase (Think f a)) → IsLegalList (with_questions s (with_number s.questions f a n)) events
open_list s f a n p events l h =
    let other : Setup = with_questions s (with_number s.questions f a n) in
    open_from s f a n p events (opening s) (opening other) (core_opening s) (opens s) (opens other) (opening_fits s) (opening_fits other) l h
