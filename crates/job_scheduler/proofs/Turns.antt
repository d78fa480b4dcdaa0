-- The last frame whose Logic is over is kept beside the events.
use Rattle.std.proofs.Common.{◌≡◌, ◌≤◌, ◌<◌, ℕ, suc, Some, List, [], ◌∷◌, ◌++◌, refl, sym, ap, ◌∙◌, ⊎_elim, arith}
use Rattle.std.proofs.lemmas.Bool.{cases_order}
use Rattle.job_core.specs.declared.names.JobName.{JobName}
use Rattle.job_core.specs.declared.names.JobName.TheVariants.{Logic, Think, Path, Draw}
use Rattle.job_core.specs.declared.names.Event.{Event}
use Rattle.job_core.specs.declared.names.Event.TheVariants.{Start, Resume, Ask, Spread, Hold, Finish, Emit, Stop}
use Rattle.job_core.specs.Core.{Setup, IsFrame, State, Finished, Counter, May, IsLegalFrom, IsLegalList, queue, follows, after, after_all, opening, state}
use Rattle.job_core.proofs.Shape.{Shape, keeps, opens, opens_turned, there, logic_next, logic_done}
use Rattle.job_core.proofs.Moves.{put_here}
use Rattle.job_core.proofs.Once.{ended, ended_is, still, still_other, turned_same}
use Rattle.job_scheduler.specs.Ends.{counter_lowered}
use Rattle.job_scheduler.specs.Turns.{turned_by, turned_after}

-- ---- as events come

along : (n : ℕ) (es : List Event) (e : Event) → turned_after n (es ++ e ∷ []) ≡ turned_by (turned_after n es) e
along n [] e = refl
along n (x ∷ xs) e = along (turned_by n x) xs e

pub turned_next : (t : ℕ) (now later : List Event) (e : Event) → t ≡ turned_after 0 now → later ≡ now ++ e ∷ [] → turned_by t e ≡ turned_after 0 later
turned_next t now later e is written = ap (λ n. turned_by n e) is ∙ (sym (along 0 now e) ∙ ap (turned_after 0) (sym written))

-- no other job's end changes it
pub turned_end : (t w : ℕ) (j : JobName) (k : Counter) → Some k ≡ counter_lowered j → turned_by t (Finish w j) ≡ t
turned_end t w (Logic f) k e = absurd cc
turned_end t w (Think f a) k e = refl
turned_end t w (Path f a i) k e = refl
turned_end t w (Draw f b) k e = refl

-- ---- so many Logics are finished

module _ (s : Setup) (st : State) (inv : Shape s st) where
  -- the Logic that ends is the next
  ends : (w g : ℕ) (m : May s st (Finish w (Logic g))) (then : Shape s (after s st (Finish w (Logic g)))) → then.turned ≡ g
  ends w g m then = ⊎_elim (λ e. e) (λ o. ⊎_elim (λ l. absurd (let a = least in omega arith)) (λ l. absurd (beyond then.turned refl l)) o) (cases_order then.turned g)
    where
      next : g ≡ suc inv.turned
      next = logic_next s st inv g (λ e. let x = sym m.1 ∙ e in cc) (λ e. let x = sym m.1 ∙ e in cc)

      frame : IsFrame s g
      frame = there s st inv (Logic g) (λ e. let x = sym m.1 ∙ e in cc)

      least : g ≤ then.turned
      least = logic_done s (after s st (Finish w (Logic g))) then g frame.1 (put_here (queue st.phase (follows s g)) (Logic g) Finished)

      beyond : (t : ℕ) → then.turned ≡ t → g < t → ⊥
      beyond t e l =
          let a = then.within in
          let now = then.early t (omega arith) (omega arith) in
          let was = still_other s st inv (Finish w (Logic g)) m (Logic t) (λ d. let x : t ≡ g = cc in omega (arith, x, l)) in
          let done = logic_done s st inv t (omega arith) (ended_is (st.phase (Logic t)) (sym was ∙ ap ended now)) in
          let n = next in
          omega arith

  stays : (e : Event) (m : May s st e) (then : Shape s (after s st e)) → ((f : ℕ) → ended ((after s st e).phase (Logic f)) ≡ ended (st.phase (Logic f))) → then.turned ≡ inv.turned
  stays e m then h = sym (turned_same s st (after s st e) inv then h)

  step : (e : Event) (m : May s st e) (then : Shape s (after s st e)) → then.turned ≡ turned_by inv.turned e
  step (Start w j) m then = stays (Start w j) m then (λ f. still s st inv (Start w j) m refl (Logic f))
  step (Resume w j) m then = stays (Resume w j) m then (λ f. still s st inv (Resume w j) m refl (Logic f))
  step (Ask w j) m then = stays (Ask w j) m then (λ f. still s st inv (Ask w j) m refl (Logic f))
  step (Spread w j) m then = stays (Spread w j) m then (λ f. still s st inv (Spread w j) m refl (Logic f))
  step (Hold w j) m then = stays (Hold w j) m then (λ f. still s st inv (Hold w j) m refl (Logic f))
  step (Finish w (Logic g)) m then = ends w g m then
  step (Finish w (Think g c)) m then = stays (Finish w (Think g c)) m then (λ f. still_other s st inv (Finish w (Think g c)) m (Logic f) (λ x. cc))
  step (Finish w (Path g c i)) m then = stays (Finish w (Path g c i)) m then (λ f. still_other s st inv (Finish w (Path g c i)) m (Logic f) (λ x. cc))
  step (Finish w (Draw g b)) m then = stays (Finish w (Draw g b)) m then (λ f. still_other s st inv (Finish w (Draw g b)) m (Logic f) (λ x. cc))
  step (Emit g) m then = stays (Emit g) m then (λ f. refl)
  step Stop m then = stays Stop m then (λ f. refl)

turned_list : (s : Setup) (es : List Event) (st : State) (inv : Shape s st) → IsLegalFrom s st es → (then : Shape s (after_all s st es)) → then.turned ≡ turned_after inv.turned es
turned_list s [] st inv l then = sym (turned_same s st st inv then (λ f. refl))
turned_list s (e ∷ es) st inv l then = turned_list s es (after s st e) (keeps s st e inv l.0.1) l.1 then ∙ ap (λ n. turned_after n es) (step s st inv e l.0.1 (keeps s st e inv l.0.1))

pub turned_is : (s : Setup) (es : List Event) → IsLegalList s es → (inv : Shape s (state s es)) → inv.turned ≡ turned_after 0 es
turned_is s es l inv = turned_list s es (opening s) (opens s) l inv ∙ ap (λ n. turned_after n es) (opens_turned s)
