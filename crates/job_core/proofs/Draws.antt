-- A complete list ends the Draw of each band of each frame once.
use Rattle.std.proofs.Common.{◌≡◌, ℕ, suc, ◌+◌, ◌*◌, List, [], ◌∷◌, count_by, refl, ap, ◌∙◌, arith}
use Rattle.std.proofs.lemmas.Grind.{common_steps}
use Rattle.job_core.specs.declared.names.JobName.{JobName}
use Rattle.job_core.specs.declared.names.JobName.TheVariants.{Logic, Think, Path, Draw}
use Rattle.job_core.specs.declared.names.Event.{Event}
use Rattle.job_core.specs.declared.names.Event.TheVariants.{Start, Resume, Ask, Spread, Hold, Finish, Emit, Stop}
use Rattle.job_core.specs.Core.{Setup, IsJob, State, Finished, May, IsLegalFrom, IsComplete, after, after_all, opening, state, total, over_frame, over_jobs}
use Rattle.job_core.proofs.Sums.{total_same, total_zero, jobs_same, jobs_zero, jobs_change}
use Rattle.job_core.proofs.Amount.{total_const}
use Rattle.job_core.proofs.Shape.{Shape, keeps, opens}
use Rattle.job_core.proofs.Moves.{mover, put_here}
use Rattle.job_core.proofs.Once.{ended, still, still_other, job_finished, shape_at}
use Rattle.job_core.specs.Draws.{ends_draw}

-- of the jobs the Draws alone
abbrev of_draws : JobName → ℕ → ℕ
of_draws (Draw f b) n = n
of_draws _ n = 0

-- the Draws that are ended
abbrev drawn : Setup → State → ℕ
drawn s st = over_jobs s (λ j. of_draws j (ended (st.phase j)))

same_draws : (s : Setup) (old new : State) → ((f b : ℕ) → ended (new.phase (Draw f b)) ≡ ended (old.phase (Draw f b))) → drawn s new ≡ drawn s old
same_draws s old new h = jobs_same s (λ j. of_draws j (ended (new.phase j))) (λ j. of_draws j (ended (old.phase j))) each
  where
    each : (j : JobName) (v : IsJob s j) → of_draws j (ended (new.phase j)) ≡ of_draws j (ended (old.phase j))
    each (Logic f) v = refl
    each (Think f a) v = refl
    each (Path f a i) v = refl
    each (Draw f b) v = h f b

one_more : (s : Setup) (st : State) (inv : Shape s st) (e : Event) → May s st e → drawn s (after s st e) ≡ count_by ends_draw (e ∷ []) + drawn s st
one_more s st inv (Start w j) m = let a = same_draws s st (after s st (Start w j)) (λ f b. still s st inv (Start w j) m refl (Draw f b)) in omega (arith, a)
one_more s st inv (Resume w j) m = let a = same_draws s st (after s st (Resume w j)) (λ f b. still s st inv (Resume w j) m refl (Draw f b)) in omega (arith, a)
one_more s st inv (Ask w j) m = let a = same_draws s st (after s st (Ask w j)) (λ f b. still s st inv (Ask w j) m refl (Draw f b)) in omega (arith, a)
one_more s st inv (Spread w j) m = let a = same_draws s st (after s st (Spread w j)) (λ f b. still s st inv (Spread w j) m refl (Draw f b)) in omega (arith, a)
one_more s st inv (Hold w j) m = let a = same_draws s st (after s st (Hold w j)) (λ f b. still s st inv (Hold w j) m refl (Draw f b)) in omega (arith, a)
one_more s st inv (Finish w (Logic g)) m = let a = same_draws s st (after s st (Finish w (Logic g))) (λ f b. still_other s st inv (Finish w (Logic g)) m (Draw f b) (λ x. cc)) in omega (arith, a)
one_more s st inv (Finish w (Think g c)) m = let a = same_draws s st (after s st (Finish w (Think g c))) (λ f b. still_other s st inv (Finish w (Think g c)) m (Draw f b) (λ x. cc)) in omega (arith, a)
one_more s st inv (Finish w (Path g c i)) m = let a = same_draws s st (after s st (Finish w (Path g c i))) (λ f b. still_other s st inv (Finish w (Path g c i)) m (Draw f b) (λ x. cc)) in omega (arith, a)
one_more s st inv (Finish w (Draw g c)) m =
    let new = after s st (Finish w (Draw g c)) in
    let a = jobs_change s (λ j. of_draws j (ended (new.phase j))) (λ j. of_draws j (ended (st.phase j))) (Draw g c) (mover s st inv (Finish w (Draw g c)) m tt) others in
    let was : ended (st.phase (Draw g c)) ≡ 0 = ap ended m.1 in
    let is : ended (new.phase (Draw g c)) ≡ 1 = ap ended (put_here st.phase (Draw g c) Finished) in
    omega (arith, a, was, is)
  where
    others : (j : JobName) (v : IsJob s j) → (j ≡ Draw g c → ⊥) → of_draws j (ended ((after s st (Finish w (Draw g c))).phase j)) ≡ of_draws j (ended (st.phase j))
    others (Logic f) v n = refl
    others (Think f a) v n = refl
    others (Path f a i) v n = refl
    others (Draw f b) v n = still_other s st inv (Finish w (Draw g c)) m (Draw f b) n
one_more s st inv (Emit f) m = omega arith
one_more s st inv Stop m = omega arith

count_more : (e : Event) (es : List Event) → count_by ends_draw (e ∷ es) ≡ count_by ends_draw (e ∷ []) + count_by ends_draw es
count_more e es = grind (arith, common_steps)

all_more : (s : Setup) (es : List Event) (st : State) → Shape s st → IsLegalFrom s st es → drawn s (after_all s st es) ≡ count_by ends_draw es + drawn s st
all_more s [] st inv l = omega arith
all_more s (e ∷ es) st inv l =
    let ih = all_more s es (after s st e) (keeps s st e inv l.0.1) l.1 in
    let a = one_more s st inv e l.0.1 in
    let b = count_more e es in
    omega (arith, ih, a, b)

none_at_opening : (s : Setup) → drawn s (opening s) ≡ 0
none_at_opening s = jobs_zero s (λ j. of_draws j (ended ((opening s).phase j))) each
  where
    each : (j : JobName) (v : IsJob s j) → of_draws j (ended ((opening s).phase j)) ≡ 0
    each (Logic f) v = refl
    each (Think f a) v = refl
    each (Path f a i) v = refl
    each (Draw f b) v = refl

-- as many as there are bands in all frames
all_draws : (s : Setup) → over_jobs s (λ j. of_draws j 1) ≡ s.bands * s.frames
all_draws s = total_same s.frames (λ k. over_frame s (λ j. of_draws j 1) (suc k)) (λ k. s.bands) (λ k l. of_frame k) ∙ total_const s.frames s.bands
  where
    of_frame : (k : ℕ) → over_frame s (λ j. of_draws j 1) (suc k) ≡ s.bands
    of_frame k =
        let thinks : total s.agents (λ a. 0 + total (s.questions (suc k) a) (λ i. 0)) ≡ 0 = total_zero s.agents (λ a. 0 + total (s.questions (suc k) a) (λ i. 0)) (λ a l. let z = total_zero (s.questions (suc k) a) (λ i. 0) (λ i m. refl) in omega (arith, z)) in
        let draws = total_const s.bands 1 in
        omega (arith, thinks, draws)

pub draws_ended : (s : Setup) (es : List Event) → IsComplete s es → count_by ends_draw es ≡ s.frames * s.bands
draws_ended s es c =
    let inv = shape_at s es c.0 in
    let counted = all_more s es (opening s) (opens s) c.0 in
    let none = none_at_opening s in
    let all : drawn s (state s es) ≡ over_jobs s (λ j. of_draws j 1) = jobs_same s (λ j. of_draws j (ended ((state s es).phase j))) (λ j. of_draws j 1) (λ j v. ap (λ p. of_draws j (ended p)) (job_finished s (state s es) inv c.2 j v)) in
    let each = all_draws s in
    omega (arith, counted, none, all, each)
