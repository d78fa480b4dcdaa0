use Rattle.std.proofs.Common.{◌≡◌, Bool, true, false, Option, refl, sym, subst}
use Rattle.frame_jobs.specs.Boards.{FrameBoard, SomebodyStarts, NobodyStarts}
use Rattle.frame_jobs_c.specs.Calls.{IsReadIn, IsGivenNow}
use Rattle.frame_jobs_c.proofs.board_reading.btjobs_may_take.Goals as goal

given_now : (may : Bool) (b : FrameBoard) → (may ≡ true → SomebodyStarts b) → (may ≡ false → NobodyStarts b) → IsGivenNow may b
given_now true b some none = some refl
given_now false b some none = none refl

pub returns-clause-ok : goal.returns-clause-ok
returns-clause-ok c = λ _.
    subst (λ (o : Option FrameBoard). IsReadIn (IsGivenNow c.may_take.result) o) (sym c.in-Some.ensures.some)
    (subst (λ (b : FrameBoard). IsGivenNow c.may_take.result b) c.deref.ensures
    (given_now c.may_take.result c.deref.result.now c.may_take.ensures.somebody c.may_take.ensures.nobody))
