use Rattle.std.proofs.Common.{sym, ap, ◌∙◌, subst}
use Rattle.job_core.specs.Names.{frame_of}
use Rattle.frame_params.specs.BoardSteps.{IsToldOf}
use Rattle.job_board.specs.Works.{IsWorkOf, work_told}
use Rattle.job_board.proofs.Working.{work_is}
use Rattle.job_board.proofs.work.Work.of.Goals as goal

pub returns : goal.returns
returns c = λ g j k is.
    let step = c.deliver-step.result.0 in
    let told = subst (IsToldOf c.args.task.now) (sym c.deliver-step.ensures.step) c.in_ok-work_in.ensures.step in
    let made = c.told.ensures ∙ ap (λ f. work_told f step) (c.frame.ensures ∙ ap frame_of c.name.ensures) in
    subst (IsWorkOf g j k) (sym made) (work_is c.args.task.now step told g j k is)
