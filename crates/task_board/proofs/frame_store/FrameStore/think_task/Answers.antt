use Rattle.std.proofs.Common.{◌<◌, refl, arith}
use Rattle.job_core.specs.declared.names.JobName.TheVariants.{Think}
use Rattle.task_board.proofs.GoingOn.{thought_goes_on}
use Rattle.task_board.proofs.frame_store.FrameStore.think_task.Goals as goal

pub returns-clause-task : goal.returns-clause-task
returns-clause-task c =
    let it = c.asking_of-asking.result.now in
    let later : 0 < c.args.step = omega (arith, c.if-step-eq0.false) in
    thought_goes_on c.args.self.now c.args.frame c.args.agent it.asked it.game c.parked.result.now c.in_ok-task.task c.asking_of-asking.ensures.0
    c.asking_of-asking.ensures.1 c.parked.ensures c.in_ok-task.ensures (Think c.args.frame c.args.agent) c.args.step refl later c.requires.parts
