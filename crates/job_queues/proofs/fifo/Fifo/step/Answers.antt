use Rattle.std.proofs.Common.{◌≡◌, ◌+◌, suc, drop, ap, ◌∙◌, arith}
use Rattle.job_queues.proofs.Fifos.{step_behind}
use Rattle.job_queues.proofs.fifo.Fifo.step.Goals as goal

pub returns-else-self-len-clause-items : goal.returns-else-self-len-clause-items
returns-else-self-len-clause-items g c =
    let one : c.self.inside.gone + 1 ≡ suc c.self.inside.gone = omega arith in
    rw (← c.self.view_is) (ap (λ k. drop k c.self.inside.all.items) one ∙ step_behind c.self.inside.gone c.self.inside.all.items)
