use Rattle.std.proofs.Common.{◌+◌, ◌<◌, drop, length, ap, ◌∙◌, arith}
use Rattle.std.proofs.lemmas.List.{length-drop}
use Rattle.job_queues.proofs.Fifos.{remove_behind}
use Rattle.job_queues.proofs.fifo.Fifo.remove.Goals as goal

pub returns-clause-items : goal.returns-clause-items
returns-clause-items g c =
    let l : c.args.at < length (drop c.self.inside.gone c.self.inside.all.items) = rw (← c.self.view_is) at c.requires in
    let left = length-drop c.self.inside.gone c.self.inside.all.items in
    let there : c.self.inside.gone + c.args.at < length c.self.inside.all.items = omega (arith, l, left) in
    rw (← c.self.view_is) (ap (drop c.self.inside.gone) c.remove-taken.ensures.items ∙ remove_behind c.self.inside.gone c.args.at c.self.inside.all.items there)
