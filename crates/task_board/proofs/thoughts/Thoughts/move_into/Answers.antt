use Rattle.std.proofs.Common.{length}
use Rattle.task_board.proofs.PartOrder.{all_parts}
use Rattle.task_board.proofs.thoughts.Thoughts.move_into.Goals as goal

pub returns-clause-moved : goal.returns-clause-moved
returns-clause-moved c = λ f all.
    let here = rw (← c.self.view_is) at all in
    rw (← c.self.view_is, c.swap.ensures.y_after) (all_parts c.self.inside.session.now f (length c.self.inside.session.now.trees) c.self.inside.all.items c.self.invariant.0 here)
