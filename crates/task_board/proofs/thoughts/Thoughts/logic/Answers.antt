use Rattle.std.proofs.Common.{length, ◌∙◌}
use Rattle.task_board.proofs.PartOrder.{all_parts}
use Rattle.task_board.proofs.thoughts.Thoughts.logic.Goals as goal

pub turn-requires : goal.turn-requires
turn-requires c =
    let all = rw (← c.self.view_is) at c.requires.all in
    let game = rw (← c.self.view_is) at c.requires.game in
    rw game (c.deref.ensures.value ∙ all_parts c.self.inside.session.now c.args.params.now.frame (length c.self.inside.session.now.trees) c.self.inside.all.items c.self.invariant.0 all)
