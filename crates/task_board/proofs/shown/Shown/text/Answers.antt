use Rattle.std.proofs.lemmas.Result.{IfOk-weaker}
use Rattle.task_board.proofs.Texts.{written_is}
use Rattle.task_board.proofs.shown.Shown.text.Goals as goal

pub returns : goal.returns
returns c =
    IfOk-weaker c.draw_frame.result _ _
    (λ text is. written_is c.args.self.now c.frame.result c.world.result.now c.signals.result c.statuses.result.now text.items c.requires c.frame.ensures
    c.world.ensures.value c.signals.ensures c.statuses.ensures.value is)
    c.draw_frame.ensures
