use Rattle.std.proofs.Common.{Some, true, ap}
use Rattle.board_model.specs.Stored.{asked}
use Rattle.task_board.specs.FrameStore.{AskedOf}
use Rattle.task_board.proofs.FrameStores.{with_asked}
use Rattle.task_board.proofs.frame_store.FrameStore.answer.Goals as goal

pub returns : goal.returns
returns c = λ st w. rw (← c.self.view_is) (with_asked c.self.inside.session.now c.self.inside.next c.self.inside.slots c.self.inside.asking.items c.self.inside.thoughts c.self.inside.turns.items c.agent-agent.result c.args.way.agent c.answer.new.self (Some (asked c.args.way.frame c.args.way.agent c.args.way.question true)) c.agent-agent.ensures (ap (λ (a : AskedOf). a.asked) c.answer.ensures))
