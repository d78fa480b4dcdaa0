use Rattle.std.proofs.Common.{ap}
use Rattle.task_board.specs.FrameStore.{PartsOf}
use Rattle.task_board.proofs.FrameStores.{with_no_thoughts}
use Rattle.task_board.proofs.frame_store.FrameStore.go_on.Goals as goal

pub returns-in-Logic : goal.returns-in-Logic
returns-in-Logic c = λ st w. rw (c.in-Logic.is, ← c.self.view_is) (with_no_thoughts c.self.inside.session.now c.self.inside.next c.self.inside.slots c.self.inside.asking.items c.self.inside.thoughts c.self.inside.turns.items c.clear.new.self (ap (λ (t : PartsOf). t.parts) c.clear.ensures))
