use Rattle.std.proofs.Common.{◌≤◌, ◌+◌}
use Rattle.std.specs.Prelude.{◌↔◌, IsTrue}
use Rattle.task_board.proofs.BoardEvents.{known}
use Rattle.task_board.proofs.board.TaskBoard.has_slot.Goals as goal

pub returns : goal.returns
returns c = rw (← c.self.view_is) (known c.self.inside.session.now c.self.inside.jobs c.self.inside.frame_store c.self.invariant (λ s st. IsTrue c.has_slot.result ↔ (c.args.frame ≤ st.emitted + s.slots)) c.has_slot.ensures)
