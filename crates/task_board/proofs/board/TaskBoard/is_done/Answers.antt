use Rattle.std.proofs.Common.{◌≡◌, false}
use Rattle.std.specs.Prelude.{◌↔◌, IsTrue}
use Rattle.task_board.proofs.BoardEvents.{known}
use Rattle.task_board.proofs.board.TaskBoard.is_done.Goals as goal

pub returns : goal.returns
returns c =
    let test = known c.self.inside.session.now c.self.inside.jobs c.self.inside.frame_store c.self.invariant (λ s st. IsTrue c.is_done.result ↔ ((st.stopped ≡ false) × (st.emitted ≡ s.frames))) c.is_done.ensures in
    rw (← c.self.view_is) (λ e. (c.self.invariant.lawful, (test.0 e).0, (test.0 e).1), λ m. test.1 (m.1, m.2))
