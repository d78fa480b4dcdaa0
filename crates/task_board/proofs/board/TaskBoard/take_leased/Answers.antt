use Rattle.std.proofs.Common.{Ok, Err, None, refl, subst}
use Rattle.job_scheduler.specs.Looks.{Always, IsGivenTo}
use Rattle.job_scheduler.specs.declared.board_fault.BoardFault.TheVariants.{OutOfMemory}
use Rattle.task_board.specs.Boards.{IsTaken, IsTakeRefused}
use Rattle.task_board.specs.Found.{IsFound}
use Rattle.task_board.proofs.BoardEvents.{known, idle_or, seen_as}
use Rattle.task_board.proofs.Finding.{found, want_of_memory, is_taken}
use Rattle.task_board.proofs.board.TaskBoard.take_leased.Goals as goal

pub returns-in-Err-clause-refused : goal.returns-in-Err-clause-refused
returns-in-Err-clause-refused c = subst (λ b. IsTakeRefused b c.args.worker c.in-Err.fault) c.self.view_is (idle_or (seen_as c.self.inside.session.now c.self.inside.jobs) c.args.worker c.in-Err.fault (known c.self.inside.session.now c.self.inside.jobs c.self.inside.frame_store c.self.invariant (IsGivenTo c.args.worker (Err c.in-Err.fault)) c.in-Err.ensures.given))

pub returns-in_default-clause-ok : goal.returns-in_default-clause-ok
returns-in_default-clause-ok c =
    let told = subst (λ o. Always c.self.inside.jobs (IsGivenTo c.args.worker (Ok o))) c.in_default.is c.in-Ok.ensures.given in
    let none = known c.self.inside.session.now c.self.inside.jobs c.self.inside.frame_store c.self.invariant (IsGivenTo c.args.worker (Ok None)) told in
    subst (λ b. IsTaken b b c.args.worker None) c.self.view_is (refl, none.0, none.1, none.2)

pub task_next-requires-clause-found : goal.task_next-requires-clause-found
task_next-requires-clause-found c =
    subst (λ b. IsFound b c.args.worker c.in-Some.next) c.self.view_is
    (found c.self.inside.session.now c.self.inside.jobs c.self.inside.frame_store c.self.invariant c.args.worker c.in-Ok.given c.in-Some.next c.in-Some.is c.in-Ok.ensures.given c.in-Ok.ensures.picked c.in-Ok.ensures.place)

pub returns-in_default-task_next-clause-refused : goal.returns-in_default-task_next-clause-refused
returns-in_default-task_next-clause-refused c =
    subst (λ b. IsTakeRefused b c.args.worker OutOfMemory) c.self.view_is
    (want_of_memory (seen_as c.self.inside.session.now c.self.inside.jobs) c.args.worker c.in-Some.next
    (found c.self.inside.session.now c.self.inside.jobs c.self.inside.frame_store c.self.invariant c.args.worker c.in-Ok.given c.in-Some.next c.in-Some.is c.in-Ok.ensures.given c.in-Ok.ensures.picked c.in-Ok.ensures.place))

pub returns-clause-ok : goal.returns-clause-ok
returns-clause-ok c =
    let is = found c.self.inside.session.now c.self.inside.jobs c.self.inside.frame_store c.self.invariant c.args.worker c.in-Ok.given c.in-Some.next c.in-Some.is c.in-Ok.ensures.given c.in-Ok.ensures.picked c.in-Ok.ensures.place in
    is_taken c.args.self.now c.task_next.new.self c.args.worker c.in-Some.next c.in-Ok-task_next.task (subst (λ b. IsFound b c.args.worker c.in-Some.next) c.self.view_is is) c.in-Ok-task_next.ensures.task c.in-Ok-task_next.ensures.happens
