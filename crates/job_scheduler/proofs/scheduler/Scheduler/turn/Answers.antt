use Rattle.std.proofs.Common.{◌≡◌, ◌∙◌, true, Some, slice_get, refl, ap}
use Rattle.job_core.specs.Core.{Draws}
use Rattle.board_model.specs.Board.{Core, fiber_of}
use Rattle.job_scheduler.proofs.Entries.{fiber_inside, fiber_known, busy_worker, busy_fiber, busy_taken}
use Rattle.job_scheduler.proofs.Rows.{raise_undone}
use Rattle.job_scheduler.proofs.scheduler.Scheduler.turn.Goals as goal

pub fiber_of-fiber-requires : goal.fiber_of-fiber-requires
fiber_of-fiber-requires c = busy_worker c.args.self.now.seats c.args.worker c.requires.runs

pub leave-requires-clause-taken : goal.leave-requires-clause-taken
leave-requires-clause-taken c =
    let taken : slice_get c.args.self.now.seats.taken (fiber_of c.args.self.now.seats c.args.worker) ≡ Some true = busy_taken c.args.self.now.seats c.args.worker c.requires.runs c.requires.table in
    rw c.fiber_of-fiber.ensures (ap (λ (m : Core). slice_get m.seats.taken (fiber_of c.args.self.now.seats c.args.worker)) c.self.view_is ∙ taken)

pub leave-requires-clause-worker : goal.leave-requires-clause-worker
leave-requires-clause-worker c = rw (← c.self.view_is) at (busy_worker c.args.self.now.seats c.args.worker c.requires.runs)

pub leave-requires-clause-fiber : goal.leave-requires-clause-fiber
leave-requires-clause-fiber c = fiber_known c.self.view_is c.args.worker c.fiber_of-fiber.ensures (busy_fiber c.args.self.now.seats c.args.worker c.requires.runs)

pub returns-in_default-clause-unchanged : goal.returns-in_default-clause-unchanged
returns-in_default-clause-unchanged c =
    let key = rw (← c.self.view_is) at c.requires.key in
    rw (c.cancel.ensures, c.in_default.ensures.unchanged, c.in_ok-raise.ensures.ok, raise_undone (Draws c.args.frame) c.args.bands c.self.inside.counters key, c.self.view_is) refl

pub returns-clause-ok : goal.returns-clause-ok
returns-clause-ok c = λ s frames many.
    let fiber = fiber_inside c.self.view_is c.args.worker c.fiber_of-fiber.ensures in
    rw (← c.self.view_is) (c.leave.ensures ∙ rw (c.in-Ok.ensures.after, c.in_ok-raise.ensures.ok, fiber, frames, many) refl)
