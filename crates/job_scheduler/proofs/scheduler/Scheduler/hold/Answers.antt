use Rattle.std.proofs.Common.{◌≡◌, ◌-◌, ◌∙◌, length, sym, ap, arith}
use Rattle.job_core.specs.declared.names.JobName.TheVariants.{Logic}
use Rattle.job_core.specs.Core.{Shown}
use Rattle.board_model.specs.Board.{Core, first_row}
use Rattle.job_scheduler.specs.contracts.scheduler.Scheduler.{the_view}
use Rattle.job_scheduler.proofs.Entries.{run_worker, run_fiber, run_held, fiber_inside, fiber_known, some_case}
use Rattle.counters.proofs.Changes.{on_ok}
use Rattle.job_scheduler.proofs.Writes.{waited}
use Rattle.job_scheduler.proofs.scheduler.Scheduler.hold.Goals as goal

pub fiber_of-fiber-requires : goal.fiber_of-fiber-requires
fiber_of-fiber-requires c = run_worker c.args.self.now.seats c.args.worker (Logic c.args.frame) 0 c.requires.runs

pub hold_on-requires-clause-worker : goal.hold_on-requires-clause-worker
hold_on-requires-clause-worker c = rw (← c.self.view_is) at (run_worker c.args.self.now.seats c.args.worker (Logic c.args.frame) 0 c.requires.runs)

pub hold_on-requires-clause-fiber : goal.hold_on-requires-clause-fiber
hold_on-requires-clause-fiber c = fiber_known c.self.view_is c.args.worker c.fiber_of-fiber.ensures (run_fiber c.args.self.now.seats c.args.worker (Logic c.args.frame) 0 c.requires.runs)

pub returns-clause-ok : goal.returns-clause-ok
returns-clause-ok c = λ s sized.
    let table = rw (← c.self.view_is) at c.requires.table in
    let fiber = fiber_inside c.self.view_is c.args.worker c.fiber_of-fiber.ensures in
    let kept = on_ok c.wait.result c.if-is_err.ensures.negation c.wait.ensures.kept in
    let slots : length c.args.self.now.slots ≡ length c.self.inside.slots = ap (λ (m : Core). length m.slots) (sym c.self.view_is) in
    let many : c.len.result ≡ s.slots = omega (arith, slots, sized, c.len.ensures) in
    let held = rw (← c.self.view_is) at (run_held c.args.self.now.seats c.args.worker (Logic c.args.frame) 0 c.requires.runs) in
    some_case (first_row (Shown (c.args.frame - length c.args.self.now.slots)) c.args.self.now.counters) c.requires.unshown (λ row there above.
    let stands = rw (← sized, ← c.self.view_is) at there in
    rw (← c.self.view_is) (c.hold_on.ensures ∙ rw (kept, fiber, many) (waited (the_view c.self.inside) table c.args.worker (Logic c.args.frame) 0 (Shown (c.args.frame - s.slots)) c.self.inside.queues.queues.fresh c.self.inside.counters c.self.inside.slots c.requires.runs.0 row held stands)))
