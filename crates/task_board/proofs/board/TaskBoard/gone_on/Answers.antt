use Rattle.std.proofs.Common.{◌≡◌, ◌-◌, ◌∙◌, suc, sym, ap, subst, inr, arith}
use Rattle.job_core.specs.declared.names.JobName.TheVariants.{Logic}
use Rattle.job_core.specs.Core.{Waits}
use Rattle.board_model.specs.Lists.{first_place}
use Rattle.board_model.specs.Board.{Held, core_of, holds}
use Rattle.task_board.specs.Boards.{IsResume, setup_in, state_in}
use Rattle.task_board.proofs.BoardEvents.{task_there}
use Rattle.task_board.proofs.board.TaskBoard.gone_on.Goals as goal

pub turn-requires-clause-spread : goal.turn-requires-clause-spread
turn-requires-clause-spread c =
    let job : c.args.held.job ≡ Logic c.in-Logic.frame = sym (ap (λ (h : Held). h.job) c.held.view_is) ∙ c.in-Logic.is in
    let step : c.args.held.step ≡ c.held.inside.step = sym (ap (λ (h : Held). h.step) c.held.view_is) in
    let one : c.held.inside.step ≡ suc (c.held.inside.step - 1) = omega (arith, c.if-held-gt0.true) in
    (c.held.inside.step - 1, ap (state_in c.args.self.now).phase (sym job) ∙ (c.requires.resume.stands ∙ ap Waits (step ∙ one)))

pub task-requires-clause-parts : goal.task-requires-clause-parts
task-requires-clause-parts c =
    let job : c.held.inside.job ≡ c.args.held.job = ap (λ (h : Held). h.job) c.held.view_is in
    let step : c.held.inside.step ≡ c.args.held.step = ap (λ (h : Held). h.step) c.held.view_is in
    let is = subst (λ b. IsResume b c.args.worker c.args.fiber c.args.held c.args.place) (sym c.self.view_is) c.requires.resume in
    rw (job, step) (task_there c.self.inside.session.now c.self.inside.jobs c.self.inside.frame_store c.self.invariant c.args.held.job c.args.held.step (c.args.worker, inr (is.legal, is.stands)))

pub go_on-requires-clause-holder : goal.go_on-requires-clause-holder
go_on-requires-clause-holder c =
    let b = c.args.self.now in
    let job : c.held.inside.job ≡ c.args.held.job = ap (λ (h : Held). h.job) c.held.view_is in
    subst (λ j. first_place (holds j) (core_of (setup_in b) b.events).seats.jobs ≡ c.args.fiber) (sym job) c.requires.resume.holder
