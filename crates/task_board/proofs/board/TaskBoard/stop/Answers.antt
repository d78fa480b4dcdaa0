use Rattle.std.proofs.Common.{◌≡◌, refl, sym, ◌∙◌, subst, inl, inr}
use Rattle.job_core.specs.declared.names.Event.TheVariants.{Stop}
use Rattle.task_board.specs.Boards.{IsStopped}
use Rattle.task_board.proofs.BoardEvents.{known, next, kept_after, happens, seen_as}
use Rattle.task_board.proofs.board.TaskBoard.stop.Goals as goal

pub returns-then-is_stopped : goal.returns-then-is_stopped
returns-then-is_stopped c = subst (λ b. IsStopped b b) c.self.view_is (inl (sym (known c.self.inside.session.now c.self.inside.jobs c.self.inside.frame_store c.self.invariant (λ s st. c.is_stopped.result ≡ st.stopped) c.is_stopped.ensures) ∙ c.if-is_stopped.true, refl))

pub stop-requires : goal.stop-requires
stop-requires c = next c.self.inside.session.now c.self.inside.jobs c.self.inside.frame_store c.self.invariant Stop (sym (known c.self.inside.session.now c.self.inside.jobs c.self.inside.frame_store c.self.invariant (λ s st. c.is_stopped.result ≡ st.stopped) c.is_stopped.ensures) ∙ c.if-is_stopped.false, tt)

pub invariant_of-self : goal.invariant_of-self
invariant_of-self c = kept_after c.self.inside.session.now c.self.inside.jobs c.self.inside.frame_store c.self.invariant Stop (sym (known c.self.inside.session.now c.self.inside.jobs c.self.inside.frame_store c.self.invariant (λ s st. c.is_stopped.result ≡ st.stopped) c.is_stopped.ensures) ∙ c.if-is_stopped.false, tt) c.stop.new.self c.stop.ensures c.self.inside.frame_store refl

pub returns : goal.returns
returns c = subst (λ b. IsStopped b (seen_as c.self.inside.session.now c.stop.new.self)) c.self.view_is (inr (happens c.self.inside.session.now c.self.inside.jobs c.self.inside.frame_store c.self.invariant Stop (sym (known c.self.inside.session.now c.self.inside.jobs c.self.inside.frame_store c.self.invariant (λ s st. c.is_stopped.result ≡ st.stopped) c.is_stopped.ensures) ∙ c.if-is_stopped.false, tt) c.stop.new.self c.stop.ensures))
