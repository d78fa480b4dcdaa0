-- The task of a thought that goes on with the answer to its last question.
use Rattle.std.proofs.Common.{◌≡◌, ◌<◌, ◌+◌, ◌∙◌, ℕ, zero, suc, Option, Some, true, IfSome, slice_get, unwrap_or, sym, ap, subst, arith}
use Rattle.game_rules.specs.Game.{Game}
use Rattle.job_core.specs.declared.names.JobName.{JobName}
use Rattle.job_core.specs.declared.names.JobName.TheVariants.{Think}
use Rattle.board_model.specs.Stored.{Asked, asked}
use Rattle.board_model.specs.Needed.{HasParts}
use Rattle.frame_state.specs.Names.{QuestionOf, ThinkOf, question_of, think_of}
use Rattle.frame_params.specs.Tasks.{IsTaskAt}
use Rattle.frame_params.specs.declared.task.Task.TheVariants.{Think as ThinkTask}
use Rattle.task_board.specs.FrameStore.{FrameStoreOf, sizes}

module _ (k : FrameStoreOf) (f a : ℕ) (o : Option Asked) (g : Game) (q : QuestionOf) (t : ThinkOf) (same : g ≡ k.game) (here : slice_get k.stored.asking a ≡ Some o)
    (is : IfSome o (λ p. q ≡ question_of g p.frame p.agent p.question))
    (made : t ≡ record { game = q.game; frame = q.frame; agent = q.agent; answered = q.question + 1 }) where
  pub thought_goes_on : (job : JobName) (step : ℕ) → job ≡ Think f a → 0 < step → HasParts (sizes k) k.stored job step → IsTaskAt k.game job step (ThinkTask t)
  thought_goes_on job zero e h parts = absurd (omega (arith, h))
  thought_goes_on job (suc i) e h parts =
      let there : HasParts (sizes k) k.stored (Think f a) (suc i) = subst (λ j. HasParts (sizes k) k.stored j (suc i)) e parts in
      let last : o ≡ Some (asked f a i true) = ap (λ x. unwrap_or x o) (sym here ∙ there.2) in
      let named : q ≡ question_of g f a i = subst (λ x. IfSome x (λ p. q ≡ question_of g p.frame p.agent p.question)) last is in
      let next : i + 1 ≡ suc i = omega arith in
      let task : t ≡ think_of k.game f a (suc i) =
      made ∙ ap (λ (x : QuestionOf). think_of x.game x.frame x.agent (x.question + 1)) named ∙ ap (λ (h : Game). think_of h f a (i + 1)) same
      ∙ ap (think_of k.game f a) next in
      subst (λ j. IsTaskAt k.game j (suc i) (ThinkTask t)) (sym e) task
