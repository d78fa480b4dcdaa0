-- What work comes to, of what a board is told of a task.
use Rattle.std.proofs.Common.{◌≡◌, ◌<◌, ℕ, true, false, nat_lt, sym, ap, ◌∙◌, subst, arith}
use Rattle.game_rules.specs.Game.{Game}
use Rattle.job_core.specs.Names.{frame_of}
use Rattle.job_core.specs.declared.names.JobName.{JobName}
use Rattle.job_core.specs.declared.names.JobName.TheVariants.{Logic, Think, Path, Draw}
use Rattle.job_core.proofs.ByCases.{by_lt}
use Rattle.frame_state.specs.Names.{FrameOf, PartOf, LogicOf, ThinkOf, QuestionOf, part_of, question_of, logic_of, think_of}
use Rattle.frame_state.specs.Contents.{questions_in}
use Rattle.frame_state.specs.Logic.{IsLogicStep}
use Rattle.frame_state.specs.declared.logic_step.LogicStep.{LogicStep}
use Rattle.frame_state.specs.declared.logic_step.LogicStep.TheVariants.{Begins, Turned}
use Rattle.frame_params.specs.Tasks.{job_of, IsTaskAt}
use Rattle.frame_params.specs.Thinks.{IsThinkStep}
use Rattle.frame_params.specs.BoardSteps.{IsToldOf}
use Rattle.frame_params.specs.declared.task.Task.{Task}
use Rattle.frame_params.specs.declared.task.Task.TheVariants.{Logic as LogicTask, Think as ThinkTask, Path as PathTask, Draw as DrawTask}
use Rattle.frame_params.specs.declared.think_step.ThinkStep.{ThinkStep}
use Rattle.frame_params.specs.declared.think_step.ThinkStep.TheVariants.{Ended, Asks}
use Rattle.frame_params.specs.declared.board_step.BoardStep.{BoardStep}
use Rattle.frame_params.specs.declared.board_step.BoardStep.TheVariants.{Logic as LogicTold, Think as ThinkTold, Path as PathTold, Draw as DrawTold}
use Rattle.job_board.specs.Works.{work_told, IsWorkOf}

-- what a Logic's step says of how often it has spread
not_above : (k : ℕ) → nat_lt 0 k ≡ false → k ≡ 0
not_above k = by_lt 0 k (λ b. b ≡ false → k ≡ 0) (λ _ e. absurd cc) (λ n _. omega (arith, n))

is_above : (k : ℕ) → nat_lt 0 k ≡ true → 0 < k
is_above k = by_lt 0 k (λ b. b ≡ true → 0 < k) (λ l _. l) (λ _ e. absurd cc)

logic_work : (g : Game) (f k : ℕ) (l : LogicOf) (step : LogicStep) → l ≡ logic_of g f (nat_lt 0 k) → IsLogicStep l step → IsWorkOf g (Logic f) k (work_told l.frame (LogicTold step))
logic_work g f k l Begins is told = (ap (λ (x : LogicOf). Logic x.frame) is, not_above k (sym (ap (λ (x : LogicOf). x.has_spread) is) ∙ told))
logic_work g f k l (Turned turn) is told = (
  ap (λ (t : FrameOf). Logic t.frame) told.1 ∙ ap (λ (x : LogicOf). Logic x.frame) is,
  ap (λ (t : FrameOf). t.game) told.1 ∙ ap (λ (x : LogicOf). x.game) is,
  is_above k (sym (ap (λ (x : LogicOf). x.has_spread) is) ∙ told.0),
)

think_work : (g : Game) (f a k : ℕ) (t : ThinkOf) (step : ThinkStep) → t ≡ think_of g f a k → IsThinkStep t step → IsWorkOf g (Think f a) k (work_told t.frame (ThinkTold step))
think_work g f a k t (Ended thought) is told =
    let here : (k ≡ questions_in g f a) × (thought ≡ part_of g f a) = subst (λ (x : ThinkOf). (x.answered ≡ questions_in x.game x.frame x.agent) × (thought ≡ part_of x.game x.frame x.agent)) is told in (
      ap (λ (p : PartOf). Think p.frame p.number) here.1,
      ap (λ (p : PartOf). p.game) here.1,
      here.0 ∙ ap (λ (p : PartOf). questions_in p.game p.frame p.number) (sym here.1),
    )
think_work g f a k t (Asks parked) is told =
    let here : (k < questions_in g f a) × (parked ≡ question_of g f a k) = subst (λ (x : ThinkOf). (x.answered < questions_in x.game x.frame x.agent) × (parked ≡ question_of x.game x.frame x.agent x.answered)) is told in (
      ap (λ (q : QuestionOf). Think q.frame q.agent) here.1,
      ap (λ (q : QuestionOf). q.question) here.1,
      ap (λ (q : QuestionOf). q.game) here.1,
      subst (λ (q : QuestionOf). k < questions_in q.game q.frame q.agent) (sym here.1) here.0,
    )

pub work_is : (task : Task) (step : BoardStep) → IsToldOf task step → (g : Game) (j : JobName) (k : ℕ) → IsTaskAt g j k task → IsWorkOf g j k (work_told (frame_of (job_of task)) step)
work_is (LogicTask l) (LogicTold step) told g (Logic f) k is = logic_work g f k l step is told
work_is (ThinkTask t) (ThinkTold step) told g (Think f a) k is = think_work g f a k t step is told
work_is (PathTask q) (PathTold way) told g (Path f a i) k is = (
  ap (λ (x : QuestionOf). Path x.frame x.agent x.question) (told ∙ is),
  ap (λ (x : QuestionOf). x.game) (told ∙ is),
  tt,
)
work_is (DrawTask d) (DrawTold mark) told g (Draw f n) k is = (ap (λ (x : PartOf). Draw x.frame x.number) (told ∙ is), ap (λ (x : PartOf). x.game) (told ∙ is), tt)
work_is (LogicTask l) (LogicTold step) told g _ k is = absurd is
work_is (ThinkTask t) (ThinkTold step) told g _ k is = absurd is
work_is (PathTask q) (PathTold way) told g _ k is = absurd is
work_is (DrawTask d) (DrawTold mark) told g _ k is = absurd is
work_is _ _ told g j k is = absurd told
