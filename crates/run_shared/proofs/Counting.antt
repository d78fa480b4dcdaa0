-- More events, in the counts.
use Rattle.std.proofs.Common.{◌≡◌, ℕ, ◌+◌, ◌≤◌, Bool, true, false, List, [], ◌∷◌, ◌++◌, count_by, Some, refl, sym, ap, ◌∙◌, subst, arith, inl, inr, ⊎_elim, add-zero}
use Rattle.std.proofs.lemmas.Grind.{common_steps}
use Rattle.game_rules.specs.Game.{Game}
use Rattle.job_core.specs.declared.names.JobName.{JobName}
use Rattle.job_core.specs.declared.names.JobName.TheVariants.{Logic, Think, Path, Draw}
use Rattle.job_core.specs.declared.names.Event.{Event}
use Rattle.job_core.specs.declared.names.Event.TheVariants.{Start, Resume, Ask, Spread, Hold, Finish, Emit, Stop}
use Rattle.frame_params.specs.Tasks.{game_of, job_of, IsTaskAt}
use Rattle.frame_params.specs.declared.task.Task.{Task}
use Rattle.frame_params.specs.declared.task.Task.TheVariants.{Logic as LogicTask, Think as ThinkTask, Path as PathTask, Draw as DrawTask}
use Rattle.job_core.specs.Core.{Setup, State, IsComplete, after, after_all, opening, state}
use Rattle.job_core.specs.Draws.{ends_draw}
use Rattle.frame_state.specs.Names.{FrameOf}
use Rattle.task_board.specs.Boards.{Played, Happens, IsTaken, IsShown, setup_in}
use Rattle.frame_params.specs.declared.board_step.BoardStep.{BoardStep}
use Rattle.frame_params.specs.declared.board_step.BoardStep.TheVariants.{Logic as LogicStep, Think as ThinkStep, Path as PathStep, Draw as DrawStep}
use Rattle.frame_state.specs.declared.logic_step.LogicStep.TheVariants.{Begins, Turned}
use Rattle.frame_params.specs.declared.think_step.ThinkStep.TheVariants.{Ended, Asks}
use Rattle.task_board.specs.HandedIn.{IsHandedIn}
use Rattle.run_shared.specs.Counts.{names_worker, is_emit, draws_ended}
use Rattle.job_scheduler.specs.Numbers.{Numbers}
use Rattle.task_board.specs.Setups.{setup_for}

-- the run with one event more, of a worker; so many events end a Draw now
pub record OfWorker (old new : Played) (draws : ℕ) : Type 0 where
  pub game : new.game ≡ old.game
  pub numbers : new.numbers ≡ old.numbers
  pub named : count_by names_worker new.events ≡ count_by names_worker old.events + 1
  pub emitted : count_by is_emit new.events ≡ count_by is_emit old.events
  pub drawn : count_by ends_draw new.events ≡ draws

of_task : (g : Game) (j : JobName) (k : ℕ) (t : Task) → IsTaskAt g j k t → game_of t ≡ g
of_task g (Logic f) k (LogicTask l) h = rw h refl
of_task g (Logic f) k (ThinkTask t) h = absurd h
of_task g (Logic f) k (PathTask q) h = absurd h
of_task g (Logic f) k (DrawTask d) h = absurd h
of_task g (Think f a) k (LogicTask l) h = absurd h
of_task g (Think f a) k (ThinkTask t) h = rw h refl
of_task g (Think f a) k (PathTask q) h = absurd h
of_task g (Think f a) k (DrawTask d) h = absurd h
of_task g (Path f a i) k (LogicTask l) h = absurd h
of_task g (Path f a i) k (ThinkTask t) h = absurd h
of_task g (Path f a i) k (PathTask q) h = rw h refl
of_task g (Path f a i) k (DrawTask d) h = absurd h
of_task g (Draw f b) k (LogicTask l) h = absurd h
of_task g (Draw f b) k (ThinkTask t) h = absurd h
of_task g (Draw f b) k (PathTask q) h = absurd h
of_task g (Draw f b) k (DrawTask d) h = rw h refl

count_one : (p : Event → Bool) (e : Event) → p e ≡ true → count_by p (e ∷ []) ≡ 1
count_one p e h = rw h refl

count_none : (p : Event → Bool) (e : Event) → p e ≡ false → count_by p (e ∷ []) ≡ 0
count_none p e h = rw h refl

counted : (p : Event → Bool) (es more : List Event) → count_by p (es ++ more) ≡ count_by p es + count_by p more
counted p es more = grind (arith, common_steps)

by_worker : (old new : Played) (e : Event) (draws : ℕ) → Happens old new e → names_worker e ≡ true → is_emit e ≡ false → count_by ends_draw old.events + count_by ends_draw (e ∷ []) ≡ draws → OfWorker old new draws
by_worker old new e draws h y n d = record {
  game = ap (λ b. b.game) h.logged;
  numbers = ap (λ b. b.numbers) h.logged;
  named = rw h.logged (rw (counted names_worker old.events (e ∷ []), count_one names_worker e y) refl);
  emitted = rw h.logged (rw (counted is_emit old.events (e ∷ []), count_none is_emit e n) (add-zero _));
  drawn = rw h.logged (counted ends_draw old.events (e ∷ []) ∙ d);
}

-- what a worker hands in is one event, which names it
pub handed_in_is : (old new : Played) (w : ℕ) (step : BoardStep) → IsHandedIn old new w step → OfWorker old new (count_by ends_draw old.events + draws_ended step)
handed_in_is old new w (LogicStep Begins) h =
    ⊎_elim (λ d. by_worker old new (Spread w (Logic d.0)) (count_by ends_draw old.events + 0) d.1 refl refl refl) (λ d. by_worker old new (Hold w (Logic d.0)) (count_by ends_draw old.events + 0) d.1 refl refl refl) h
handed_in_is old new w (LogicStep (Turned turn)) h = by_worker old new (Finish w (Logic turn.frame)) (count_by ends_draw old.events + 0) h refl refl refl
handed_in_is old new w (ThinkStep (Ended thought)) h = by_worker old new (Finish w (Think thought.frame thought.number)) (count_by ends_draw old.events + 0) h refl refl refl
handed_in_is old new w (ThinkStep (Asks parked)) h = by_worker old new (Ask w (Think parked.frame parked.agent)) (count_by ends_draw old.events + 0) h.0 refl refl refl
handed_in_is old new w (PathStep way) h = by_worker old new (Finish w (Path way.frame way.agent way.question)) (count_by ends_draw old.events + 0) h refl refl refl
handed_in_is old new w (DrawStep mark) h = by_worker old new (Finish w (Draw mark.frame mark.number)) (count_by ends_draw old.events + 1) h refl refl refl

-- a task was taken, of the board's game
pub taken_is : (old new : Played) (w : ℕ) (t : Task) → IsTaken old new w (Some t) → OfWorker old new (count_by ends_draw old.events) × (game_of t ≡ old.game)
taken_is old new w t (inl s) = (by_worker old new (Start w (job_of t)) (count_by ends_draw old.events) s.happens refl refl (add-zero _), of_task old.game (job_of t) 0 t s.is_task)
taken_is old new w t (inr r) = (by_worker old new (Resume w (job_of t)) (count_by ends_draw old.events) r.happens refl refl (add-zero _), of_task old.game (job_of t) r.step t r.is_task)

-- ---- the state counts the frames too

before : (p : Event → Bool) (e : Event) (es : List Event) → count_by p (e ∷ es) ≡ count_by p (e ∷ []) + count_by p es
before p e es = grind (arith, common_steps)

emitted-after : (s : Setup) (st : State) (e : Event) → (after s st e).emitted ≡ count_by is_emit (e ∷ []) + st.emitted
emitted-after s st (Ask w (Logic f)) = omega arith
emitted-after s st (Spread w (Logic f)) = omega arith
emitted-after s st e = omega arith

emitted-after_all : (s : Setup) (es : List Event) (st : State) → (after_all s st es).emitted ≡ count_by is_emit es + st.emitted
emitted-after_all s [] st = omega arith
emitted-after_all s (e ∷ es) st = omega (arith, emitted-after_all s es (after s st e), emitted-after s st e, before is_emit e es)

pub emitted-state : (s : Setup) (es : List Event) → (state s es).emitted ≡ count_by is_emit es
emitted-state s es = omega (arith, emitted-after_all s es (opening s))

-- the frame that is shown is the next after those that the events show, and is one of the run's
pub shown_is : (old new : Played) (f : FrameOf) → IsShown old new f
    → (f.frame ≡ count_by is_emit old.events + 1) × (count_by is_emit new.events ≡ count_by is_emit old.events + 1)
    × (count_by names_worker new.events ≡ count_by names_worker old.events) × (count_by ends_draw new.events ≡ count_by ends_draw old.events) × (f.frame ≤ old.numbers.frames) × (new.game ≡ old.game) × (new.numbers ≡ old.numbers)
shown_is old new f (game, h) = (
  omega (arith, h.legal.1.0, emitted-state (setup_in old) old.events),
  rw h.logged (rw (counted is_emit old.events (Emit f.frame ∷ [])) refl),
  rw h.logged (rw (counted names_worker old.events (Emit f.frame ∷ [])) (add-zero _)),
  rw h.logged (rw (counted ends_draw old.events (Emit f.frame ∷ [])) (add-zero _)),
  h.legal.1.1,
  ap (λ b. b.game) h.logged,
  ap (λ b. b.numbers) h.logged,
)

-- the events are complete for the board's own game and numbers
pub complete_for : (b : Played) (g : Game) (n : Numbers) (es : List Event) → b.game ≡ g → b.numbers ≡ n → es ≡ b.events → IsComplete (setup_in b) b.events → IsComplete (setup_for g n) es
complete_for b g n es p q r h =
    subst (λ x. IsComplete (setup_for x n) es) p
    (subst (λ x. IsComplete (setup_for b.game x) es) q (subst (λ l. IsComplete (setup_for b.game b.numbers) l) (sym r) h))

pub some_game : (a b : Game) → Some a ≡ Some b → a ≡ b
some_game a b e = cc

pub some_numbers : (a b : Numbers) → Some a ≡ Some b → a ≡ b
some_numbers a b e = cc
