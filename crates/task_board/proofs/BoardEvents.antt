-- A board that keeps itself, before an event and after it.
use Rattle.std.proofs.Common.{◌==◌, ◌≡◌, ◌≤◌, ◌<◌, ◌+◌, ◌-◌, ◌↔◌, ℕ, zero, suc, true, false, Err, Some, length, refl, sym, ap, ◌∙◌, subst, inl, inr, ⊎_elim, arith}
use Rattle.game_rules.specs.Game.{Game}
use Rattle.job_core.specs.declared.names.Event.{Event}
use Rattle.job_core.specs.Core.{Setup, State, IsJob, IsAtEnd, same, opening, Runs, Waits, IsLegal, IsLegalList, step_of}
use Rattle.job_core.specs.Priorities.{GoesFirst}
use Rattle.job_core.proofs.Keeping.{legal_more, apart}
use Rattle.job_core.proofs.ByCases.{by_same}
use Rattle.job_core.proofs.Shape.{opens, there}
use Rattle.job_core.proofs.Moves.{shape_of}
use Rattle.bt_nodes.specs.Sizes.{size}
use Rattle.game_rules.proofs.Ways.{few}
use Rattle.game_jobs.specs.Instance.{asked_in, tree_of}
use Rattle.job_queues.specs.declared.queue_index.QueueIndex.{QueueIndex}
use Rattle.job_queues.specs.Picks.{IsFirstAt}
use Rattle.job_scheduler.specs.Logged.{Logged, setup_of, IsNext, IsNextFrom, IsNextOn, IsNextAt, with_event as jobs_with_event}
use Rattle.job_scheduler.specs.Looks.{Always, IsIdleOr, IsNotRunning, IsToShow}
use Rattle.job_scheduler.specs.declared.board_fault.BoardFault.{BoardFault}
use Rattle.job_scheduler.specs.declared.board_fault.BoardFault.TheVariants.{Stopped, NoWorker, Busy, NotRunning, WrongResult, Illegal, OutOfMemory}
use Rattle.job_core.specs.declared.names.JobName.{JobName}
use Rattle.job_core.specs.declared.names.JobName.TheVariants.{Logic, Think, Path, Draw}
use Rattle.job_core.specs.declared.names.Event.TheVariants.{Start, Resume, Ask, Spread, Hold, Finish, Emit}
use Rattle.board_model.specs.Lists.{first_place}
use Rattle.board_model.specs.Board.{Held, core_of, holds}
use Rattle.board_model.specs.Pick.{New}
use Rattle.frame_params.specs.Tasks.{IsTaskAt}
use Rattle.frame_params.specs.declared.task.Task.{Task}
use Rattle.task_board.specs.Boards.{Played, jobs_of, setup_in, state_in, kept_in, with_event, Happens, IsStart, IsResume, Starts, Resumes, IsOn, IsBeginning, NeedsBeginning, IsRefused, IsTakeRefused, IsEmitRefused, NoOther, IsBoard}
use Rattle.frame_state.specs.Names.{QuestionOf}
use Rattle.frame_state.specs.Contents.{questions_in, seen, memory_before, world_after, memories_after}
use Rattle.task_board.specs.Dones.{game_done, job_done, IsOtherDone, IsDoneAt}
use Rattle.task_board.specs.declared.done.Done.{Done}
use Rattle.task_board.specs.declared.done.Done.TheVariants.{Turned, Thought, Way, Drawn}
use Rattle.board_model.specs.Stored.{store}
use Rattle.board_model.specs.Needed.{HasParts, IsThere}
use Rattle.job_scheduler.specs.Numbers.{IsWithinLimits}
use Rattle.task_board.specs.FrameStore.{FrameStoreOf, Stores, sizes}
use Rattle.task_board.proofs.Sized.{frame_store_of, there_of, stored_next}
use Rattle.task_board.specs.Given.{MayBeTakenUp}
use Rattle.task_board.specs.Parked.{IsOtherParked}
use Rattle.task_board.proofs.Tasked.{job_is}

-- as a board sees itself
abbrev pub seen_as : Game → Logged → Played
seen_as g jobs = record { game = g; numbers = jobs.numbers; events = jobs.events }

module _ (g : Game) (jobs : Logged) (frame_store : FrameStoreOf) (k : IsBoard (seen_as g jobs) jobs frame_store) where
  -- what the jobs tell of a state holds of the board's
  pub known : (fact : Setup → State → Type 0) → Always jobs fact → fact (setup_in (seen_as g jobs)) (state_in (seen_as g jobs))
  known fact a = subst (λ v. Always v fact) k.jobs_are a (asked_in g) k.lawful

  pub next : (e : Event) → IsLegal (setup_in (seen_as g jobs)) (state_in (seen_as g jobs)) e → IsNext jobs e
  next e l = subst (λ v. IsNext v e) (sym k.jobs_are) (record { questions = asked_in g; lawful = k.lawful; legal = l })

  -- what an event needs is in the frame store
  pub there_for : (e : Event) → IsLegal (setup_in (seen_as g jobs)) (state_in (seen_as g jobs)) e → IsThere (sizes frame_store) (state_in (seen_as g jobs)) frame_store.stored e
  there_for e l = subst (λ v. IsThere (sizes v) (state_in (seen_as g jobs)) v.stored e) (sym k.frame_store_is) (there_of (seen_as g jobs) k.lawful k.within.a_slot e l)

  -- so is what the task of a job needs that may be taken up
  pub task_there : (j : JobName) (n : ℕ) → MayBeTakenUp (seen_as g jobs) j n → HasParts (sizes frame_store) frame_store.stored j n
  task_there j n (w, inl h) = subst (HasParts (sizes frame_store) frame_store.stored j) (sym h.1) (there_for (Start w j) h.0)
  task_there j n (w, inr h) = subst (HasParts (sizes frame_store) frame_store.stored j) (ap step_of h.1) (there_for (Resume w j) h.0)

  module _ (e : Event) (l : IsLegal (setup_in (seen_as g jobs)) (state_in (seen_as g jobs)) e) (later : Logged) (j : later ≡ jobs_with_event jobs e) where
    pub kept_after : (new : FrameStoreOf) → Stores frame_store new (state_in (seen_as g jobs)) e → IsBoard (seen_as g later) later new
    kept_after new s =
        record {
          jobs_are = j ∙ (ap (λ v. jobs_with_event v e) k.jobs_are ∙ ap (λ v. jobs_of (seen_as g v)) (sym j));
          frame_store_is =
              s
              ∙ (ap {A = FrameStoreOf} (λ v. record v { stored = store (sizes v) (state_in (seen_as g jobs)) v.stored e }) k.frame_store_is
              ∙ (stored_next (seen_as g jobs) k.lawful k.within.a_slot e ∙ ap (λ v. frame_store_of (seen_as g v)) (sym j)));
          lawful = subst (λ v. IsLegalList (setup_in (seen_as g v)) v.events) (sym j) (legal_more (setup_in (seen_as g jobs)) jobs.events e k.lawful l);
          within = subst (λ v. IsWithinLimits v.numbers.frames v.numbers.workers v.numbers.small v.numbers.large v.numbers.slots) (sym j) k.within;
        }

    pub happens : Happens (seen_as g jobs) (seen_as g later) e
    happens = record { legal = l; logged = ap (seen_as g) j }

-- ---- what is taken

pub starts : (old new : Played) (w : ℕ) (j : JobName) (place : QueueIndex) (task : Task) → IsStart old w j place → IsTaskAt old.game j 0 task → new ≡ with_event old (Start w j) → Starts old new w task
starts old new w j place task s t l =
    let same_job = sym (job_is old.game j 0 task t) in
    record {
      happens = subst (λ x. Happens old new (Start w x)) same_job (record { legal = s.legal; logged = l });
      is_task = subst (λ x. IsTaskAt old.game x 0 task) same_job t;
      first = subst (GoesFirst (setup_in old) (state_in old)) same_job s.first;
      picked = s.picked ∙ ap (λ x. Some (New x)) same_job;
    }

pub resumes : (old new : Played) (w fiber : ℕ) (held : Held) (place : QueueIndex) (task : Task) → IsResume old w fiber held place → IsTaskAt old.game held.job held.step task → new ≡ with_event old (Resume w held.job) → Resumes old new w task
resumes old new w fiber held place task s t l =
    let same_job = sym (job_is old.game held.job held.step task t) in
    record {
      step = held.step;
      fiber = fiber;
      happens = subst (λ x. Happens old new (Resume w x)) same_job (record { legal = s.legal; logged = l });
      stands = subst (λ x. (state_in old).phase x ≡ Waits held.step) same_job s.stands;
      is_task = subst (λ x. IsTaskAt old.game x held.step task) same_job t;
      first = subst (GoesFirst (setup_in old) (state_in old)) same_job s.first;
      picked = s.picked;
      holder = subst (λ x. first_place (holds x) (core_of (setup_in old) old.events).seats.jobs ≡ fiber) same_job s.holder;
    }

-- ---- the job that a worker runs

pub not_run : (b : Played) → IsLegalList (setup_in b) b.events → (w : ℕ) (fault : BoardFault) → IsNotRunning (setup_in b) (state_in b) w fault
    → (state_in b).stopped ≡ false → (j : JobName) (k : ℕ) → (state_in b).phase j ≡ Runs w k → ⊥
not_run b l w Stopped h on j k runs = let z = sym h ∙ on in cc
not_run b l w NoWorker h on j k runs = let below = (apart (setup_in b) b.events l).below j w k runs in omega (arith, below, h.1)
not_run b l w NotRunning h on j k runs = h.1 j k runs
not_run b l w Busy h on j k runs = h
not_run b l w WrongResult h on j k runs = h
not_run b l w Illegal h on j k runs = h
not_run b l w OutOfMemory h on j k runs = h

-- it runs no other
pub runs_one : (b : Played) → IsLegalList (setup_in b) b.events → (w k n : ℕ) (i j : JobName) → (state_in b).phase i ≡ Runs w k → (state_in b).phase j ≡ Runs w n → i ≡ j
runs_one b l w k n i j e d = (apart (setup_in b) b.events l).one i j w k n e d

pub same_is : (i j : JobName) → same i j ≡ true → i ≡ j
same_is i j e = by_same i j (λ b. b ≡ true → i ≡ j) (λ y _. y) (λ n f. absurd cc) e

pub same_not : (i j : JobName) → same i j ≡ false → i ≡ j → ⊥
same_not i j e d = by_same i j (λ b. b ≡ false → ⊥) (λ y f. cc) (λ n _. n d) e

-- ---- the Logic of a frame at its start

pub not_running : (b : Played) (w : ℕ) (other : JobName → ℕ → Type 0) (event : JobName → Event) (fault : BoardFault) → IsNotRunning (setup_in b) (state_in b) w fault → IsRefused b w other event fault
not_running b w other event Stopped h = h
not_running b w other event NoWorker h = h
not_running b w other event NotRunning h = h
not_running b w other event Busy h = absurd h
not_running b w other event WrongResult h = absurd h
not_running b w other event Illegal h = absurd h
not_running b w other event OutOfMemory h = absurd h

module _ (b : Played) (w : ℕ) (event : JobName → Event) (j : JobName) (k : ℕ) (on : IsOn b w) (runs : (state_in b).phase j ≡ Runs w k) (needs : NeedsBeginning b w event) where
  pub not_a_logic : ((f : ℕ) → j ≡ Logic f → ⊥) → IsRefused b w NoOther event Illegal
  not_a_logic never = (on, (j, k, runs, λ o. o, λ m. let n = needs j m in never n.0 n.1))

  pub not_at_start : (k ≡ 0 → ⊥) → IsRefused b w NoOther event Illegal
  not_at_start never = (on, (j, k, runs, λ o. o, λ m. let n = needs j m in let z : Runs w k ≡ Runs w 0 = sym runs ∙ (ap (state_in b).phase n.1 ∙ n.2) in let y : k ≡ 0 = cc in never y))

pub spread_needs : (b : Played) (w : ℕ) → NeedsBeginning b w (Spread w)
spread_needs b w (Logic f) m = (f, refl, m.1.0)
spread_needs b w (Think f a) m = absurd m.1
spread_needs b w (Path f a i) m = absurd m.1
spread_needs b w (Draw f d) m = absurd m.1

pub hold_needs : (b : Played) (w : ℕ) → NeedsBeginning b w (Hold w)
hold_needs b w (Logic f) m = (f, refl, m.1.0)
hold_needs b w (Think f a) m = absurd m.1
hold_needs b w (Path f a i) m = absurd m.1
hold_needs b w (Draw f d) m = absurd m.1

module _ (b : Played) (w f : ℕ) (at_start : IsBeginning b w f) where
  pub spread_refused : (state_in b).emitted + b.numbers.slots < f → IsRefused b w NoOther (Spread w) Illegal
  spread_refused l = (at_start.on, (Logic f, 0, at_start.runs, λ o. o, λ m. let a = m.1.1 in omega arith))

  pub hold_refused : f ≤ (state_in b).emitted + b.numbers.slots → IsRefused b w NoOther (Hold w) Illegal
  hold_refused l = (at_start.on, (Logic f, 0, at_start.runs, λ o. o, λ m. let a = m.1.1 in omega arith))

  pub spread_legal : f ≤ (state_in b).emitted + b.numbers.slots → IsLegal (setup_in b) (state_in b) (Spread w (Logic f))
  spread_legal l = (at_start.on.0, (at_start.runs, l))

  pub hold_legal : (state_in b).emitted + b.numbers.slots < f → IsLegal (setup_in b) (state_in b) (Hold w (Logic f))
  hold_legal l = (at_start.on.0, (at_start.runs, l))

  pub spread_full : f ≤ (state_in b).emitted + b.numbers.slots → IsRefused b w NoOther (Spread w) OutOfMemory
  spread_full l = (Logic f, 0, at_start.runs, λ o. o, spread_legal l)

  pub hold_full : (state_in b).emitted + b.numbers.slots < f → IsRefused b w NoOther (Hold w) OutOfMemory
  hold_full l = (Logic f, 0, at_start.runs, λ o. o, hold_legal l)

-- ---- what an idle worker is given

pub idle_or : (b : Played) (w : ℕ) (fault : BoardFault) → IsIdleOr (setup_in b) (state_in b) w fault → IsTakeRefused b w fault
idle_or b w Stopped h = h
idle_or b w NoWorker h = h
idle_or b w Busy h = h
idle_or b w NotRunning h = absurd h
idle_or b w WrongResult h = absurd h
idle_or b w Illegal h = absurd h
idle_or b w OutOfMemory h = absurd h

module _ (g : Game) (jobs : Logged) (frame_store : FrameStoreOf) (k : IsBoard (seen_as g jobs) jobs frame_store) where
  pub known_of : (fact : Logged → (ℕ → ℕ → ℕ) → Type 0) → ((q : ℕ → ℕ → ℕ) → IsLegalList (setup_of jobs q) jobs.events → fact jobs q) → fact (jobs_of (seen_as g jobs)) (asked_in g)
  known_of fact a = subst (λ v. (q : ℕ → ℕ → ℕ) → IsLegalList (setup_of v q) v.events → fact v q) k.jobs_are a (asked_in g) k.lawful

  pub next_from : (w : ℕ) (j : JobName) (place : QueueIndex) → IsLegal (setup_in (seen_as g jobs)) (state_in (seen_as g jobs)) (Start w j)
      → IsFirstAt (same j) (kept_in (seen_as g jobs)).queues.fresh place → IsNextFrom jobs w j place
  next_from w j place legal queued = subst (λ v. IsNextFrom v w j place) (sym k.jobs_are) (record { next = record { questions = asked_in g; lawful = k.lawful; legal = legal }; queued = queued })

  pub next_at : (w fiber : ℕ) (j : JobName) (place : QueueIndex) → IsLegal (setup_in (seen_as g jobs)) (state_in (seen_as g jobs)) (Resume w j)
      → first_place (holds j) (kept_in (seen_as g jobs)).seats.jobs ≡ fiber → IsFirstAt (λ other. fiber == other) (kept_in (seen_as g jobs)).queues.ready place → IsNextOn jobs w j fiber place
  next_at w fiber j place legal holder ready = subst (λ v. IsNextOn v w j fiber place) (sym k.jobs_are) (record { next = record { questions = asked_in g; lawful = k.lawful; legal = legal }; holder = holder; ready = ready })

  pub next_asked : (w f a i : ℕ) → IsLegal (setup_in (seen_as g jobs)) (state_in (seen_as g jobs)) (Ask w (Think f a))
      → (state_in (seen_as g jobs)).phase (Think f a) ≡ Runs w i → IsNextAt jobs w f a i
  next_asked w f a i legal runs = subst (λ v. IsNextAt v w f a i) (sym k.jobs_are) (record { next = record { questions = asked_in g; lawful = k.lawful; legal = legal }; stands = runs })

-- ---- what is shown

pub emit_refused : (b : Played) (fault : BoardFault) → IsToShow (Err fault) (setup_in b) (state_in b) → IsEmitRefused b fault
emit_refused b Stopped h = h
emit_refused b Illegal h = h
emit_refused b NoWorker h = absurd h
emit_refused b Busy h = absurd h
emit_refused b NotRunning h = absurd h
emit_refused b WrongResult h = absurd h
emit_refused b OutOfMemory h = absurd h

pub nothing_shown : (b : Played) (fault : BoardFault) → IsToShow (Err fault) (setup_in b) (state_in b) → (f : ℕ) → IsLegal (setup_in b) (state_in b) (Emit f) → ⊥
nothing_shown b Stopped h f m = let z = sym h ∙ m.0 in cc
nothing_shown b Illegal h f m = h.1 f m
nothing_shown b NoWorker h f m = h
nothing_shown b Busy h f m = h
nothing_shown b NotRunning h f m = h
nothing_shown b WrongResult h f m = h
nothing_shown b OutOfMemory h f m = h

-- ---- results

pub asked_is : (g : Game) (f a : ℕ) → 0 < f → asked_in g f a ≡ questions_in g f a
unfolding questions_in seen memory_before world_after memories_after
asked_is g zero a l = absurd (omega arith)
asked_is g (suc f) a l = let e : suc f - 1 ≡ f = omega arith in rw e refl

-- a tick asks at most as often as its tree has nodes
pub few_questions : (g : Game) (f a : ℕ) → questions_in g f a ≤ size (tree_of g a)
unfolding questions_in
few_questions g f a = few (seen g f a) (tree_of g a) (memory_before g f a)

-- a job that runs is one of the run's
pub job_running : (b : Played) → IsLegalList (setup_in b) b.events → (j : JobName) (w k : ℕ) → (state_in b).phase j ≡ Runs w k → IsJob (setup_in b) j
job_running b l j w k runs = there (setup_in b) (state_in b) (shape_of (setup_in b) b.events (opening (setup_in b)) (opens (setup_in b)) l) j (λ e. let x = sym runs ∙ e in cc)

pub an_agent : (b : Played) → IsLegalList (setup_in b) b.events → (f a w k : ℕ) → (state_in b).phase (Think f a) ≡ Runs w k → a < length b.game.trees
an_agent b l f a w k runs = (job_running b l (Think f a) w k runs).1

module _ (b : Played) (lawful : IsLegalList (setup_in b) b.events) (w : ℕ) (on : IsOn b w) (j : JobName) (k : ℕ) (runs : (state_in b).phase j ≡ Runs w k) where
  pub other_result : (other : JobName → ℕ → Type 0) (event : JobName → Event) → other j k → IsRefused b w other event WrongResult
  other_result other event o = (on, (j, k, runs, o))

  a_job : IsJob (setup_in b) j
  a_job = job_running b lawful j w k runs

  pub ask_legal : (p : QuestionOf) → Think p.frame p.agent ≡ j → p.question ≡ k → p.game ≡ b.game → k < questions_in p.game p.frame p.agent → IsLegal (setup_in b) (state_in b) (Ask w (Think p.frame p.agent))
  ask_legal p e q g l =
      let job : IsJob (setup_in b) (Think p.frame p.agent) = subst (IsJob (setup_in b)) (sym e) a_job in
      let many : asked_in b.game p.frame p.agent ≡ questions_in p.game p.frame p.agent = asked_is b.game p.frame p.agent job.0.0 ∙ ap (λ x. questions_in x p.frame p.agent) (sym g) in
      (on.0, (k, ap (state_in b).phase e ∙ runs, omega arith))

  pub ask_full : (p : QuestionOf) → Think p.frame p.agent ≡ j → p.question ≡ k → p.game ≡ b.game → k < questions_in p.game p.frame p.agent → IsRefused b w (IsOtherParked p b.game) (Ask w) OutOfMemory
  ask_full p e q g l = (j, k, runs, ⊎_elim (λ n. n e) (⊎_elim (λ n. n q) (λ n. n g)), subst (λ x. IsLegal (setup_in b) (state_in b) (Ask w x)) e (ask_legal p e q g l))

  at_end : (done : Done) → job_done done ≡ j → game_done done ≡ b.game → IsJob (setup_in b) (job_done done) → IsDoneAt done k ↔ IsAtEnd (setup_in b) (job_done done) k
  at_end (Turned t) e g job = (λ x. x, λ x. x)
  at_end (Thought t) e g job =
      let many : asked_in b.game t.frame t.number ≡ questions_in t.game t.frame t.number = asked_is b.game t.frame t.number job.0.0 ∙ ap (λ x. questions_in x t.frame t.number) (sym g) in
      (λ x. x ∙ sym many, λ x. x ∙ many)
  at_end (Way q) e g job = (λ x. tt, λ x. tt)
  at_end (Drawn d) e g job = (λ x. tt, λ x. tt)

  pub finish_legal : (done : Done) → job_done done ≡ j → game_done done ≡ b.game → IsDoneAt done k → IsLegal (setup_in b) (state_in b) (Finish w j)
  finish_legal done e g d =
      let job : IsJob (setup_in b) (job_done done) = subst (IsJob (setup_in b)) (sym e) a_job in
      (on.0, (k, runs, subst (λ x. IsAtEnd (setup_in b) x k) e ((at_end done e g job).0 d)))

  not_other : (done : Done) → job_done done ≡ j → game_done done ≡ b.game → IsOtherDone done b.game j k → ⊥
  not_other done e g = ⊎_elim (λ n. n e) (λ n. n g)

  pub finish_full : (done : Done) → job_done done ≡ j → game_done done ≡ b.game → IsDoneAt done k → IsRefused b w (IsOtherDone done b.game) (Finish w) OutOfMemory
  finish_full done e g d = (j, k, runs, not_other done e g, finish_legal done e g d)

  pub finish_refused : (done : Done) → job_done done ≡ j → game_done done ≡ b.game → (IsDoneAt done k → ⊥) → IsRefused b w (IsOtherDone done b.game) (Finish w) Illegal
  finish_refused done e g never =
      let job : IsJob (setup_in b) (job_done done) = subst (IsJob (setup_in b)) (sym e) a_job in (
        on,
        (
          j,
          k,
          runs,
          not_other done e g,
          λ m.
              let both : Runs w m.1.0 ≡ Runs w k = sym m.1.1 ∙ runs in
              let step : m.1.0 ≡ k = cc in
              never ((at_end done e g job).1 (subst (λ x. IsAtEnd (setup_in b) x k) (sym e) (subst (IsAtEnd (setup_in b) j) step m.1.2))),
        ),
      )
