-- A board before an event and after it.
use Rattle.std.proofs.Common.{◌≡◌, ◌≤◌, ◌<◌, ◌+◌, ℕ, zero, suc, false, if◌then◌else◌, Ok, refl, sym, ap, ◌∙◌, subst, arith}
use Rattle.job_core.specs.declared.names.JobName.{JobName}
use Rattle.job_core.specs.declared.names.JobName.TheVariants.{Logic, Think, Path, Draw}
use Rattle.job_core.specs.declared.names.Event.{Event}
use Rattle.job_core.specs.declared.names.Event.TheVariants.{Ask, Spread, Hold, Finish}
use Rattle.job_core.specs.Core.{Setup, Phase, Absent, Queued, Runs, Waits, Finished, IsJob, IsLegal, IsLegalList, opening}
use Rattle.job_core.proofs.Keeping.{legal_more}
use Rattle.job_core.proofs.ByCases.{by_eq2}
use Rattle.job_core.proofs.Shape.{Shape, ThinkFits, opens, there}
use Rattle.job_core.proofs.Moves.{shape_of}
use Rattle.frame_jobs_laws.specs.Asked.{with_number, HasAsked}
use Rattle.frame_jobs_laws.proofs.Open.{open_list}
use Rattle.board_model.specs.Board.{Held}
use Rattle.job_scheduler.specs.Logged.{Logged, setup_of, reached, with_event, IsNext, IsNextAt}
use Rattle.job_scheduler.specs.Looks.{Always, IsRunning}
use Rattle.frame_jobs.specs.Boards.{FrameBoard, IsOpen, MayHappen, Happens, IsTurned}

-- ---- what may happen is next, and leaves an open board

pub next_of : (b : FrameBoard) (e : Event) → MayHappen b e → IsNext b.jobs e
next_of b e m = record { questions = m.questions; lawful = m.lawful; legal = m.legal }

pub after_of : (b : FrameBoard) (e : Event) → IsOpen b → MayHappen b e → (later : Logged) → later ≡ with_event b.jobs e → IsOpen (record { jobs = later; most_questions = b.most_questions })
after_of b e k m later j =
    subst (λ v. IsOpen (record { jobs = v; most_questions = b.most_questions })) (sym j)
    (record { questions = m.questions; few = m.few; lawful = legal_more (setup_of b.jobs m.questions) b.jobs.events e m.lawful m.legal; within = k.within })

pub happens : (b : FrameBoard) (e : Event) → MayHappen b e → (later : Logged) → later ≡ with_event b.jobs e → Happens b (record { jobs = later; most_questions = b.most_questions }) e
happens b e m later j = record { legal = m; logged = ap (λ v. record { jobs = v; most_questions = b.most_questions }) j }

-- ---- what is legal for any numbers of questions

pub always : (b : FrameBoard) (e : Event) → IsOpen b → Always b.jobs (λ s st. IsLegal s st e) → MayHappen b e
always b e k a = record { questions = k.questions; few = k.few; lawful = k.lawful; legal = a k.questions k.lawful }

-- ---- a Think that runs

-- it has asked no more than it asks in all
think_few : (q : ℕ) (lp : Phase) (w i : ℕ) → ThinkFits q lp (Runs w i) → i ≤ q
think_few q Absent w i h = absurd cc
think_few q Queued w i h = absurd cc
think_few q (Runs x zero) w i h = absurd cc
think_few q (Runs x (suc k)) w i h = absurd cc
think_few q (Waits zero) w i h = absurd cc
think_few q (Waits (suc k)) w i h = h
think_few q Finished w i h = absurd cc

module _ (b : FrameBoard) (k : IsOpen b) (w f a i : ℕ) (held : Held) (r : Always b.jobs (IsRunning w (Ok held))) (is : held.job ≡ Think f a) (step : held.step ≡ i) where
  pub runs : (q : ℕ → ℕ → ℕ) → IsLegalList (setup_of b.jobs q) b.jobs.events → (reached b.jobs q).phase (Think f a) ≡ Runs w i
  runs q l = ap (reached b.jobs q).phase (sym is) ∙ ((r q l).1 ∙ ap (Runs w) step)

  -- it may still ask any number of questions from there on
  open_at : (n : ℕ) → i ≤ n → IsLegalList (setup_of b.jobs (with_number k.questions f a n)) b.jobs.events
  open_at n l = open_list (setup_of b.jobs k.questions) f a n k.within.a_slot b.jobs.events k.lawful (subst (HasAsked n) (sym (runs k.questions k.lawful)) l)

  few_at : (n : ℕ) → n ≤ b.most_questions → (g c : ℕ) → with_number k.questions f a n g c ≤ b.most_questions
  few_at n l g c = by_eq2 g f c a (λ x. (if x then n else k.questions g c) ≤ b.most_questions) (λ _ _. l) (λ _. k.few g c)

  here : (n : ℕ) → with_number k.questions f a n f a ≡ n
  here n = by_eq2 f f a a (λ x. (if x then n else k.questions f a) ≡ n) (λ _ _. refl) (λ no. absurd (no refl refl))

  pub asks : i < b.most_questions → MayHappen b (Ask w (Think f a))
  asks l =
      let lawful = open_at (suc i) (omega arith) in
      record {
        questions = with_number k.questions f a (suc i);
        few = few_at (suc i) l;
        lawful = lawful;
        legal = ((r (with_number k.questions f a (suc i)) lawful).0.0, (i, runs (with_number k.questions f a (suc i)) lawful, subst (λ n. i < n) (sym (here (suc i))) (omega arith)));
      }

  pub asks_next : i < b.most_questions → IsNextAt b.jobs w f a i
  asks_next l = let m = asks l in record { next = next_of b (Ask w (Think f a)) m; stands = runs m.questions m.lawful }

  asked_few : i ≤ b.most_questions
  asked_few =
      let s : Setup = setup_of b.jobs k.questions in
      let inv : Shape (setup_of b.jobs k.questions) (reached b.jobs k.questions) = shape_of (setup_of b.jobs k.questions) b.jobs.events (opening (setup_of b.jobs k.questions)) (opens (setup_of b.jobs k.questions)) k.lawful in
      let now = runs k.questions k.lawful in
      let v : IsJob (setup_of b.jobs k.questions) (Think f a) = there (setup_of b.jobs k.questions) (reached b.jobs k.questions) inv (Think f a) (λ y. let z : Runs w i ≡ Absent = sym now ∙ y in cc) in
      let fits = subst (ThinkFits (k.questions f a) ((reached b.jobs k.questions).phase (Logic f))) now (inv.think f a v.0 v.1) in
      let most = think_few (k.questions f a) ((reached b.jobs k.questions).phase (Logic f)) w i fits in
      let few = k.few f a in
      omega arith

  pub ends : MayHappen b (Finish w (Think f a))
  ends =
      let l = asked_few in
      let lawful = open_at i (omega arith) in
      record {
        questions = with_number k.questions f a i;
        few = few_at i l;
        lawful = lawful;
        legal = ((r (with_number k.questions f a i) lawful).0.0, (i, runs (with_number k.questions f a i) lawful, sym (here i)));
      }

-- ---- any job that runs

module _ (b : FrameBoard) (k : IsOpen b) (w : ℕ) (held : Held) (r : Always b.jobs (IsRunning w (Ok held))) where
  on : (reached b.jobs k.questions).stopped ≡ false
  on = (r k.questions k.lawful).0.0

  at_job : (j : JobName) → held.job ≡ j → (reached b.jobs k.questions).phase j ≡ Runs w held.step
  at_job j e = ap (reached b.jobs k.questions).phase (sym e) ∙ (r k.questions k.lawful).1

  by_job : (j : JobName) → held.job ≡ j → IsTurned j held.step → MayHappen b (Finish w j)
  by_job (Logic f) e t = record { questions = k.questions; few = k.few; lawful = k.lawful; legal = (on, (held.step, at_job (Logic f) e, t)) }
  by_job (Think f a) e t = ends b k w f a held.step held r e refl
  by_job (Path f a i) e t = record { questions = k.questions; few = k.few; lawful = k.lawful; legal = (on, (held.step, at_job (Path f a i) e, tt)) }
  by_job (Draw f n) e t = record { questions = k.questions; few = k.few; lawful = k.lawful; legal = (on, (held.step, at_job (Draw f n) e, tt)) }

  pub finishes : IsTurned held.job held.step → MayHappen b (Finish w held.job)
  finishes t = by_job held.job refl t

  module _ (f : ℕ) (is : held.job ≡ Logic f) (start : held.step ≡ 0) where
    runs_start : (reached b.jobs k.questions).phase (Logic f) ≡ Runs w 0
    runs_start = at_job (Logic f) is ∙ ap (Runs w) start

    pub spreads : Always b.jobs (λ s st. f ≤ st.emitted + s.slots) → MayHappen b (Spread w (Logic f))
    spreads room = record { questions = k.questions; few = k.few; lawful = k.lawful; legal = (on, (runs_start, room k.questions k.lawful)) }

    pub waits : Always b.jobs (λ s st. st.emitted + s.slots < f) → MayHappen b (Hold w (Logic f))
    waits full = record { questions = k.questions; few = k.few; lawful = k.lawful; legal = (on, (runs_start, full k.questions k.lawful)) }

-- ---- a job as the code reads it

pub held_job : (inner held : Held) (j : JobName) → inner ≡ held → inner.job ≡ j → held.job ≡ j
held_job inner held j v e = ap (λ (h : Held). h.job) (sym v) ∙ e

pub held_step : (inner held : Held) → inner ≡ held → held.step ≡ inner.step
held_step inner held v = ap (λ (h : Held). h.step) (sym v)
