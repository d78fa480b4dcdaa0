-- In a legal list a slice ends where its worker leaves its job.
use Rattle.std.proofs.Common.{◌≡◌, ◌≤◌, ◌⊎◌, ℕ, suc, ◌+◌, Bool, true, false, ◌==◌, if◌then◌else◌, List, [], ◌∷◌, ◌++◌, length, refl, sym, ap, ap₂, ◌∙◌, subst, inl, inr, ⊎_elim, arith, eqb-true, eq-eqb}
use Rattle.std.specs.Prelude.{IfSome}
use Rattle.std.specs.List.{All, AllPairs}
use Rattle.std.proofs.lemmas.Bool.{true≢false}
use Rattle.std.proofs.lemmas.List.Elements.{All-nil}
use Rattle.job_core.specs.declared.names.JobName.{JobName}
use Rattle.job_core.specs.declared.names.JobName.TheVariants.{Logic, Think}
use Rattle.job_core.specs.declared.names.Event.{Event}
use Rattle.job_core.specs.declared.names.Event.TheVariants.{Start, Resume, Ask, Spread, Hold, Finish, Emit, Stop}
use Rattle.job_core.specs.Core.{Setup, Absent, Queued, Runs, Waits, State, May, IsLegalFrom, IsLegalList, state, after, step_of}
use Rattle.job_core.proofs.Shape.{Shape}
use Rattle.job_core.proofs.Moves.{job_of, others, put_here}
use Rattle.job_core.proofs.Keeping.{Apart, apart, same_worker, state_more, legal_more}
use Rattle.job_core.proofs.Once.{shape_at}
use Rattle.trace_text.specs.declared.slice.Slice.{Slice}
use Rattle.trace_text.specs.Slices.{is_by, until, next_of, begun_at, slices_from, slices_of}
use Rattle.trace_text.specs.Laws.{StandsAt, IsLeft, EndsIn, AreInTurn}
use Rattle.trace_text.proofs.Apart.{all_before, pairs_before, from_place}

-- the next event of the worker leaves the job, or there is none
abbrev Leaves : ℕ → JobName → ℕ → List Event → Type 0
Leaves w job n events = (n ≡ length events) ⊎ ((event : Event) × StandsAt n event events × IsLeft w job event)

module _ (s : Setup) (st : State) (inv : Shape s st) (one : Apart s st) (w k : ℕ) (job : JobName) (runs : st.phase job ≡ Runs w k) where
  -- the job that the worker runs is this one
  is_own : (v : ℕ) (j : JobName) (i : ℕ) → st.phase j ≡ Runs v i → (v == w) ≡ true → j ≡ job
  is_own v j i at b = one.one j job w i k (at ∙ ap (λ x. Runs x i) (eqb-true v w b)) runs

  -- an event of the worker leaves the job
  own : (e : Event) → May s st e → is_by w e ≡ true → IsLeft w job e
  own (Start v j) m b = absurd (m.1 job k (runs ∙ ap (λ x. Runs x k) (sym (eqb-true v w b))))
  own (Resume v j) m b = absurd (m.1 job k (runs ∙ ap (λ x. Runs x k) (sym (eqb-true v w b))))
  own (Ask v (Think f a)) m b = inl (ap₂ (λ x y. Ask x y) (eqb-true v w b) (is_own v (Think f a) m.0 m.1 b))
  own (Spread v (Logic f)) m b = inr (inl (ap₂ (λ x y. Spread x y) (eqb-true v w b) (is_own v (Logic f) 0 m.0 b)))
  own (Hold v (Logic f)) m b = inr (inr (inl (ap₂ (λ x y. Hold x y) (eqb-true v w b) (is_own v (Logic f) 0 m.0 b))))
  own (Finish v j) m b = inr (inr (inr (ap₂ (λ x y. Finish x y) (eqb-true v w b) (is_own v j m.0 m.1 b))))
  own (Emit f) m b = absurd (true≢false (sym b))
  own Stop m b = absurd (true≢false (sym b))
  own _ m b = absurd m

  steady : (e : Event) (m : May s st e) → (job ≡ job_of e → ⊥) → (after s st e).phase job ≡ Runs w k
  steady e m n = ⊎_elim (λ d. d ∙ runs) (λ d. let gone : Absent ≡ Runs w k = sym d.0 ∙ runs in absurd cc) (others s st inv e m job n)

  -- a job that another worker runs is another job
  apart_from : (v i : ℕ) (j : JobName) → st.phase j ≡ Runs v i → (v == w) ≡ false → job ≡ j → ⊥
  apart_from v i j at b same = true≢false (sym (eq-eqb v w (same_worker v w i k (sym at ∙ ap st.phase (sym same) ∙ runs))) ∙ b)

  -- and any other event leaves it where it is
  stays : (e : Event) → May s st e → is_by w e ≡ false → (after s st e).phase job ≡ Runs w k
  stays (Start v j) m b = steady (Start v j) m (λ same. let queued : Runs w k ≡ Queued = sym runs ∙ ap st.phase same ∙ m.2 in cc)
  stays (Resume v j) m b = steady (Resume v j) m (λ same. let waits : Runs w k ≡ Waits m.2.0 = sym runs ∙ ap st.phase same ∙ m.2.1 in cc)
  stays (Ask v (Think f a)) m b = steady (Ask v (Think f a)) m (apart_from v m.0 (Think f a) m.1 b)
  stays (Spread v (Logic f)) m b = steady (Spread v (Logic f)) m (apart_from v 0 (Logic f) m.0 b)
  stays (Hold v (Logic f)) m b = steady (Hold v (Logic f)) m (apart_from v 0 (Logic f) m.0 b)
  stays (Finish v j) m b = steady (Finish v j) m (apart_from v m.0 j m.1 b)
  stays (Emit f) m b = runs
  stays Stop m b = runs
  stays _ m b = absurd m

further : (w : ℕ) (job : JobName) (n : ℕ) (e : Event) (events : List Event) → Leaves w job n events → Leaves w job (suc n) (e ∷ events)
further w job n e events h = ⊎_elim (λ d. inl (ap suc d)) (λ d. inr d) h

first_or : (w : ℕ) (job : JobName) (e : Event) (events : List Event) (own : Bool) → is_by w e ≡ own → (is_by w e ≡ true → IsLeft w job e) → (is_by w e ≡ false → Leaves w job (until w events) events)
    → Leaves w job (if own then 0 else suc (until w events)) (e ∷ events)
first_or w job e events true b leaves goes_on = inr (e, refl, leaves b)
first_or w job e events false b leaves goes_on = further w job (until w events) e events (goes_on b)

module _ (s : Setup) where
  next_state : (done : List Event) (e : Event) (events : List Event) → IsLegalFrom s (state s done) (e ∷ events) → IsLegalFrom s (state s (done ++ e ∷ [])) events
  next_state done e events l = subst (λ st. IsLegalFrom s st events) (sym (state_more s done e)) l.1

  leaves : (w k : ℕ) (job : JobName) (done events : List Event) → IsLegalList s done → IsLegalFrom s (state s done) events → (state s done).phase job ≡ Runs w k → Leaves w job (until w events) events
  leaves w k job done [] legal l runs = inl refl
  leaves w k job done (e ∷ events) legal l runs =
      let inv = shape_at s done legal in
      let one = apart s done legal in
      first_or w job e events (is_by w e) refl
      (own s (state s done) inv one w k job runs e l.0.1)
      (λ b. leaves w k job (done ++ e ∷ []) events (legal_more s done e legal l.0) (next_state done e events l)
      (ap (λ st. st.phase job) (state_more s done e) ∙ stays s (state s done) inv one w k job runs e l.0.1 b))

  module _ (full : List Event) where
    -- the rest of a list stands in it behind a front of this length
    abbrev Rest : ℕ → List Event → Type 0
    Rest at events = (length full ≡ at + length events) × ((n : ℕ) (event : Event) → StandsAt n event events → StandsAt (at + n) event full)

    rest_more : (at : ℕ) (e : Event) (events : List Event) → Rest at (e ∷ events) → Rest (suc at) events
    rest_more at e events r = (r.0 ∙ omega arith, λ n event there. let same : at + suc n ≡ suc at + n = omega arith in subst (λ i. StandsAt i event full) same (r.1 (suc n) event there))

    ends_there : (begin at w : ℕ) (job : JobName) (on : Bool) (events : List Event) → Rest at events → Leaves w job (until w events) events
        → EndsIn full (record { worker = w; job = job; goes_on = on; begin = begin; end = at + until w events; next = next_of w events })
    ends_there begin at w job on events r h = ⊎_elim (λ d. inl (ap (λ n. at + n) d ∙ sym r.0)) (λ d. inr (d.0, r.1 (until w events) d.0 d.1, d.2)) h

    begun : (at : ℕ) (done : List Event) (e : Event) (events : List Event) → IsLegalList s done → IsLegalFrom s (state s done) (e ∷ events) → Rest (suc at) events → IfSome (begun_at at e events) (EndsIn full)
    begun at done (Start v j) events legal l r =
        ends_there at (suc at) v j false events r
        (leaves v 0 j (done ++ Start v j ∷ []) events (legal_more s done (Start v j) legal l.0) (next_state done (Start v j) events l)
        (ap (λ st. st.phase j) (state_more s done (Start v j)) ∙ put_here (state s done).phase j (Runs v 0)))
    begun at done (Resume v j) events legal l r =
        ends_there at (suc at) v j true events r
        (leaves v (step_of ((state s done).phase j)) j (done ++ Resume v j ∷ []) events (legal_more s done (Resume v j) legal l.0) (next_state done (Resume v j) events l)
        (ap (λ st. st.phase j) (state_more s done (Resume v j)) ∙ put_here (state s done).phase j (Runs v (step_of ((state s done).phase j)))))
    begun at done (Ask v j) events legal l r = tt
    begun at done (Spread v j) events legal l r = tt
    begun at done (Hold v j) events legal l r = tt
    begun at done (Finish v j) events legal l r = tt
    begun at done (Emit f) events legal l r = tt
    begun at done Stop events legal l r = tt

    from_there : (at : ℕ) (done events : List Event) → IsLegalList s done → IsLegalFrom s (state s done) events → Rest at events → All (EndsIn full) (slices_from at events)
    from_there at done [] legal l r = All-nil (EndsIn full)
    from_there at done (e ∷ events) legal l r =
        let more = rest_more at e events r in
        all_before (EndsIn full) (begun_at at e events) (slices_from (suc at) events) (begun at done e events legal l more)
        (from_there (suc at) (done ++ e ∷ []) events (legal_more s done e legal l.0) (next_state done e events l) more)

    all_rest : Rest 0 full
    all_rest = (omega arith, λ n event there. let same : n ≡ 0 + n = omega arith in subst (λ i. StandsAt i event full) same there)

pub ended : (s : Setup) (events : List Event) → IsLegalList s events → All (EndsIn events) (slices_of events)
ended s events legal = from_there s events 0 [] events tt legal (all_rest s events)

-- ---- a job that runs begins no slice

other_job : (s : Setup) (st : State) (w k : ℕ) (job : JobName) → st.phase job ≡ Runs w k → (at : ℕ) (e : Event) (events : List Event) → May s st e → (P : Slice → Type 0) → IfSome (begun_at at e events) (λ slice. job ≡ slice.job → P slice)
other_job s st w k job runs at (Start v j) events m P = λ same. let queued : Runs w k ≡ Queued = sym runs ∙ ap st.phase same ∙ m.2 in absurd cc
other_job s st w k job runs at (Resume v j) events m P = λ same. let waits : Runs w k ≡ Waits m.2.0 = sym runs ∙ ap st.phase same ∙ m.2.1 in absurd cc
other_job s st w k job runs at _ events m P = tt

job_step : (w : ℕ) (job : JobName) (at : ℕ) (e : Event) (events : List Event) (own : Bool) → is_by w e ≡ own
    → ((P : Slice → Type 0) → IfSome (begun_at at e events) (λ slice. job ≡ slice.job → P slice))
    → (is_by w e ≡ false → All (λ slice. job ≡ slice.job → suc at + until w events ≤ slice.begin) (slices_from (suc at) events))
    → All (λ slice. job ≡ slice.job → at + (if own then 0 else suc (until w events)) ≤ slice.begin) (slices_from at (e ∷ events))
job_step w job at e events true b other later = λ i d l same. let h = from_place at (e ∷ events) i d l in omega (arith, h)
job_step w job at e events false b other later =
    all_before (λ slice. job ≡ slice.job → at + suc (until w events) ≤ slice.begin) (begun_at at e events) (slices_from (suc at) events)
    (other (λ slice. at + suc (until w events) ≤ slice.begin))
    (λ i d l same. let h = later b i d l same in omega (arith, h))

module _ (s : Setup) where
  job_waits : (w k : ℕ) (job : JobName) (at : ℕ) (done events : List Event) → IsLegalList s done → IsLegalFrom s (state s done) events → (state s done).phase job ≡ Runs w k
      → All (λ slice. job ≡ slice.job → at + until w events ≤ slice.begin) (slices_from at events)
  job_waits w k job at done [] legal l runs = All-nil (λ slice. job ≡ slice.job → at + 0 ≤ slice.begin)
  job_waits w k job at done (e ∷ events) legal l runs =
      job_step w job at e events (is_by w e) refl (other_job s (state s done) w k job runs at e events l.0.1)
      (λ b. job_waits w k job (suc at) (done ++ e ∷ []) events (legal_more s done e legal l.0) (next_state s done e events l)
      (ap (λ st. st.phase job) (state_more s done e) ∙ stays s (state s done) (shape_at s done legal) (apart s done legal) w k job runs e l.0.1 b))

  turn : (at : ℕ) (done : List Event) (e : Event) (events : List Event) → IsLegalList s done → IsLegalFrom s (state s done) (e ∷ events) → IfSome (begun_at at e events) (λ slice. All (AreInTurn slice) (slices_from (suc at) events))
  turn at done (Start v j) events legal l =
      job_waits v 0 j (suc at) (done ++ Start v j ∷ []) events (legal_more s done (Start v j) legal l.0) (next_state s done (Start v j) events l)
      (ap (λ st. st.phase j) (state_more s done (Start v j)) ∙ put_here (state s done).phase j (Runs v 0))
  turn at done (Resume v j) events legal l =
      job_waits v (step_of ((state s done).phase j)) j (suc at) (done ++ Resume v j ∷ []) events (legal_more s done (Resume v j) legal l.0) (next_state s done (Resume v j) events l)
      (ap (λ st. st.phase j) (state_more s done (Resume v j)) ∙ put_here (state s done).phase j (Runs v (step_of ((state s done).phase j))))
  turn at done (Ask v j) events legal l = tt
  turn at done (Spread v j) events legal l = tt
  turn at done (Hold v j) events legal l = tt
  turn at done (Finish v j) events legal l = tt
  turn at done (Emit f) events legal l = tt
  turn at done Stop events legal l = tt

  turns : (at : ℕ) (done events : List Event) → IsLegalList s done → IsLegalFrom s (state s done) events → AllPairs AreInTurn (slices_from at events)
  turns at done [] legal l = λ i j d less within. absurd (omega (arith, within))
  turns at done (e ∷ events) legal l =
      pairs_before AreInTurn (begun_at at e events) (slices_from (suc at) events) (turn at done e events legal l)
      (turns (suc at) (done ++ e ∷ []) events (legal_more s done e legal l.0) (next_state s done e events l))

pub in_turn : (s : Setup) (events : List Event) → IsLegalList s events → AllPairs AreInTurn (slices_of events)
in_turn s events legal = turns s 0 [] events tt legal
