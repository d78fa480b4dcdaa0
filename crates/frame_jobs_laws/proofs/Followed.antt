-- Where each Think asks as its game does, the numbers of questions are the game's.
use Rattle.std.proofs.Common.{◌≡◌, ◌≤◌, ◌<◌, ◌⊎◌, ◌%◌, ◌+◌, ℕ, zero, suc, Bool, true, false, List, [], ◌∷◌, refl, sym, ap, ◌∙◌, subst, ⊎_elim, arith}
use Rattle.std.proofs.lemmas.Bool.{cases_lt, cases_eq}
use Rattle.job_core.specs.declared.names.JobName.{JobName}
use Rattle.job_core.specs.declared.names.JobName.TheVariants.{Logic, Think, Path, Draw}
use Rattle.job_core.specs.declared.names.Event.{Event}
use Rattle.job_core.specs.declared.names.Event.TheVariants.{Start, Resume, Ask, Spread, Hold, Finish, Emit, Stop}
use Rattle.job_core.specs.Core.{Setup, IsJob, Phase, Absent, Queued, Runs, Waits, Finished, State, May, step_of, put, after, opening, total, after_all, state, IsLegalFrom, IsComplete}
use Rattle.job_core.specs.Values.{Game, Values, ways, play, first_values, values_after}
use Rattle.job_core.proofs.ByCases.{by_same}
use Rattle.job_core.proofs.Shape.{opens_turned, Shape, PathFits, ThinkFits, keeps, opens, there}
use Rattle.job_core.proofs.Moves.{job_of, others, put_here}
use Rattle.job_core.proofs.Once.{ended, job_finished, shape_at}
use Rattle.frame_jobs_laws.specs.OwnGames.{asks_after, AsksItsOwn}
use Rattle.frame_jobs_laws.specs.Follows.{asks_in, FollowsAt, FollowsFrom}
use Rattle.job_core.proofs.Computes.{Fits, answered, think_at, fits_step, fits_opening}

-- as many are answered as were asked
counted : (q i : ℕ) (c : ℕ → ℕ) → i ≤ q → ((k : ℕ) → k < i → c k ≡ 1) → ((k : ℕ) → i ≤ k → k < q → c k ≡ 0) → total q c ≡ i
counted zero i c l one none = omega arith
counted (suc q) i c l one none =
    ⊎_elim
    (λ e. let d = counted q q c (omega arith) (λ k m. one k (omega arith)) (λ k m n. absurd (omega arith)) in let last = one q (omega arith) in omega arith)
    (λ ne. let d = counted q i c (omega arith) one (λ k m n. none k m (omega arith)) in let last = none q (omega arith) (omega arith) in omega arith)
    (cases_eq i (suc q))

think_few : (q : ℕ) (lp : Phase) (w i : ℕ) → ThinkFits q lp (Runs w i) → i ≤ q
think_few q Absent w i h = absurd cc
think_few q Queued w i h = absurd cc
think_few q (Runs x zero) w i h = absurd cc
think_few q (Runs x (suc k)) w i h = absurd cc
think_few q (Waits zero) w i h = absurd cc
think_few q (Waits (suc k)) w i h = h
think_few q Finished w i h = absurd cc

same_asks : {Y S W M : Type 0} (asks : S → W → ℕ → M → List Y → Bool) (a : ℕ) (old new : List Y) (sg sg' : S) (w w' : W) (m m' : M) → old ≡ new → sg ≡ sg' → w ≡ w' → m ≡ m' → asks sg w a m old ≡ asks sg' w' a m' new
same_asks asks a old new sg sg' w w' m m' p q r t = rw (p, q, r, t) refl

module _ {World Memory Signals Way Thought : Type 0} (g : Game World Memory Signals Way Thought) (asks : Signals → World → ℕ → Memory → List Way → Bool) (s : Setup) where
  -- what is known of a Think of frame f + 1 that has come so far
  abbrev Known : ℕ → ℕ → Phase → Type 0
  Known f a (Runs w k) = (i : ℕ) → i < k → asks_after g asks s.agents s.questions f a i ≡ true
  Known f a (Waits k) = (i : ℕ) → i < k → asks_after g asks s.agents s.questions f a i ≡ true
  Known f a Finished = ((i : ℕ) → i < s.questions (suc f) a → asks_after g asks s.agents s.questions f a i ≡ true) × (asks_after g asks s.agents s.questions f a (s.questions (suc f) a) ≡ false)
  Known f a Absent = Unit {0}
  Known f a Queued = Unit {0}

  module _ (st : State) (inv : Shape s st) (v : Values World Memory Signals Way Thought) (h : Fits g s inv.turned st v) where
    -- what lies in the slot is what the game's tick is asked with
    asked_with : (w f a i : ℕ) → st.phase (Think (suc f) a) ≡ Runs w i → asks_in g asks (v.slots (suc f % s.slots)) v.kept a ≡ asks_after g asks s.agents s.questions f a i
    asked_with w f a i runs =
        let at = think_at s st inv w i (suc f) a runs in
        let same_frame : inv.turned ≡ f = (let e = at.0 in omega arith) in
        subst (λ t. st.phase (Think (suc t) a) ≡ Runs w i → asks_in g asks (v.slots (suc t % s.slots)) v.kept a ≡ asks_after g asks s.agents s.questions t a i) same_frame
        (λ here.
        let job : IsJob s (Think (suc inv.turned) a) = there s st inv (Think (suc inv.turned) a) (λ y. let z : Runs w i ≡ Absent = sym here ∙ y in cc) in
        let o = h.opened (think_at s st inv w i (suc inv.turned) a here).1 in
        let few : i ≤ s.questions (suc inv.turned) a = think_few (s.questions (suc inv.turned) a) (st.phase (Logic (suc inv.turned))) w i
        (subst (ThinkFits (s.questions (suc inv.turned) a) (st.phase (Logic (suc inv.turned)))) here (inv.think (suc inv.turned) a job.0 job.1)) in
        let all : answered g s st (suc inv.turned) a ≡ i = counted (s.questions (suc inv.turned) a) i (λ k. ended (st.phase (Path (suc inv.turned) a k))) few
        (λ k l. ap ended ((subst (λ p. PathFits k p (st.phase (Path (suc inv.turned) a k))) here (inv.path (suc inv.turned) a k job.0 job.1 (omega arith))).0 l))
        (λ k l m. ap ended ((subst (λ p. PathFits k p (st.phase (Path (suc inv.turned) a k))) here (inv.path (suc inv.turned) a k job.0 job.1 m)).1 l)) in
        same_asks asks a _ _ _ _ _ _ _ _ (o.way a job.1 ∙ ap (ways g (play g s.agents s.questions inv.turned) (suc inv.turned) a) all) o.signals o.world (h.memory a job.1))
        runs

    module _ (f a : ℕ) (known : Known f a (st.phase (Think (suc f) a))) where
      moved : (e : Event) → May s st e → FollowsAt g asks s v e → Think (suc f) a ≡ job_of e → Known f a ((after s st e).phase (Think (suc f) a))
      moved (Start w j) m o d = subst (Known f a) (sym (ap (put st.phase j (Runs w 0)) d ∙ put_here st.phase j (Runs w 0))) (λ i l. absurd (omega arith))
      moved (Resume w j) m o d =
          let r = m.2 in
          let old : st.phase (Think (suc f) a) ≡ Waits r.0 = ap st.phase d ∙ r.1 in
          let step : step_of (st.phase j) ≡ r.0 = ap step_of r.1 in
          let before = subst (Known f a) old known in
          subst (Known f a) (sym (ap (put st.phase j (Runs w (step_of (st.phase j)))) d ∙ put_here st.phase j (Runs w (step_of (st.phase j))))) (λ i l. before i (omega arith))
      moved (Ask w (Think n b)) m o d =
          let old : st.phase (Think (suc f) a) ≡ Runs w m.0 = ap st.phase d ∙ m.1 in
          let step : step_of (st.phase (Think n b)) ≡ m.0 = ap step_of m.1 in
          let before = subst (Known f a) old known in
          let now : asks_after g asks s.agents s.questions f a m.0 ≡ true = sym (asked_with w f a m.0 old) ∙ follows n b d o in
          subst (Known f a) (sym (ap (after s st (Ask w (Think n b))).phase d ∙ put_here (put st.phase (Path n b (step_of (st.phase (Think n b)))) Queued) (Think n b) (Waits (suc (step_of (st.phase (Think n b)))))))
          (λ i l. ⊎_elim (λ e. subst (λ k. asks_after g asks s.agents s.questions f a k ≡ true) (sym e) now) (λ ne. before i (omega arith)) (cases_eq i m.0))
        where
          follows : (n b : ℕ) → Think (suc f) a ≡ Think n b → asks_in g asks (v.slots (n % s.slots)) v.kept b ≡ true → asks_in g asks (v.slots (suc f % s.slots)) v.kept a ≡ true
          follows n b d o = let e : suc f ≡ n = cc in let k : a ≡ b = cc in rw (e, k) o
      moved (Finish w (Think n b)) m o d =
          let old : st.phase (Think (suc f) a) ≡ Runs w m.0 = ap st.phase d ∙ m.1 in
          let before = subst (Known f a) old known in
          let all : m.0 ≡ s.questions (suc f) a = numbers n b d m.2 in
          let now : asks_after g asks s.agents s.questions f a m.0 ≡ false = sym (asked_with w f a m.0 old) ∙ follows n b d o in
          subst (Known f a) (sym (ap (put st.phase (Think n b) Finished) d ∙ put_here st.phase (Think n b) Finished))
          ((λ i l. before i (omega arith)), subst (λ k. asks_after g asks s.agents s.questions f a k ≡ false) all now)
        where
          follows : (n b : ℕ) → Think (suc f) a ≡ Think n b → asks_in g asks (v.slots (n % s.slots)) v.kept b ≡ false → asks_in g asks (v.slots (suc f % s.slots)) v.kept a ≡ false
          follows n b d o = let e : suc f ≡ n = cc in let k : a ≡ b = cc in rw (e, k) o

          numbers : {x : ℕ} (n b : ℕ) → Think (suc f) a ≡ Think n b → x ≡ s.questions n b → x ≡ s.questions (suc f) a
          numbers n b d o = let e : suc f ≡ n = cc in let k : a ≡ b = cc in rw (e, k) o
      moved (Spread w (Logic n)) m o d = absurd cc
      moved (Hold w (Logic n)) m o d = absurd cc
      moved (Finish w (Logic n)) m o d = absurd cc
      moved (Finish w (Path n b i)) m o d = absurd cc
      moved (Finish w (Draw n b)) m o d = absurd cc
      moved (Emit n) m o d = absurd cc
      moved Stop m o d = absurd cc
      moved _ m o d = absurd m

      stays : (e : Event) → May s st e → FollowsAt g asks s v e → Known f a ((after s st e).phase (Think (suc f) a))
      stays e m o = by_same (Think (suc f) a) (job_of e) (λ _. Known f a ((after s st e).phase (Think (suc f) a)))
          (λ d. moved e m o d)
          (λ ne. ⊎_elim (λ q. subst (Known f a) (sym q) known) (λ q. subst (Known f a) (sym q.1) tt) (others s st inv e m (Think (suc f) a) ne))

  known_list : (es : List Event) (st : State) (inv : Shape s st) (v : Values World Memory Signals Way Thought) → Fits g s inv.turned st v → IsLegalFrom s st es → FollowsFrom g asks s v es
      → ((f a : ℕ) → Known f a (st.phase (Think (suc f) a))) → (f a : ℕ) → Known f a ((after_all s st es).phase (Think (suc f) a))
  known_list [] st inv v h l o known = known
  known_list (e ∷ es) st inv v h l o known =
      known_list es (after s st e) (keeps s st e inv l.0.1) (values_after g s v e) (fits_step g s st inv v h e l.0.1) l.1 o.1 (λ f a. stays st inv v h f a (known f a) e l.0.1 o.0)

  pub asks_its_own : (es : List Event) → IsComplete s es → FollowsFrom g asks s (first_values g) es → AsksItsOwn g asks s.agents s.frames s.questions
  asks_its_own es c o =
      let known = known_list es (opening s) (opens s) (first_values g) (subst (λ t. Fits g s t (opening s) (first_values g)) (sym (opens_turned s)) (fits_opening g s)) c.0 o (λ f a. tt) in
      let over : (f a : ℕ) → f < s.frames → a < s.agents → Known f a Finished = λ f a l m. subst (Known f a) (job_finished s (state s es) (shape_at s es c.0) c.2 (Think (suc f) a) ((omega arith, omega arith), m)) (known f a) in
      record { asked = λ f a i l m n. (over f a l m).0 i n; ended = λ f a l m. (over f a l m).1 }
