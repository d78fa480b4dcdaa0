-- What each event does to the numbers of the counters.
use Rattle.std.proofs.Common.{◌≡◌, ◌≤◌, ◌<◌, ℕ, zero, suc, Bool, true, false, ◌&&◌, ◌==◌, nat_lt, nat_le, if◌then◌else◌, refl, sym, ap, ap₂, ◌∙◌, subst, arith}
use Rattle.job_core.specs.declared.names.JobName.{JobName}
use Rattle.job_core.specs.declared.names.JobName.TheVariants.{Logic, Think, Path, Draw}
use Rattle.job_core.specs.Core.{Setup, IsJob, Phase, Absent, Queued, Runs, Waits, Finished, State, unfinished, left, total, Counter, Thinks, Way, Draws, Shown, put, queue, thinks_of, follows, ask}
use Rattle.job_core.proofs.ByCases.{by_eq, by_eq2, by_eq_lt, by_lt, by_le, by_same, frame_of, agent_of, question_of}
use Rattle.job_core.proofs.Sums.{total_same, total_change, total_le, total_zero}
use Rattle.job_core.proofs.Shape.{Shape, ThinkFits, PathFits, DrawFits, there, logic_next}
use Rattle.job_core.proofs.Moves.{put_here, put_other, one_less}
use Rattle.board_model.specs.Lists.{bit}
use Rattle.board_model.specs.Law.{pending, has_spread, number}

abbrev pub with_phase : State → (JobName → Phase) → State
with_phase st ph = record st { phase = ph }

-- one job's phase changes, and no number
pub number_put : (s : Setup) (st : State) (j : JobName) (new : Phase) → pending new ≡ pending (st.phase j) → has_spread new ≡ has_spread (st.phase j) → (k : Counter) → number s (with_phase st (put st.phase j new)) k ≡ number s st k
number_put s st j new p h = go
  where
    each : (i : JobName) → pending (put st.phase j new i) ≡ pending (st.phase i)
    each i = by_same i j (λ x. pending (if x then new else st.phase i) ≡ pending (st.phase i)) (λ d. p ∙ ap (λ x. pending (st.phase x)) (sym d)) (λ n. refl)

    spread : (i : JobName) → has_spread (put st.phase j new i) ≡ has_spread (st.phase i)
    spread i = by_same i j (λ x. has_spread (if x then new else st.phase i) ≡ has_spread (st.phase i)) (λ d. h ∙ ap (λ x. has_spread (st.phase x)) (sym d)) (λ n. refl)

    go : (k : Counter) → number s (with_phase st (put st.phase j new)) k ≡ number s st k
    go (Thinks f) = total_same s.agents _ _ (λ a l. each (Think f a))
    go (Way f a i) = each (Path f a i)
    go (Draws f) = total_same s.bands _ _ (λ b l. each (Draw f b))
    go (Shown f) = ap (λ x. bit (x && nat_lt st.emitted f)) (spread (Logic f))

-- ---- the end of a job that was counted

module _ (s : Setup) (st : State) (inv : Shape s st) where
  pub number_think : (w k f a : ℕ) → st.phase (Think f a) ≡ Runs w k → number s st (Thinks f) ≡ suc (number s (with_phase st (put st.phase (Think f a) Finished)) (Thinks f))
  number_think w k f a q = sym (one_less pending refl st.phase (λ b. Think f b) (λ b n e. n (ap agent_of e)) s.agents (there s st inv (Think f a) (λ y. cc)).1 (ap pending q))

  pub number_draw : (w k f b : ℕ) → st.phase (Draw f b) ≡ Runs w k → number s st (Draws f) ≡ suc (number s (with_phase st (put st.phase (Draw f b) Finished)) (Draws f))
  number_draw w k f b q = sym (one_less pending refl st.phase (λ d. Draw f d) (λ d n e. n (ap agent_of e)) s.bands (there s st inv (Draw f b) (λ y. cc)).1 (ap pending q))

  pub number_path : (w k f a i : ℕ) → st.phase (Path f a i) ≡ Runs w k → number s st (Way f a i) ≡ suc (number s (with_phase st (put st.phase (Path f a i) Finished)) (Way f a i))
  number_path w k f a i q = ap pending q ∙ ap suc (sym (ap pending (put_here st.phase (Path f a i) Finished)))

  pub else_think : (f a : ℕ) (k : Counter) → (k ≡ Thinks f → ⊥) → number s (with_phase st (put st.phase (Think f a) Finished)) k ≡ number s st k
  else_think f a (Thinks g) n = total_same s.agents _ _ (λ b l. ap pending (put_other st.phase (Think f a) (Think g b) Finished (λ e. n (ap (λ x. Thinks (frame_of x)) e))))
  else_think f a _ n = refl

  pub else_draw : (f b : ℕ) (k : Counter) → (k ≡ Draws f → ⊥) → number s (with_phase st (put st.phase (Draw f b) Finished)) k ≡ number s st k
  else_draw f b (Draws g) n = total_same s.bands _ _ (λ d l. ap pending (put_other st.phase (Draw f b) (Draw g d) Finished (λ e. n (ap (λ x. Draws (frame_of x)) e))))
  else_draw f b _ n = refl

  pub else_path : (f a i : ℕ) (k : Counter) → (k ≡ Way f a i → ⊥) → number s (with_phase st (put st.phase (Path f a i) Finished)) k ≡ number s st k
  else_path f a i (Way g b j) n = ap pending (put_other st.phase (Path f a i) (Path g b j) Finished (λ e. n (ap (λ x. Way (frame_of x) (agent_of x) (question_of x)) e)))
  else_path f a i _ n = refl

  -- ---- a question

  pub ask_before : (w f a i : ℕ) → st.phase (Think f a) ≡ Runs w i → i < s.questions f a → st.phase (Path f a i) ≡ Absent
  ask_before w f a i q l =
      let v : IsJob s (Think f a) = there s st inv (Think f a) (λ y. cc) in
      (subst (λ p. PathFits i p (st.phase (Path f a i))) q (inv.path f a i v.0 v.1 l)).1 (omega arith)

  pub ask_way : (f a i : ℕ) → number s (with_phase st (ask st.phase f a i)) (Way f a i) ≡ 1
  ask_way f a i = ap pending (put_here st.phase (Path f a i) Queued)

  pub ask_else : (w f a i : ℕ) → st.phase (Think f a) ≡ Runs w i → (k : Counter) → (k ≡ Way f a i → ⊥) → number s (with_phase st (ask st.phase f a i)) k ≡ number s st k
  ask_else w f a i q (Thinks g) n = total_same s.agents _ _ (λ b l. by_eq2 g f b a (λ x. pending (if x then Waits (suc i) else st.phase (Think g b)) ≡ pending (st.phase (Think g b)))
      (λ d e. sym (ap pending (ap₂ (λ x y. st.phase (Think x y)) d e ∙ q))) (λ m. refl))
  ask_else w f a i q (Way g b j) n = ap pending (put_other st.phase (Path f a i) (Path g b j) Queued (λ e. n (ap (λ x. Way (frame_of x) (agent_of x) (question_of x)) e)))
  ask_else w f a i q (Draws g) n = refl
  ask_else w f a i q (Shown g) n = refl

  -- ---- a Logic that spreads

  abbrev spread_phase : ℕ → JobName → Phase
  spread_phase f = put (queue st.phase (thinks_of s f)) (Logic f) (Waits 1)

  ones : (n : ℕ) (c : ℕ → ℕ) → ((i : ℕ) → i < n → c i ≡ 1) → total n c ≡ n
  ones zero c x = refl
  ones (suc n) c x = let a = ones n c (λ i l. x i (omega arith)) in let b = x n (omega arith) in omega arith

  pub spread_thinks : (f : ℕ) → number s (with_phase st (put (queue st.phase (thinks_of s f)) (Logic f) (Waits 1))) (Thinks f) ≡ s.agents
  spread_thinks f = ones s.agents _ (λ a l. by_eq_lt f f a s.agents (λ x. pending (if x then Queued else st.phase (Think f a)) ≡ 1) (λ d o. refl) (λ n. absurd (n refl l)))

  pub spread_before : (w f : ℕ) → st.phase (Logic f) ≡ Runs w 0 → number s st (Thinks f) ≡ 0
  spread_before w f q = total_zero s.agents _ (λ a l. ap pending (subst (λ p. ThinkFits (s.questions f a) p (st.phase (Think f a))) q (inv.think f a (there s st inv (Logic f) (λ y. cc)) l)))

  pub spread_shown : (w f : ℕ) → st.phase (Logic f) ≡ Runs w 0 → number s (with_phase st (put (queue st.phase (thinks_of s f)) (Logic f) (Waits 1))) (Shown f) ≡ 1
  spread_shown w f q =
      let e : f ≡ suc inv.turned = logic_next s st inv f (λ y. cc) (λ y. cc) in
      let b = inv.behind in
      ap (λ p. bit (has_spread p && nat_lt st.emitted f)) (put_here (queue st.phase (thinks_of s f)) (Logic f) (Waits 1)) ∙ by_lt st.emitted f (λ x. bit x ≡ 1) (λ l. refl) (λ l. absurd (omega arith))

  pub spread_unshown : (w f : ℕ) → st.phase (Logic f) ≡ Runs w 0 → number s st (Shown f) ≡ 0
  spread_unshown w f q = ap (λ p. bit (has_spread p && nat_lt st.emitted f)) q

  pub spread_else : (f : ℕ) (k : Counter) → (k ≡ Thinks f → ⊥) → (k ≡ Shown f → ⊥) → number s (with_phase st (put (queue st.phase (thinks_of s f)) (Logic f) (Waits 1))) k ≡ number s st k
  spread_else f (Thinks g) n m = total_same s.agents _ _ (λ a l. by_eq_lt g f a s.agents (λ x. pending (if x then Queued else st.phase (Think g a)) ≡ pending (st.phase (Think g a))) (λ d o. absurd (n (ap Thinks d))) (λ o. refl))
  spread_else f (Way g a i) n m = refl
  spread_else f (Draws g) n m = refl
  spread_else f (Shown g) n m = by_eq g f (λ x. bit (has_spread (if x then Waits 1 else st.phase (Logic g)) && nat_lt st.emitted g) ≡ bit (has_spread (st.phase (Logic g)) && nat_lt st.emitted g)) (λ d. absurd (m (ap Shown d))) (λ o. refl)

  -- ---- a Logic that ends

  pub end_draws : (f : ℕ) → number s (with_phase st (put (queue st.phase (follows s f)) (Logic f) Finished)) (Draws f) ≡ s.bands
  end_draws f = ones s.bands _ (λ b l. by_eq_lt f f b s.bands (λ x. pending (if x then Queued else st.phase (Draw f b)) ≡ 1) (λ d o. refl) (λ n. absurd (n refl l)))

  pub end_before : (w k f : ℕ) → st.phase (Logic f) ≡ Runs w k → number s st (Draws f) ≡ 0
  end_before w k f q = total_zero s.bands _ (λ b l. ap pending (subst (λ p. DrawFits p (st.phase (Draw f b))) q (inv.draw f b (there s st inv (Logic f) (λ y. cc)) l)))

  pub end_else : (w f : ℕ) → st.phase (Logic f) ≡ Runs w 1 → (k : Counter) → (k ≡ Draws f → ⊥) → number s (with_phase st (put (queue st.phase (follows s f)) (Logic f) Finished)) k ≡ number s st k
  end_else w f q (Thinks g) n = refl
  end_else w f q (Way g a i) n = refl
  end_else w f q (Draws g) n = total_same s.bands _ _ (λ b l. by_eq_lt g f b s.bands (λ x. pending (if x then Queued else st.phase (Draw g b)) ≡ pending (st.phase (Draw g b))) (λ d o. absurd (n (ap Draws d))) (λ o. refl))
  end_else w f q (Shown g) n =
      let e : f ≡ suc inv.turned = logic_next s st inv f (λ y. cc) (λ y. cc) in
      ap (λ x. bit (x && nat_lt st.emitted g)) (by_eq g f (λ x. has_spread (if x then Finished else (if (g == suc f) && nat_lt f s.frames then Queued else st.phase (Logic g))) ≡ has_spread (st.phase (Logic g)))
      (λ d. sym (ap has_spread (ap (λ x. st.phase (Logic x)) d ∙ q)))
      (λ d. by_eq_lt g (suc f) f s.frames (λ x. has_spread (if x then Queued else st.phase (Logic g)) ≡ has_spread (st.phase (Logic g)))
      (λ y l. sym (ap has_spread (inv.late g (omega arith)))) (λ y. refl)))

  -- ---- a frame that is emitted

  pub emit_before : (f : ℕ) → f ≡ suc st.emitted → st.phase (Logic f) ≡ Finished → number s st (Shown f) ≡ 1
  emit_before f e q = ap (λ p. bit (has_spread p && nat_lt st.emitted f)) q ∙ by_lt st.emitted f (λ x. bit x ≡ 1) (λ l. refl) (λ l. absurd (omega arith))

  pub emit_after : (f : ℕ) → f ≡ suc st.emitted → st.phase (Logic f) ≡ Finished → number s (record st { emitted = suc st.emitted }) (Shown f) ≡ 0
  emit_after f e q = ap (λ p. bit (has_spread p && nat_lt (suc st.emitted) f)) q ∙ by_lt (suc st.emitted) f (λ x. bit x ≡ 0) (λ l. absurd (omega arith)) (λ l. refl)

  pub emit_else : (f : ℕ) → f ≡ suc st.emitted → (k : Counter) → (k ≡ Shown f → ⊥) → number s (record st { emitted = suc st.emitted }) k ≡ number s st k
  emit_else f e (Shown g) n = ap (λ x. bit (has_spread (st.phase (Logic g)) && x))
      (by_lt (suc st.emitted) g (λ x. x ≡ nat_lt st.emitted g)
      (λ l. by_lt st.emitted g (λ x. true ≡ x) (λ o. refl) (λ o. absurd (omega arith)))
      (λ l. by_lt st.emitted g (λ x. false ≡ x) (λ o. absurd (n (ap Shown (let d : g ≡ f = omega arith in d)))) (λ o. refl)))
  emit_else f e _ n = refl

-- ---- a number is never above what is left

pending_le : (p : Phase) → pending p ≤ unfinished p
pending_le Absent = omega arith
pending_le Queued = omega arith
pending_le (Runs w k) = omega arith
pending_le (Waits k) = omega arith
pending_le Finished = omega arith

abbrev shown_left : Bool → ℕ
shown_left b = if b then 0 else 1

bit_le : (x y : Bool) → bit (x && y) ≤ bit y
bit_le true y = omega arith
bit_le false true = omega arith
bit_le false false = omega arith

pub number_le : (s : Setup) (st : State) (k : Counter) → number s st k ≤ left s st k
number_le s st (Thinks f) = total_le s.agents _ _ (λ a l. pending_le (st.phase (Think f a)))
number_le s st (Way f a i) = pending_le (st.phase (Path f a i))
number_le s st (Draws f) = total_le s.bands _ _ (λ b l. pending_le (st.phase (Draw f b)))
number_le s st (Shown f) =
    let a = bit_le (has_spread (st.phase (Logic f))) (nat_lt st.emitted f) in
    let b : bit (nat_lt st.emitted f) ≤ shown_left (nat_le f st.emitted) = by_lt st.emitted f (λ x. bit x ≤ shown_left (nat_le f st.emitted))
    (λ l. by_le f st.emitted (λ x. 1 ≤ shown_left x) (λ o. absurd (omega arith)) (λ o. omega arith))
    (λ l. omega arith) in
    omega arith
