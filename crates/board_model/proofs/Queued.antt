-- The queues of new jobs, event by event.
use Rattle.std.proofs.Common.{◌≡◌, ◌≤◌, ◌<◌, ℕ, zero, suc, ◌+◌, Bool, true, false, ◌&&◌, ◌==◌, nat_lt, List, [], ◌∷◌, if◌then◌else◌, refl, sym, ap, ◌∙◌, subst, arith}
use Rattle.job_core.specs.declared.names.JobName.{JobName}
use Rattle.job_core.specs.declared.names.JobName.TheVariants.{Logic, Think, Path, Draw}
use Rattle.job_core.specs.Core.{Setup, same, Phase, Absent, Queued, Runs, Waits, Finished, State, put, queue, thinks_of, follows, ask}
use Rattle.job_core.proofs.ByCases.{by_eq, by_eq_lt, by_lt, by_same}
use Rattle.job_core.proofs.Shape.{Shape, ThinkFits, DrawFits, there, logic_next}
use Rattle.board_model.specs.Lists.{bit, tally, Three, all, add, take_from}
use Rattle.board_model.specs.Board.{priority_of, put_all, first, next_logic}
use Rattle.board_model.specs.Law.{queued, QueuesFit}
use Rattle.board_model.proofs.Kit.{tally_append, all_add, all_take}

pub put_all_tally : (p : JobName → Bool) (t : Three JobName) (js : List JobName) → tally p (all (put_all t js)) ≡ tally p (all t) + tally p js
put_all_tally p t [] = omega arith
put_all_tally p t (j ∷ js) = let a = put_all_tally p (add (priority_of j) j t) js in let b = all_add p (priority_of j) j t in omega arith

pub is_same : (j i : JobName) → same j i ≡ true → i ≡ j
is_same j i = by_same j i (λ b. b ≡ true → i ≡ j) (λ d t. sym d) (λ n t. absurd cc)

-- a job starts
pub queues_start : (t : Three JobName) (ph : JobName → Phase) (j : JobName) (w : ℕ) → QueuesFit t ph → ph j ≡ Queued → QueuesFit (take_from (same j) t) (put ph j (Runs w 0))
queues_start t ph j w h q i =
    let z : 0 < tally (same j) (all t) = let a = h j in let b : queued (ph j) ≡ 1 = ap queued q in omega arith in
    let c = all_take (same i) (same j) j (λ y e. is_same j y e) t z in
    by_same i j (λ b. tally (same i) (all (take_from (same j) t)) + bit b ≡ tally (same i) (all t) → tally (same i) (all (take_from (same j) t)) ≡ queued (if b then Runs w 0 else ph i))
    (λ d e. let a = h i in let b : queued (ph i) ≡ 1 = ap (λ x. queued (ph x)) d ∙ ap queued q in omega arith)
    (λ d e. let a = h i in omega arith) c

-- no job is queued
pub queues_put : (t : Three JobName) (ph : JobName → Phase) (j : JobName) (new : Phase) → QueuesFit t ph → queued (ph j) ≡ 0 → queued new ≡ 0 → QueuesFit t (put ph j new)
queues_put t ph j new h a b i = h i ∙ by_same i j (λ x. queued (ph i) ≡ queued (if x then new else ph i)) (λ d. ap (λ x. queued (ph x)) d ∙ (a ∙ sym b)) (λ n. refl)

-- some are: each of these was absent
pub queues_more : (t : Three JobName) (ph new : JobName → Phase) (js : List JobName) → QueuesFit t ph → ((i : JobName) → queued (new i) ≡ queued (ph i) + tally (same i) js) → QueuesFit (put_all t js) new
queues_more t ph new js h e i = let a = put_all_tally (same i) t js in let b = h i in let c = e i in omega arith

-- ---- which jobs are queued together

one_more : (x : Bool) (b n : ℕ) → bit (x && nat_lt b n) + (bit (x && (b == n)) + 0) ≡ bit (x && nat_lt b (suc n))
one_more false b n = refl
one_more true b n = by_lt b n (λ y. bit y + (bit (b == n) + 0) ≡ bit (nat_lt b (suc n)))
    (λ l. by_eq b n (λ y. 1 + (bit y + 0) ≡ bit (nat_lt b (suc n))) (λ d. absurd (omega arith)) (λ d. by_lt b (suc n) (λ y. 1 ≡ bit y) (λ m. refl) (λ m. absurd (omega arith))))
    (λ l. by_eq b n (λ y. 0 + (bit y + 0) ≡ bit (nat_lt b (suc n))) (λ d. by_lt b (suc n) (λ y. 1 ≡ bit y) (λ m. refl) (λ m. absurd (omega arith))) (λ d. by_lt b (suc n) (λ y. 0 ≡ bit y) (λ m. absurd (d (omega arith))) (λ m. refl)))

none_less : (x : Bool) (b : ℕ) → 0 ≡ bit (x && nat_lt b 0)
none_less false b = refl
none_less true b = by_lt b 0 (λ y. 0 ≡ bit y) (λ l. absurd (omega arith)) (λ l. refl)

-- how often a job stands in the first of these, each of which it is where its frame and its number are
named_tally : (x : JobName) (name : ℕ → JobName) (f : Bool) (b : ℕ) → ((k : ℕ) → same x (name k) ≡ (f && (b == k))) → (n : ℕ) → tally (same x) (first n name) ≡ bit (f && nat_lt b n)
named_tally x name f b is zero = none_less f b
named_tally x name f b is (suc n) =
    let a = tally_append (same x) (first n name) (name n ∷ []) in
    let h = named_tally x name f b is n in
    let i = ap bit (is n) in
    let o = one_more f b n in
    omega arith

pub thinks_tally : (s : Setup) (f n : ℕ) (g b : ℕ) → tally (same (Think g b)) (first n (λ a. Think f a)) ≡ bit ((g == f) && nat_lt b n)
thinks_tally s f n g b = named_tally (Think g b) (λ a. Think f a) (g == f) b (λ k. refl) n

pub draws_tally : (s : Setup) (f n : ℕ) (g b : ℕ) → tally (same (Draw g b)) (first n (λ a. Draw f a)) ≡ bit ((g == f) && nat_lt b n)
draws_tally s f n g b = named_tally (Draw g b) (λ a. Draw f a) (g == f) b (λ k. refl) n

pub none_of : (p : JobName → Bool) (name : ℕ → JobName) (n : ℕ) → ((k : ℕ) → p (name k) ≡ false) → tally p (first n name) ≡ 0
none_of p name zero h = refl
none_of p name (suc n) h =
    let a = tally_append p (first n name) (name n ∷ []) in
    let b = none_of p name n h in
    let c : bit (p (name n)) ≡ 0 = ap bit (h n) in
    omega arith

module _ (s : Setup) (st : State) (inv : Shape s st) where
  pub spread_queued : (w f : ℕ) → st.phase (Logic f) ≡ Runs w 0 → (i : JobName) → queued (put (queue st.phase (thinks_of s f)) (Logic f) (Waits 1) i) ≡ queued (st.phase i) + tally (same i) (first s.agents (λ a. Think f a))
  spread_queued w f q (Logic g) =
      let z = none_of (same (Logic g)) (λ a. Think f a) s.agents (λ k. refl) in
      by_eq g f (λ x. queued (if x then Waits 1 else st.phase (Logic g)) ≡ queued (st.phase (Logic g)) + tally (same (Logic g)) (first s.agents (λ a. Think f a)))
      (λ d. let u : queued (st.phase (Logic g)) ≡ 0 = ap queued (ap (λ x. st.phase (Logic x)) d ∙ q) in omega arith)
      (λ d. omega arith)
  spread_queued w f q (Think g b) =
      let z = thinks_tally s f s.agents g b in
      by_eq_lt g f b s.agents (λ x. tally (same (Think g b)) (first s.agents (λ a. Think f a)) ≡ bit x → queued (if x then Queued else st.phase (Think g b)) ≡ queued (st.phase (Think g b)) + tally (same (Think g b)) (first s.agents (λ a. Think f a)))
      (λ d l e. let u : queued (st.phase (Think g b)) ≡ 0 = ap queued (subst (λ p. ThinkFits (s.questions g b) p (st.phase (Think g b))) (ap (λ x. st.phase (Logic x)) d ∙ q) (inv.think g b (subst (λ x. (0 < x) × (x ≤ s.frames)) (sym d) (there s st inv (Logic f) (λ y. cc))) l)) in omega arith)
      (λ n e. omega arith) z
  spread_queued w f q (Path g b i) = let z = none_of (same (Path g b i)) (λ a. Think f a) s.agents (λ k. refl) in omega arith
  spread_queued w f q (Draw g b) = let z = none_of (same (Draw g b)) (λ a. Think f a) s.agents (λ k. refl) in omega arith

  pub ask_queued : (w f a i : ℕ) → st.phase (Think f a) ≡ Runs w i → st.phase (Path f a i) ≡ Absent → (j : JobName) → queued (ask st.phase f a i j) ≡ queued (st.phase j) + tally (same j) (Path f a i ∷ [])
  ask_queued w f a i q p j = by_same j (Path f a i) (λ x. queued (if same j (Think f a) then Waits (suc i) else (if x then Queued else st.phase j)) ≡ queued (st.phase j) + (bit x + 0))
      (λ d. rw d (let u : queued (st.phase (Path f a i)) ≡ 0 = ap queued p in omega arith))
      (λ n. by_same j (Think f a) (λ x. queued (if x then Waits (suc i) else st.phase j) ≡ queued (st.phase j) + (0 + 0))
      (λ d. let u : queued (st.phase j) ≡ 0 = ap queued (ap st.phase d ∙ q) in omega arith)
      (λ m. omega arith))

  pub next_tally : (f g : ℕ) → tally (same (Logic g)) (next_logic s f) ≡ bit ((g == suc f) && nat_lt f s.frames)
  next_tally f g = by_lt f s.frames (λ x. tally (same (Logic g)) (if x then (Logic (suc f) ∷ []) else []) ≡ bit ((g == suc f) && x))
      (λ l. by_eq g (suc f) (λ y. bit y + 0 ≡ bit (y && true)) (λ d. refl) (λ d. refl))
      (λ l. by_eq g (suc f) (λ y. 0 ≡ bit (y && false)) (λ d. refl) (λ d. refl))

  pub next_none : (f : ℕ) (p : JobName → Bool) → p (Logic (suc f)) ≡ false → tally p (next_logic s f) ≡ 0
  next_none f p e = by_lt f s.frames (λ x. tally p (if x then (Logic (suc f) ∷ []) else []) ≡ 0) (λ l. let u : bit (p (Logic (suc f))) ≡ 0 = ap bit e in omega arith) (λ l. refl)

  pub end_queued : (w f : ℕ) → st.phase (Logic f) ≡ Runs w 1 → (i : JobName) → queued (put (queue st.phase (follows s f)) (Logic f) Finished i) ≡ (queued (st.phase i) + tally (same i) (first s.bands (λ b. Draw f b))) + tally (same i) (next_logic s f)
  end_queued w f q (Logic g) =
      let z = none_of (same (Logic g)) (λ a. Draw f a) s.bands (λ k. refl) in
      let y = next_tally f g in
      let n = logic_next s st inv f (λ y. cc) (λ y. cc) in
      by_eq g f (λ x. queued (if x then Finished else (if (g == suc f) && nat_lt f s.frames then Queued else st.phase (Logic g))) ≡ (queued (st.phase (Logic g)) + tally (same (Logic g)) (first s.bands (λ b. Draw f b))) + tally (same (Logic g)) (next_logic s f))
      (λ d. let u : queued (st.phase (Logic g)) ≡ 0 = ap queued (ap (λ x. st.phase (Logic x)) d ∙ q) in
      let v : bit ((g == suc f) && nat_lt f s.frames) ≡ 0 = by_eq_lt g (suc f) f s.frames (λ x. bit x ≡ 0) (λ c l. absurd (omega arith)) (λ c. refl) in omega arith)
      (λ d. by_eq_lt g (suc f) f s.frames (λ x. tally (same (Logic g)) (next_logic s f) ≡ bit x → queued (if x then Queued else st.phase (Logic g)) ≡ (queued (st.phase (Logic g)) + tally (same (Logic g)) (first s.bands (λ b. Draw f b))) + tally (same (Logic g)) (next_logic s f))
      (λ c l e. let u : queued (st.phase (Logic g)) ≡ 0 = ap queued (inv.late g (omega arith)) in omega arith)
      (λ c e. omega arith) y)
  end_queued w f q (Think g b) = let z = none_of (same (Think g b)) (λ a. Draw f a) s.bands (λ k. refl) in let y = next_none f (same (Think g b)) refl in omega arith
  end_queued w f q (Path g b i) = let z = none_of (same (Path g b i)) (λ a. Draw f a) s.bands (λ k. refl) in let y = next_none f (same (Path g b i)) refl in omega arith
  end_queued w f q (Draw g b) =
      let z = draws_tally s f s.bands g b in
      let y = next_none f (same (Draw g b)) refl in
      by_eq_lt g f b s.bands (λ x. tally (same (Draw g b)) (first s.bands (λ a. Draw f a)) ≡ bit x → queued (if x then Queued else st.phase (Draw g b)) ≡ (queued (st.phase (Draw g b)) + tally (same (Draw g b)) (first s.bands (λ a. Draw f a))) + tally (same (Draw g b)) (next_logic s f))
      (λ d l e. let u : queued (st.phase (Draw g b)) ≡ 0 = ap queued (subst (λ p. DrawFits p (st.phase (Draw g b))) (ap (λ x. st.phase (Logic x)) d ∙ q) (inv.draw g b (subst (λ x. (0 < x) × (x ≤ s.frames)) (sym d) (there s st inv (Logic f) (λ y. cc))) l)) in omega arith)
      (λ n e. omega arith) z

  pub queues_end : (t : Three JobName) (w f : ℕ) → QueuesFit t st.phase → st.phase (Logic f) ≡ Runs w 1 → QueuesFit (put_all (put_all t (first s.bands (λ b. Draw f b))) (next_logic s f)) (put (queue st.phase (follows s f)) (Logic f) Finished)
  queues_end t w f h q i =
      let a = put_all_tally (same i) (put_all t (first s.bands (λ b. Draw f b))) (next_logic s f) in
      let b = put_all_tally (same i) t (first s.bands (λ b. Draw f b)) in
      let c = h i in
      let d = end_queued w f q i in
      omega arith
