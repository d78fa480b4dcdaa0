-- Each event keeps what is stored beside the phases.
use Rattle.std.proofs.Common.{◌≡◌, ◌<◌, ℕ, zero, suc, ◌%◌, Bool, true, false, List, [], Some, None, length, slice_get, slice_set, if◌then◌else◌, refl, sym, ap, ap₂, ◌∙◌, subst, ⊎_elim, arith}
use Rattle.std.proofs.lemmas.Bool.{cases_eq}
use Rattle.job_core.specs.declared.names.JobName.{JobName}
use Rattle.job_core.specs.declared.names.JobName.TheVariants.{Logic, Think, Path, Draw}
use Rattle.job_core.specs.declared.names.Event.TheVariants.{Start, Resume, Ask, Spread, Hold, Finish, Stop}
use Rattle.job_core.specs.Core.{Setup, IsJob, Phase, Absent, Queued, Runs, Waits, Finished, State, May, step_of, put, ask, after}
use Rattle.job_core.proofs.ByCases.{by_eq, by_eq2, by_same, agent_of}
use Rattle.job_core.proofs.Shape.{Shape, there, logic_next, ThinkFits, PathFits}
use Rattle.job_core.proofs.Moves.{IsSteady, others, put_here, put_other}
use Rattle.job_core.proofs.Once.{ended, still}
use Rattle.board_model.specs.Lists.{at}
use Rattle.board_model.specs.Stored.{Part, Stored, part, asked, put_in, store}
use Rattle.board_model.specs.Needed.{IsAsked}
use Rattle.board_model.proofs.Places.{length_set, get_here, get_other, at_set, at_set_other}
use Rattle.board_model.proofs.InOrder.{among_none, among_more}
use Rattle.board_model.proofs.Kept.{Kept, IsBefore, IsThinking, IsQuiet, is_over, thoughts_in, turn_once, turn_in, before_next, open_next, thinking_next, quiet_next, quiet_not_thinking, open_of_wait, think_of_path, open_of_think, thinking_of_think, thoughts_same, turn_same}

-- what waits has waited
steady_wait : (old new : Phase) (k : ℕ) → IsSteady old new → new ≡ Waits k → old ≡ Waits k
steady_wait old new k h e = ⊎_elim (λ d. sym d ∙ e) (λ d. let z : Queued ≡ Waits k = sym d.1 ∙ e in absurd cc) h

start_before : (w : ℕ) (k : ℕ) → IsBefore (Runs w k) → IsBefore (Waits k)
start_before w zero b = tt
start_before w (suc k) b = absurd b

asked_same : (f a i : ℕ) (x : Bool) (h c j : ℕ) (y : Bool) → f ≡ h → a ≡ c → i ≡ j → x ≡ y → asked f a i x ≡ asked h c j y
asked_same f a i x h c j y p q r t = rw (p, q, r, t) refl

abbrev moved : State → JobName → Phase → State
moved st j new = record st { phase = put st.phase j new }

module _ (s : Setup) (st : State) (inv : Shape s st) (k : Stored) (g : Kept s k st) where
  -- ---- a job starts, goes on or holds

  -- a job's phase changes, but none ends, and a Think doesn't ask; these thoughts are kept then
  moves : (ps : List Part) (j : JobName) (new : Phase) → ended new ≡ ended (st.phase j) → (IsBefore new → IsBefore (st.phase j)) → ((i : ℕ) → new ≡ Waits (suc i) → ⊥)
      → ((f : ℕ) → IsThinking ((moved st j new).phase (Logic f)) → ps ≡ thoughts_in s st f)
      → ((f : ℕ) → IsQuiet ((moved st j new).phase (Logic f)) → ps ≡ []) → Kept s (record k { thoughts = ps }) (moved st j new)
  moves ps j new e b n some none = record {
    next = λ f. by_same (Logic f) j (λ x. IsBefore (if x then new else st.phase (Logic f)) → k.next ≡ Some f)
        (λ d h. g.next f (subst (λ i. IsBefore (st.phase i)) (sym d) (b h))) (λ d h. g.next f h);
    thoughts = λ f h. some f h ∙ thoughts_same s st (moved st j new) f (λ a. each (Think f a));
    no_thoughts = none;
    asking = λ f a i. by_same (Think f a) j (λ x. (if x then new else st.phase (Think f a)) ≡ Waits (suc i) → IsAsked k f a i (is_over (ended (put st.phase j new (Path f a i)))))
        (λ d h. absurd (n i h))
        (λ d h. subst (λ x. IsAsked k f a i (is_over x)) (sym (each (Path f a i))) (g.asking f a i h));
    turns = λ i l. g.turns i l ∙ ap Some (turn_same st (moved st j new) (at k.slots i) (λ f h. each (Logic f)));
    agents = g.agents;
    places = g.places;
  }
    where
      each : (i : JobName) → ended (put st.phase j new i) ≡ ended (st.phase i)
      each i = by_same i j (λ x. ended (if x then new else st.phase i) ≡ ended (st.phase i)) (λ d. e ∙ ap (λ y. ended (st.phase y)) (sym d)) (λ d. refl)

  -- where the job is no Logic that waits for its thinks, the same thoughts
  stays : (j : JobName) (new : Phase) → (IsThinking new → ⊥) → ((f : ℕ) → Logic f ≡ j → IsQuiet (st.phase j)) → ended new ≡ ended (st.phase j) → (IsBefore new → IsBefore (st.phase j))
      → ((i : ℕ) → new ≡ Waits (suc i) → ⊥) → Kept s k (moved st j new)
  stays j new t o e b n = moves k.thoughts j new e b n
      (λ f. by_same (Logic f) j (λ x. IsThinking (if x then new else st.phase (Logic f)) → k.thoughts ≡ thoughts_in s st f) (λ d h. absurd (t h)) (λ d h. g.thoughts f h))
      (λ f. by_same (Logic f) j (λ x. IsQuiet (if x then new else st.phase (Logic f)) → k.thoughts ≡ []) (λ d h. g.no_thoughts f (subst (λ i. IsQuiet (st.phase i)) (sym d) (o f d))) (λ d h. g.no_thoughts f h))

  pub starts : (w : ℕ) (j : JobName) → May s st (Start w j) → Kept s k (after s st (Start w j))
  starts w j m =
      let q : st.phase j ≡ Queued = m.2 in
      stays j (Runs w 0) (λ t. t) (λ f d. subst IsQuiet (sym q) tt) (sym (ap ended q)) (λ b. subst IsBefore (sym q) tt) (λ i e. cc)

  pub resumes : (w : ℕ) (j : JobName) → May s st (Resume w j) → Kept s (store s st k (Resume w j)) (after s st (Resume w j))
  resumes w j m = subst (λ n. Kept s (store s st k (Resume w j)) (moved st j (Runs w n))) (sym (ap step_of m.2.1)) (on j m.2.0 m.2.1)
    where
      on : (j : JobName) (n : ℕ) → st.phase j ≡ Waits n → Kept s (store s st k (Resume w j)) (moved st j (Runs w n))
      on (Logic f) n q =
          let now : f ≡ suc inv.turned = logic_next s st inv f (λ e. let z = sym q ∙ e in cc) (λ e. let z = sym q ∙ e in cc) in
          moves [] (Logic f) (Runs w n) (sym (ap ended q)) (λ b. subst IsBefore (sym q) (start_before w n b)) (λ i e. cc)
          (λ i. by_same (Logic i) (Logic f) (λ x. IsThinking (if x then Runs w n else st.phase (Logic i)) → [] ≡ thoughts_in s st i)
          (λ d h. absurd h) (λ d h. absurd (d (ap (λ x. Logic x) (thinking_next s st inv i h ∙ sym now)))))
          (λ i h. refl)
      on (Think f a) n q = stays (Think f a) (Runs w n) (λ t. t) (λ h d. cc) (sym (ap ended q)) (λ b. subst IsBefore (sym q) (start_before w n b)) (λ i e. cc)
      on (Path f a i) n q = stays (Path f a i) (Runs w n) (λ t. t) (λ h d. cc) (sym (ap ended q)) (λ b. subst IsBefore (sym q) (start_before w n b)) (λ i e. cc)
      on (Draw f b) n q = stays (Draw f b) (Runs w n) (λ t. t) (λ h d. cc) (sym (ap ended q)) (λ c. subst IsBefore (sym q) (start_before w n c)) (λ i e. cc)

  pub holds : (w f : ℕ) → May s st (Hold w (Logic f)) → Kept s k (after s st (Hold w (Logic f)))
  holds w f m =
      let q : st.phase (Logic f) ≡ Runs w 0 = m.0 in
      stays (Logic f) (Waits 0) (λ t. t) (λ h d. subst IsQuiet (sym q) tt) (sym (ap ended q)) (λ b. subst IsBefore (sym q) tt) (λ i e. cc)

  pub stops : Kept s k (after s st Stop)
  stops = record {
    next = g.next;
    thoughts = g.thoughts;
    no_thoughts = g.no_thoughts;
    asking = g.asking;
    turns = λ i l. g.turns i l ∙ ap Some (turn_same st (after s st Stop) (at k.slots i) (λ f h. refl));
    agents = g.agents;
    places = g.places;
  }

  -- ---- a Logic spreads

  pub spreads : (w f : ℕ) → May s st (Spread w (Logic f)) → f % s.slots < s.slots → length k.slots ≡ s.slots → at k.slots (f % s.slots) ≡ None → Kept s (store s st k (Spread w (Logic f))) (after s st (Spread w (Logic f)))
  spreads w f m bound size free =
      let q : st.phase (Logic f) ≡ Runs w 0 = m.0 in
      let now = before_next s st inv f (subst IsBefore (sym q) tt) in
      let stay = still s st inv (Spread w (Logic f)) m refl in
      record {
        next = λ h. by_eq h f (λ x. IsBefore (if x then Waits 1 else st.phase (Logic h)) → None ≡ Some h) (λ d b. absurd b) (λ d b. absurd (d (before_next s st inv h b ∙ sym now)));
        thoughts = λ h. by_eq h f (λ x. IsThinking (if x then Waits 1 else st.phase (Logic h)) → k.thoughts ≡ thoughts_in s (after s st (Spread w (Logic f))) h)
            (λ d b. g.no_thoughts f (subst IsQuiet (sym q) tt) ∙ sym (among_none h s.agents _ (λ a l. stay (Think h a) ∙ ap ended (no_thought w f h a q d l))))
            (λ d b. absurd (d (thinking_next s st inv h b ∙ sym now)));
        no_thoughts = λ h. by_eq h f (λ x. IsQuiet (if x then Waits 1 else st.phase (Logic h)) → k.thoughts ≡ []) (λ d b. absurd b) (λ d b. g.no_thoughts h b);
        asking = λ h a i e. subst (λ x. IsAsked k h a i (is_over x)) (sym (stay (Path h a i)))
            (g.asking h a i (steady_wait (st.phase (Think h a)) ((after s st (Spread w (Logic f))).phase (Think h a)) (suc i) (others s st inv (Spread w (Logic f)) m (Think h a) (λ d. cc)) e));
        turns = λ i l. ⊎_elim
            (λ d. g.turns i l ∙ ap Some (ap (turn_in st) (ap (at k.slots) d ∙ free)
            ∙ (sym (ap (λ n. turn_once n f) (stay (Logic f) ∙ ap ended q))
            ∙ ap (turn_in (after s st (Spread w (Logic f)))) (sym (ap (at (slice_set k.slots (f % s.slots) (Some f))) d ∙ at_set k.slots (f % s.slots) (Some f) (omega arith))))))
            (λ d. g.turns i l ∙ ap Some (turn_same st (after s st (Spread w (Logic f))) (at k.slots i) (λ h e. stay (Logic h)) ∙ ap (turn_in (after s st (Spread w (Logic f)))) (sym (at_set_other k.slots (f % s.slots) i (Some f) d))))
            (cases_eq i (f % s.slots));
        agents = g.agents;
        places = g.places;
      }
    where
      no_thought : (w f h a : ℕ) → st.phase (Logic f) ≡ Runs w 0 → h ≡ f → a < s.agents → st.phase (Think h a) ≡ Absent
      no_thought w f h a q d l = let e : st.phase (Logic h) ≡ Runs w 0 = ap (λ x. st.phase (Logic x)) d ∙ q in subst (λ p. ThinkFits (s.questions h a) p (st.phase (Think h a))) e (inv.think h a (there s st inv (Logic h) (λ y. cc)) l)

  -- ---- a Think asks

  ask_at : (w f a i : ℕ) → st.phase (Think f a) ≡ Runs w i → i < s.questions f a → Kept s (record k { asking = slice_set k.asking a (Some (asked f a i false)) }) (record st { phase = ask st.phase f a i })
  ask_at w f a i q more = record {
    next = g.next;
    thoughts = λ h b. g.thoughts h b ∙ thoughts_same s st (record st { phase = ask st.phase f a i }) h (λ c. each (Think h c));
    no_thoughts = g.no_thoughts;
    asking = λ h c j. by_eq2 h f c a (λ b. (if b then Waits (suc i) else st.phase (Think h c)) ≡ Waits (suc j) → slice_get (slice_set k.asking a (Some (asked f a i false))) c ≡ Some (Some (asked h c j (is_over (ended (ask st.phase f a i (Path h c j)))))))
        (λ d e x. here h c j d e (next_step i j x) (each (Path h c j)))
        (λ n x. get_other k.asking a c (Some (asked f a i false)) (λ e. n (open_next s st inv h (open_of_wait s st inv h c (suc j) x) ∙ sym now) e)
        ∙ subst (λ y. IsAsked k h c j (is_over y)) (sym (each (Path h c j))) (g.asking h c j x));
    turns = λ j l. g.turns j l ∙ ap Some (turn_same st (record st { phase = ask st.phase f a i }) (at k.slots j) (λ h e. refl));
    agents = length_set k.asking a (Some (asked f a i false)) ∙ g.agents;
    places = g.places;
  }
    where
      now : f ≡ suc inv.turned
      now = open_next s st inv f (open_of_think s st inv f a (λ y. cc) (λ y. cc))

      job : IsJob s (Think f a)
      job = there s st inv (Think f a) (λ y. cc)

      absent : st.phase (Path f a i) ≡ Absent
      absent = (subst (λ p. PathFits i p (st.phase (Path f a i))) q (inv.path f a i job.0 job.1 more)).1 (omega arith)

      each : (o : JobName) → ended (ask st.phase f a i o) ≡ ended (st.phase o)
      each o = by_same o (Think f a) (λ x. ended (if x then Waits (suc i) else put st.phase (Path f a i) Queued o) ≡ ended (st.phase o))
          (λ d. sym (ap ended (ap st.phase d ∙ q)))
          (λ d. by_same o (Path f a i) (λ x. ended (if x then Queued else st.phase o) ≡ ended (st.phase o)) (λ e. sym (ap ended (ap st.phase e ∙ absent))) (λ e. refl))

      next_step : (i j : ℕ) → Waits (suc i) ≡ Waits (suc j) → i ≡ j
      next_step i j e = let x : suc i ≡ suc j = ap step_of e in omega arith

      here : (h c j : ℕ) → h ≡ f → c ≡ a → i ≡ j → ended (ask st.phase f a i (Path h c j)) ≡ ended (st.phase (Path h c j)) → slice_get (slice_set k.asking a (Some (asked f a i false))) c ≡ Some (Some (asked h c j (is_over (ended (ask st.phase f a i (Path h c j))))))
      here h c j d e o z =
          let none : ended (ask st.phase f a i (Path h c j)) ≡ 0 = z ∙ ap ended (same_path h c j d e o ∙ absent) in
          ap (slice_get (slice_set k.asking a (Some (asked f a i false)))) e
          ∙ (get_here k.asking a (Some (asked f a i false)) (let x = g.agents in let y = job.1 in omega arith)
          ∙ ap (λ x. Some (Some x)) (asked_same f a i false h c j (is_over (ended (ask st.phase f a i (Path h c j)))) (sym d) (sym e) o (sym (ap is_over none))))
        where
          same_path : (h c j : ℕ) → h ≡ f → c ≡ a → i ≡ j → st.phase (Path h c j) ≡ st.phase (Path f a i)
          same_path h c j d e o = rw (d, e, o) refl

  pub asks : (w f a : ℕ) → May s st (Ask w (Think f a)) → Kept s (store s st k (Ask w (Think f a))) (after s st (Ask w (Think f a)))
  asks w f a m = subst (λ i. Kept s (record k { asking = slice_set k.asking a (Some (asked f a i false)) }) (record st { phase = ask st.phase f a i })) (sym (ap step_of m.1)) (ask_at w f a m.0 m.1 m.2)

  -- ---- a Path, a Think and a Draw end

  pub path_ends : (w f a i : ℕ) → May s st (Finish w (Path f a i)) → Kept s (store s st k (Finish w (Path f a i))) (after s st (Finish w (Path f a i)))
  path_ends w f a i m = record {
    next = g.next;
    thoughts = g.thoughts;
    no_thoughts = g.no_thoughts;
    asking = λ h c j x. ⊎_elim
        (λ e. here h c j (open_next s st inv h (open_of_wait s st inv h c (suc j) x) ∙ sym now) e x)
        (λ e. get_other k.asking a c (Some (asked f a i true)) e ∙ subst (λ y. IsAsked k h c j (is_over (ended y))) (sym (put_other st.phase (Path f a i) (Path h c j) Finished (λ y. e (ap agent_of y)))) (g.asking h c j x))
        (cases_eq c a);
    turns = λ j l. g.turns j l ∙ ap Some (turn_same st (moved st (Path f a i) Finished) (at k.slots j) (λ h e. refl));
    agents = length_set k.asking a (Some (asked f a i true)) ∙ g.agents;
    places = g.places;
  }
    where
      runs : st.phase (Path f a i) ≡ Runs w m.0
      runs = m.1

      waits : st.phase (Think f a) ≡ Waits (suc i)
      waits = think_of_path s st inv f a i (λ y. cc) (λ y. cc)

      now : f ≡ suc inv.turned
      now = open_next s st inv f (open_of_wait s st inv f a (suc i) waits)

      job : IsJob s (Path f a i)
      job = there s st inv (Path f a i) (λ y. cc)

      same_step : (h c j : ℕ) → h ≡ f → c ≡ a → st.phase (Think h c) ≡ Waits (suc j) → i ≡ j
      same_step h c j d e x = let y : suc i ≡ suc j = ap step_of (sym waits ∙ (sym (ap₂ (λ u v. st.phase (Think u v)) d e) ∙ x)) in omega arith

      over : (h c j : ℕ) → h ≡ f → c ≡ a → i ≡ j → put st.phase (Path f a i) Finished (Path h c j) ≡ Finished
      over h c j d e o = rw (d, e, sym o) (put_here st.phase (Path f a i) Finished)

      here : (h c j : ℕ) → h ≡ f → c ≡ a → st.phase (Think h c) ≡ Waits (suc j) → slice_get (slice_set k.asking a (Some (asked f a i true))) c ≡ Some (Some (asked h c j (is_over (ended (put st.phase (Path f a i) Finished (Path h c j))))))
      here h c j d e x =
          let o = same_step h c j d e x in
          ap (slice_get (slice_set k.asking a (Some (asked f a i true)))) e
          ∙ (get_here k.asking a (Some (asked f a i true)) (let y = g.agents in let z = job.1 in omega arith)
          ∙ ap (λ y. Some (Some y)) (asked_same f a i true h c j (is_over (ended (put st.phase (Path f a i) Finished (Path h c j)))) (sym d) (sym e) o (sym (ap (λ y. is_over (ended y)) (over h c j d e o)))))

  pub think_ends : (w f a : ℕ) → May s st (Finish w (Think f a)) → Kept s (store s st k (Finish w (Think f a))) (after s st (Finish w (Think f a)))
  think_ends w f a m = record {
    next = g.next;
    thoughts = λ h b. subst (λ x. put_in (part f a) k.thoughts ≡ thoughts_in s (moved st (Think f a) Finished) x) (now ∙ sym (thinking_next s st inv h b))
        (ap (put_in (part f a)) (g.thoughts f thinking)
        ∙ among_more f s.agents a (λ c. ended (put st.phase (Think f a) Finished (Think f c))) (λ c. ended (st.phase (Think f c))) job.1 (ap ended runs) (ap ended (put_here st.phase (Think f a) Finished))
        (λ c l n. ap ended (put_other st.phase (Think f a) (Think f c) Finished (λ e. n (ap agent_of e)))));
    no_thoughts = λ h b. absurd (quiet_not_thinking (st.phase (Logic h)) b (subst (λ x. IsThinking (st.phase (Logic x))) (now ∙ sym (quiet_next s st inv h b)) thinking));
    asking = λ h c j. by_eq2 h f c a (λ x. (if x then Finished else st.phase (Think h c)) ≡ Waits (suc j) → IsAsked k h c j (is_over (ended (st.phase (Path h c j))))) (λ d e x. absurd cc) (λ n x. g.asking h c j x);
    turns = λ j l. g.turns j l ∙ ap Some (turn_same st (moved st (Think f a) Finished) (at k.slots j) (λ h e. refl));
    agents = g.agents;
    places = g.places;
  }
    where
      runs : st.phase (Think f a) ≡ Runs w m.0
      runs = m.1

      job : IsJob s (Think f a)
      job = there s st inv (Think f a) (λ y. cc)

      thinking : IsThinking (st.phase (Logic f))
      thinking = thinking_of_think s st inv f a (λ y. cc) (λ y. cc)

      now : f ≡ suc inv.turned
      now = thinking_next s st inv f thinking

  pub draw_ends : (w f b : ℕ) → May s st (Finish w (Draw f b)) → Kept s (store s st k (Finish w (Draw f b))) (after s st (Finish w (Draw f b)))
  draw_ends w f b m = record {
    next = g.next;
    thoughts = g.thoughts;
    no_thoughts = g.no_thoughts;
    asking = g.asking;
    turns = λ j l. g.turns j l ∙ ap Some (turn_same st (moved st (Draw f b) Finished) (at k.slots j) (λ h e. refl));
    agents = g.agents;
    places = g.places;
  }
