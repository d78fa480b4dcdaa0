-- A tick that is cut at each of its questions ends as the agent's thought.
use Rattle.std.proofs.Common.{◌≡◌, ◌<◌, ℕ, suc, ◌+◌, List, [], ◌∷◌, ◌++◌, refl, sym, ap, ◌∙◌, append_assoc, append-nil, subst, arith, true, ⊎_elim, below_more}
use Rattle.std.specs.Prelude.{Some}
use Rattle.std.proofs.lemmas.Bool.{cases_lt, both_ways}
use Rattle.grid_world.specs.declared.cell.Answer.{Answer}
use Rattle.grid_world.specs.declared.cell.Intent.{Intent}
use Rattle.grid_world.specs.Way.{way}
use Rattle.bt_nodes.specs.declared.node.Status.{Status}
use Rattle.bt_nodes.specs.Plain.{Plain}
use Rattle.game_rules.specs.View.{View, cell_of}
use Rattle.game_rules.specs.Tick.{Gives, Stands, Result, gives}
use Rattle.game_rules.specs.Thought.{ticked, last_of, way_to_last, next_answer, add_if, ways, all_ways, questions, Thought, thought, thought_of}
use Rattle.game_rules.proofs.Ways.{stands, ends, goes_on, all_there}
use Rattle.bt_tick.specs.Suspended.{after}
use Rattle.bt_tick.specs.Thinking.{Thinking}
use Rattle.bt_tick.specs.Outcome.{fresh, means, place_of, tree_of, ComesTo, IsOutcome, IsOfTree}
use Rattle.bt_tick.specs.declared.tick.Pending.{Pending}
use Rattle.bt_tick.specs.declared.tick.Outcome.{Outcome}
use Rattle.bt_tick.specs.declared.tick.Outcome.TheVariants.{Ended, Asks}
use Rattle.bt_tick.proofs.Outcomes.{outcome_of}

after_after : (ps qs : List ℕ) (r : Result) → after ps (after qs r) ≡ after (ps ++ qs) r
after_after ps qs r = ap (λ (l : List ℕ). let x : Result = record { reply = r.reply; state = record r.state { asked = l } } in x) (sym (append_assoc ps qs r.state.asked))

-- what comes of the rest, after some places, comes of the whole
comes_on : {T A : Type 0} (v : View) (ps qs : List ℕ) (o : Outcome T A) (rest whole : List Answer → Result) → ComesTo v qs o rest
    → ((more : List Answer) → whole more ≡ after ps (rest more)) → ComesTo v (ps ++ qs) o whole
comes_on v ps qs (Ended st memory intent) rest whole (wants, is, h) e = (wants, is, λ more. e more ∙ ap (after ps) (h more) ∙ after_after ps qs (gives st (fresh memory wants more)))
comes_on v ps qs (Asks place p) rest whole (is, h) e = (is, λ more. e more ∙ ap (after ps) (h more) ∙ after_after ps qs (means v p more))

module _ (v : View) (p : Plain) (m : List ℕ) where
  abbrev run : List Answer → Result
  run = ticked v p m

  pub thinking_begun : {T A : Type 0} (o : Outcome T A) → ComesTo v [] o run → IsOfTree p o → Thinking v p m 0 o
  thinking_begun o c t = record { places = []; comes = c; tree = t; stood = λ j h. absurd (omega (arith, h)) }

  -- it stands, and asks for this place
  pub asks_now : {T A : Type 0} (i : ℕ) (place : ℕ) (q : Pending T A) → Thinking v p m i (Asks place q)
      → ((run (ways v p m i)).reply ≡ Stands) × (last_of (run (ways v p m i)).state.asked ≡ Some place)
  asks_now {T} {A} i place q t =
      let o : Outcome T A = Asks place q in
      let out : IsOutcome o (run (ways v p m i ++ [])) = outcome_of v t.places o (λ more. run (ways v p m i ++ more)) t.comes in
      let e : ways v p m i ++ [] ≡ ways v p m i = append-nil (ways v p m i) in
      (ap (λ l. (run l).reply) (sym e) ∙ out.0, ap (λ l. last_of (run l).state.asked) (sym e) ∙ out.1)

  one_answer_more : (i : ℕ) (place : ℕ) (x : Answer) → (run (ways v p m i)).reply ≡ Stands → last_of (run (ways v p m i)).state.asked ≡ Some place
      → x ≡ way v.world v.signals (cell_of v) place → ways v p m (i + 1) ≡ ways v p m i ++ x ∷ []
  one_answer_more i place x s l is =
      let n : i + 1 ≡ suc i = omega arith in
      ap (ways v p m) n ∙ ap (λ r. add_if r (ways v p m i) (next_answer v p m (ways v p m i))) s
      ∙ ap (λ y. ways v p m i ++ y ∷ []) (ap (way_to_last v) l ∙ sym is)

  pub thinking_resumed : {T A : Type 0} (i : ℕ) (place : ℕ) (q : Pending T A) (x : Answer) (o : Outcome T A) → Thinking v p m i (Asks place q)
      → x ≡ way v.world v.signals (cell_of v) place → ComesTo v (place_of q ∷ []) o (λ more. means v q (x ∷ more)) → IsOfTree (tree_of q) o → Thinking v p m (i + 1) o
  thinking_resumed i place q x o t is c tree =
      let now = asks_now i place q t in
      let e : ways v p m (i + 1) ≡ ways v p m i ++ x ∷ [] = one_answer_more i place x now.0 now.1 is in
      record {
        places = t.places ++ place_of q ∷ [];
        comes = comes_on v t.places (place_of q ∷ []) o (λ more. means v q (x ∷ more)) (λ more. run (ways v p m (i + 1) ++ more)) c
            (λ more. ap (λ l. run (l ++ more)) e ∙ ap run (append_assoc (ways v p m i) (x ∷ []) more) ∙ t.comes.1 (x ∷ more));
        tree = subst (λ r. IsOfTree r o) t.tree tree;
        stood = below_more (λ j. (run (ways v p m j)).reply ≡ Stands) i t.stood now.0;
      }

  ends_last : (run (ways v p m (questions v p m))).reply ≡ Stands → ⊥
  ends_last s =
      let last : Gives (ends v p m).0 ≡ Stands = sym (ends v p m).1 ∙ ap (λ l. (run l).reply) (sym (all_there v p m)) ∙ s in
      both_ways (stands (Gives (ends v p m).0)) refl (ap stands last)

  stands_before : (i : ℕ) → ((j : ℕ) → j < i → (run (ways v p m j)).reply ≡ Stands) → questions v p m < i → ⊥
  stands_before i stood h = ends_last (stood (questions v p m) h)

  -- it has all its answers
  all_answered : (i : ℕ) (st : Status) → ((j : ℕ) → j < i → (run (ways v p m j)).reply ≡ Stands) → (run (ways v p m i)).reply ≡ Gives st → i ≡ questions v p m
  all_answered i st stood e =
      ⊎_elim
      (λ h. let s : stands (run (ways v p m i)).reply ≡ true = goes_on v p m i h in absurd (both_ways (stands (run (ways v p m i)).reply) (ap stands e) s))
      (λ h. ⊎_elim (λ k. absurd (stands_before i stood k)) (λ k. omega (arith, h, k)) (cases_lt (questions v p m) i))
      (cases_lt i (questions v p m))

  ends_by : {T A : Type 0} (i : ℕ) (st : Status) (memory : List ℕ) (intent : Intent) (t : Thinking {T = T} {A = A} v p m i (Ended st memory intent))
      → run (ways v p m i) ≡ after t.places (gives st (fresh memory t.comes.0 []))
  ends_by i st memory intent t = ap run (sym (append-nil (ways v p m i))) ∙ t.comes.2 []

  -- a tick ends exactly where all its questions are answered
  pub ended_asks : {T A : Type 0} (i : ℕ) (st : Status) (memory : List ℕ) (intent : Intent) → Thinking {T = T} {A = A} v p m i (Ended st memory intent)
      → i ≡ questions v p m
  ended_asks i st memory intent t = all_answered i st t.stood (ap (λ r. r.reply) (ends_by i st memory intent t))

  pub still_asks : {T A : Type 0} (i : ℕ) (place : ℕ) (q : Pending T A) → Thinking v p m i (Asks place q) → i < questions v p m
  still_asks i place q t =
      let now = asks_now i place q t in
      ⊎_elim (λ h. h)
      (λ h. ⊎_elim (λ k. absurd (stands_before i t.stood k))
      (λ k. (let same : i ≡ questions v p m = omega (arith, h, k) in absurd (ends_last (ap (λ j. (run (ways v p m j)).reply) (sym same) ∙ now.0))))
      (cases_lt (questions v p m) i))
      (cases_lt i (questions v p m))

  -- a copy of a tick that stands stands as it does
  pub thinking_copied : {T A B : Type 0} (i : ℕ) (place : ℕ) (q : Pending T A) (r : Pending T B) → Thinking v p m i (Asks place q) → ((more : List Answer) → means v r more ≡ means v q more)
      → place_of r ≡ place_of q → tree_of r ≡ tree_of q → Thinking v p m i (Asks place r)
  thinking_copied i place q r t same at tree = record {
    places = t.places;
    comes = (t.comes.0 ∙ sym at, λ more. t.comes.1 more ∙ ap (after t.places) (sym (same more)));
    tree = tree ∙ t.tree;
    stood = t.stood;
  }

  pub thinking_ended : {T A : Type 0} (i : ℕ) (st : Status) (memory : List ℕ) (intent : Intent) → Thinking {T = T} {A = A} v p m i (Ended st memory intent)
      → record { status = st; memory = memory; intent = intent } ≡ thought v p m
  thinking_ended i st memory intent t =
      let e = ends_by i st memory intent t in
      let all : ways v p m i ≡ all_ways v p m = ap (ways v p m) (ended_asks i st memory intent t) ∙ all_there v p m in
      ap (λ (n : Intent). let x : Thought = record { status = st; memory = memory; intent = n } in x) t.comes.1
      ∙ sym (ap thought_of e) ∙ ap (λ l. thought_of (run l)) all
