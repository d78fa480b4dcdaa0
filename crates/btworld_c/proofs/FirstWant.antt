-- The intent of a tick is what the first node wants that acts and is Running.
use Rattle.std.proofs.Common.{◌≡◌, ◌∙◌, ◌<◌, ◌≤◌, ◌+◌, ◌++◌, ◌∷◌, [], ◌&&◌, ℕ, zero, suc, Bool, true, false, List, sym, ap, refl, arith, length, get_or, map, inl, inr}
use Rattle.std.specs.Prelude.{Option, Some, None}
use Rattle.std.proofs.lemmas.Bool.{false≢true}
use Rattle.std.proofs.lemmas.List.{get_or_past, map-append}
use Rattle.grid_world.specs.declared.cell.Intent.{Intent}
use Rattle.bt_nodes.specs.declared.node.Status.{Status}
use Rattle.bt_nodes.specs.declared.node.Status.TheVariants.{Success, Failure, Running}
use Rattle.bt_nodes.specs.declared.leaf.Leaf.TheVariants.{Carrying}
use Rattle.bt_nodes.specs.Plain.{Plain, Composite, Star, Par, Not, Tries, Ticks, Wait, Move, Does, Forest, none, tree}
use Rattle.bt_nodes.specs.Sizes.{size}
use Rattle.game_rules.specs.View.{View}
use Rattle.game_rules.specs.Thought.{first_want, thought}
use Rattle.stepping.specs.Answered.{node_answers}
use Rattle.btworld_c.specs.Wants.{nodes_of, nodes_in, node_at, want_of}
use Rattle.btworld_c.specs.Intents.{acts, actors, actors_in, Wants, IsWantingNode}
use Rattle.btworld_c.proofs.Picked.{Told, is_running, one_if, picked}
use Rattle.btworld_c.proofs.NodeWants.{length-nodes, wants_told}

mutual
  actors_are : (p : Plain) → actors p ≡ map acts (nodes_of p)
  actors_are (Composite kind children) = ap (λ l. false ∷ l) (actors_in_are children)
  actors_are (Star kind children) = ap (λ l. false ∷ l) (actors_in_are children)
  actors_are (Par m children) = ap (λ l. false ∷ l) (actors_in_are children)
  actors_are (Not child) = ap (λ l. false ∷ l) (actors_are child)
  actors_are (Tries k child) = ap (λ l. false ∷ l) (actors_are child)
  actors_are (Ticks k child) = ap (λ l. false ∷ l) (actors_are child)
  actors_are (Wait k) = refl
  actors_are (Move p) = refl
  actors_are (Does leaf) = refl

  actors_in_are : (f : Forest) → actors_in f ≡ map acts (nodes_in f)
  actors_in_are none = refl
  actors_in_are (tree p ps) =
      ap (λ l. l ++ actors_in ps) (actors_are p) ∙ ap (λ l. map acts (nodes_of p) ++ l) (actors_in_are ps) ∙ sym (map-append acts (nodes_of p) (nodes_in ps))

-- of nodes behind one another, of which the first has the number n, node n + k acts and is Running
abbrev IsHit : List Plain → (n : ℕ) → Told → (k : ℕ) → Type 0
IsHit qs n told k = (get_or (map acts qs) k false ≡ true) × (get_or told (n + k) None ≡ Some Running)

not_both : (b : Bool) (o : Option Status) (i : Intent) → (b ≡ true → o ≡ Some Running → ⊥) → one_if (b && is_running o) i ≡ []
not_both false o i miss = refl
not_both true None i miss = refl
not_both true (Some Success) i miss = refl
not_both true (Some Failure) i miss = refl
not_both true (Some Running) i miss = absurd (miss refl refl)

module _ (v : View) (told : Told) where
  -- the first node does not act or is not Running
  passes : (q : Plain) (qs : List Plain) (n : ℕ) → (IsHit (q ∷ qs) n told 0 → ⊥) → one_if (acts q && is_running (get_or told n None)) (want_of v q) ≡ []
  passes q qs n miss =
      let here : n + 0 ≡ n = omega arith in
      not_both (acts q) (get_or told n None) (want_of v q) (λ a r. miss (a, ap (λ m. get_or told m None) here ∙ r))

  -- a hit among the others
  further : (q : Plain) (qs : List Plain) (n k : ℕ) → IsHit qs (n + 1) told k → IsHit (q ∷ qs) n told (suc k)
  further q qs n k h = let at : n + suc k ≡ n + 1 + k = omega arith in (h.0, ap (λ m. get_or told m None) at ∙ h.1)

  first_hit : (qs : List Plain) (n k : ℕ) → IsHit qs n told k → ((j : ℕ) → j < k → IsHit qs n told j → ⊥) → first_want (picked v qs n told) ≡ want_of v (get_or qs k (Does Carrying))
  first_hit [] n k h first = absurd (false≢true h.0)
  first_hit (q ∷ qs) n zero h first =
      let here : n ≡ n + 0 = omega arith in
      ap (λ b. first_want (one_if (b && is_running (get_or told n None)) (want_of v q) ++ picked v qs (n + 1) told)) h.0
      ∙ ap (λ o. first_want (one_if (is_running o) (want_of v q) ++ picked v qs (n + 1) told)) (ap (λ m. get_or told m None) here ∙ h.1)
  first_hit (q ∷ qs) n (suc k) h first =
      let at : n + 1 + k ≡ n + suc k = omega arith in
      ap (λ l. first_want (l ++ picked v qs (n + 1) told)) (passes q qs n (first 0 (omega arith)))
      ∙ first_hit qs (n + 1) k (h.0, ap (λ m. get_or told m None) at ∙ h.1) (λ j l x. first (suc j) (omega (arith, l)) (further q qs n j x))

  no_hit : (qs : List Plain) (n : ℕ) → ((k : ℕ) → IsHit qs n told k → ⊥) → picked v qs n told ≡ []
  no_hit [] n never = refl
  no_hit (q ∷ qs) n never = ap (λ l. l ++ picked v qs (n + 1) told) (passes q qs n (never 0)) ∙ no_hit qs (n + 1) (λ k x. never (suc k) (further q qs n k x))

module _ (v : View) (p : Plain) (memory : List ℕ) where
  abbrev told : Told
  told = node_answers v p memory

  wants_at : (k : ℕ) → IsHit (nodes_of p) 0 told k → Wants (actors p) told k
  wants_at k h = let here : k ≡ 0 + k = omega arith in (ap (λ l. get_or l k false) (actors_are p) ∙ h.0, ap (λ m. get_or told m None) here ∙ h.1)

  hits : (k : ℕ) → Wants (actors p) told k → IsHit (nodes_of p) 0 told k
  hits k w = let here : 0 + k ≡ k = omega arith in (sym (ap (λ l. get_or l k false) (actors_are p)) ∙ w.0, ap (λ m. get_or told m None) here ∙ w.1)

  pub wanted : (node : ℕ) → size p ≤ 255 → IsWantingNode (actors p) told node → (thought v p memory).intent ≡ want_of v (node_at p node)
  wanted node few (inl is) = ap first_want (wants_told v p memory) ∙ first_hit v told (nodes_of p) 0 node (hits node is.wants) (λ j l h. is.first j l (wants_at j h))
  wanted node few (inr is) =
      let many : length (nodes_of p) ≡ size p = length-nodes p in
      ap first_want (wants_told v p memory ∙ no_hit v told (nodes_of p) 0 (λ k h. is.1 k (wants_at k h)))
      ∙ sym (ap (want_of v) (get_or_past (nodes_of p) node (Does Carrying) (omega (arith, many, few, is.0))))
