-- A leaf ticked as a tree of its own gives what it gives anywhere.
use Rattle.std.proofs.Common.{◌≡◌, ℕ, List, [], ◌∷◌, ◌++◌, true, false, refl, sym, ap, ◌∙◌, rules}
use Rattle.grid_world.specs.declared.cell.Intent.{Intent}
use Rattle.bt_nodes.specs.declared.node.Status.{Status}
use Rattle.bt_nodes.specs.declared.node.Status.TheVariants.{Success, Failure, Running}
use Rattle.bt_nodes.specs.declared.leaf.Leaf.{Leaf}
use Rattle.bt_nodes.specs.Heads.{is_leaf}
use Rattle.bt_nodes.specs.Plain.{Plain, Does, Move, plain}
use Rattle.bt_nodes.specs.declared.node.Node.{Node, the_lemmas}
use Rattle.bt_nodes.specs.declared.node.Node as node
use Rattle.game_rules.specs.declared.leaf_result.LeafResult.{LeafResult}
use Rattle.game_rules.specs.declared.leaf_result.LeafResult.TheVariants.{Says, Wants}
use Rattle.game_rules.specs.View.{View}
use Rattle.game_rules.specs.Tick.{Gives, State, Result, gives, want, meaning, act, tick}
use Rattle.game_rules.specs.Thought.{first_want, ticked}
use Rattle.stepping.specs.Observing.{wanting}

-- it gives a status, and wants what it wants in a state with no wants
abbrev Plainly : (State → Result) → Type 0
Plainly f = (t s : State) (st : Status) (i : Intent) → t.wants ≡ [] → (f t).reply ≡ Gives st → i ≡ first_want (f t).state.wants → f s ≡ gives st (wanting st i s)

stays : (st : Status) → ((i : Intent) (s : State) → s ≡ wanting st i s) → Plainly (gives st)
stays st same t s st' i none e is =
    let is_st : st ≡ st' = cc in
    ap (gives st) (same i s) ∙ ap (λ x. gives x (wanting x i s)) is_st

wants : (one : Intent) → Plainly (λ s. gives Running (want one s))
wants one t s st i none e is =
    let is_st : Running ≡ st = cc in
    let is_one : one ≡ i = sym (is ∙ ap (λ l. first_want (l ++ one ∷ [])) none) in
    ap (λ j. gives Running (want j s)) is_one ∙ ap (λ x. gives x (wanting x i s)) is_st

plainly : (d : LeafResult) → Plainly (act d)
plainly (Says true) = stays Success (λ i s. refl)
plainly (Says false) = stays Failure (λ i s. refl)
plainly (Wants i) = wants i

module _ (v : View) (p : Plain) (leaf : Leaf) (is : p ≡ Does leaf) (m : List ℕ) where
  pub leaf_told : (q : Plain) (st : Status) (i : Intent) → p ≡ q → (ticked v p m []).reply ≡ Gives st → i ≡ first_want (ticked v p m []).state.wants
      → (n : ℕ) (s : State) → tick v q n s ≡ gives st (wanting st i s)
  leaf_told q st i same r w n s =
      ap (λ x. tick v x n s) (sym same ∙ is)
      ∙ plainly (meaning leaf v) (record { memory = m; wants = []; asked = []; left = [] }) s st i refl (ap (λ x. (ticked v x m []).reply) (sym is) ∙ r)
      (w ∙ ap (λ x. first_want (ticked v x m []).state.wants) is)

-- ---- nodes that are leaves

pub moves : {A : Type 0} (n : Node A) (p : ℕ) → n ≡ node.Move p → plain n ≡ Move p
moves n p e = ap plain e ∙ search (rules, the_lemmas)

pub leaf_of : (p : Plain) → is_leaf p ≡ true → (leaf : Leaf) × (p ≡ Does leaf)
leaf_of (Does leaf) e = (leaf, refl)
leaf_of _ e = absurd (cc)
