-- The places and the agents that a tree names are those in its root and those below it.
use Rattle.std.proofs.Common.{◌≡◌, ℕ, Bool, true, false, ◌&&◌, ◌∷◌, [], None, Some, refl, ap, ◌∙◌}
use Rattle.std.specs.List.{list_all}
use Rattle.bt_nodes.specs.Plain.{Plain, Not, Tries, Ticks, Move, Does}
use Rattle.bt_nodes.specs.declared.leaf.Leaf.{Leaf}
use Rattle.bt_nodes.specs.declared.leaf.Leaf.TheVariants.{At, Give}
use Rattle.bt_nodes.specs.Heads.{listed, decorated}
use Rattle.game_session.specs.Places.{leaf_places}
use Rattle.game_session.specs.Agents.{leaf_agents}
use Rattle.level_text.specs.declared.named.Named.{Named}
use Rattle.level_text.specs.declared.named.Named.TheVariants.{Places, Agents}
use Rattle.level_text.specs.Leaves.{leaf_argument}
use Rattle.level_text.specs.Named.{argument_places, argument_agents, own_places, own_agents, own, named, named_in}

and_true : (b : Bool) → b ≡ (b && true)
and_true true = refl
and_true false = refl

same_places : (leaf : Leaf) → leaf_places leaf ≡ argument_places (leaf_argument leaf)
same_places (At p) = refl
same_places _ = refl

same_agents : (leaf : Leaf) → leaf_agents leaf ≡ argument_agents (leaf_argument leaf)
same_agents (Give b) = refl
same_agents _ = refl

module _ (f : ℕ → Bool) where
  pub named-listed : (what : Named) (p : Plain) → None ≡ decorated p → list_all f (named what p) ≡ (list_all f (own what p) && list_all f (named_in what (listed p)))
  named-listed Places (Move p) e = and_true (list_all f (p ∷ []))
  named-listed Places (Does leaf) e = ap (list_all f) (same_places leaf) ∙ and_true (list_all f (own_places (Does leaf)))
  named-listed Agents (Does leaf) e = ap (list_all f) (same_agents leaf) ∙ and_true (list_all f (own_agents (Does leaf)))
  named-listed _ (Not c) e = absurd (cc)
  named-listed _ (Tries n c) e = absurd (cc)
  named-listed _ (Ticks n c) e = absurd (cc)
  named-listed _ _ e = refl

  pub named-decorated : (what : Named) (p c : Plain) → Some c ≡ decorated p → list_all f (named what p) ≡ (list_all f (own what p) && list_all f (named what c))
  named-decorated Places (Not d) c e = let s : d ≡ c = cc in ap (λ c. list_all f (named Places c)) s
  named-decorated what (Not d) c e = let s : d ≡ c = cc in ap (λ c. list_all f (named what c)) s
  named-decorated what (Tries n d) c e = let s : d ≡ c = cc in ap (λ c. list_all f (named what c)) s
  named-decorated what (Ticks n d) c e = let s : d ≡ c = cc in ap (λ c. list_all f (named what c)) s
  named-decorated _ _ c e = absurd (cc)

  pub none-named : (what : Named) (p : Plain) → list_all f (own what p) ≡ false → list_all f (named what p) ≡ false
  none-named Places (Move p) h = h
  none-named Places (Does leaf) h = ap (list_all f) (same_places leaf) ∙ h
  none-named Agents (Does leaf) h = ap (list_all f) (same_agents leaf) ∙ h
  none-named _ _ h = absurd (cc)
