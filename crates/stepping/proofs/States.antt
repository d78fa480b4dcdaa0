-- What is kept of a game of a level is a state.
use Rattle.std.proofs.Common.{◌≡◌, ◌∙◌, ◌<◌, ◌^◌, ℕ, Bool, true, false, cond, List, [], ◌∷◌, length, get_or, refl, sym, ap, subst, arith, None, Some, Option, replicate}
use Rattle.std.specs.Prelude.{All, find, option_map, unwrap_or}
use Rattle.std.specs.Option.{option_or}
use Rattle.std.proofs.lemmas.List.{length-map, get_or-map}
use Rattle.grid_world.specs.Grid.{Grid}
use Rattle.grid_world.specs.World.{IsWorld}
use Rattle.bt_nodes.specs.declared.leaf.Leaf.TheVariants.{Carrying}
use Rattle.bt_nodes.specs.Plain.{Plain, Does}
use Rattle.bt_nodes.specs.Limits.{tree_fault}
use Rattle.bt_nodes.specs.declared.node.Status.{Status}
use Rattle.game_rules.specs.declared.change.Change.{Change}
use Rattle.game_rules.specs.Game.{signals}
use Rattle.game_session.specs.Faults.{bad_tree, is_named, limit_fault}
use Rattle.game_session.specs.Parts.{NamedPlain, Parts}
use Rattle.game_session.specs.Levels.{value_of, agent_trees, tree_named}
use Rattle.game_session.specs.Sessions.{game_of}
use Rattle.game_session.specs.declared.level.Level.{Level}
use Rattle.game_session.proofs.Faultless.{faultless}
use Rattle.game_session.proofs.LevelsKept.{level_is_faultless}
use Rattle.stepping.specs.Played.{IsAt}
use Rattle.stepping.specs.StateText.{IsState}
use Rattle.stepping.proofs.Onward.{none_more}

no_first : {T U : Type 0} (f : T → U) (o : Option T) (later : Option U) → option_or (option_map f o) later ≡ None → (o ≡ None) × (later ≡ None)
no_first f None later h = (refl, h)
no_first f (Some x) later h = (cc, cc)

-- each tree of a level keeps the limits, by whatever name
named_keeps : (trees : List NamedPlain) (name : List ℕ) → limit_fault trees ≡ None → tree_fault (tree_named trees name) ≡ None
named_keeps [] name h = refl
named_keeps (t ∷ ts) name h =
    let none : (tree_fault t.tree ≡ None) × (limit_fault ts ≡ None) = no_first (bad_tree t.name) (tree_fault t.tree) (limit_fault ts) h in
    chosen (is_named name t) none.0 (named_keeps ts name none.1)
  where
    chosen : (b : Bool) → tree_fault t.tree ≡ None → tree_fault (tree_named ts name) ≡ None
        → tree_fault (unwrap_or (option_map (λ (x : NamedPlain). x.tree) (cond b (Some t) (find (is_named name) ts))) (Does Carrying)) ≡ None
    chosen true here later = here
    chosen false here later = later

trees_keep : (parts : Parts) → limit_fault parts.trees ≡ None → All (λ t. tree_fault t ≡ None) (agent_trees parts)
trees_keep parts h i d l =
    let few = length-map parts.names (tree_named parts.trees) in
    let inside : i < length parts.names = omega (arith, l, few) in
    subst (λ (t : Plain). tree_fault t ≡ None) (sym (get_or-map (tree_named parts.trees) parts.names i [] d inside))
    (named_keeps parts.trees (get_or parts.names i []) h)

-- before the first frame no change is due
none_first : (changes : List Change) → All (λ c. 0 < c.frame) changes → signals changes 0 ≡ signals [] 0
none_first changes all = none_more [] changes 0 (replicate 26 false) all

pub kept_state : (level : Level) (changes script : List Change) (f : ℕ) (world : Grid) (memories : List (List ℕ)) (statuses : List Status) (drawn on : List Bool) → f < 2 ^ 32
    → IsAt (game_of (value_of level) changes) f world memories statuses drawn on → IsWorld world
    → IsState (record { game = game_of (value_of level) changes; frame = f; position = record { world = world; memories = memories }; answers = statuses; script = script })
kept_state level changes script f world memories statuses drawn on small is sound = record {
  frame = small;
  ground = is.ground;
  world = sound;
  crew = is.agents;
  limits = trees_keep (value_of level) (faultless (value_of level) (level_is_faultless level)).limits;
  memories = is.all_fit;
  answered = is.one_each;
  asked = is.asked;
  first = λ begun. ap (signals changes) begun ∙ none_first changes is.ordered.first;
  last = λ over. sym is.signals_are ∙ is.last over ∙ is.drawn_are;
}
