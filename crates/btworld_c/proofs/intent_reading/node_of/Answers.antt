use Rattle.std.proofs.Common.{◌≡◌, ◌≤◌, ◌++◌, ◌∙◌, [], Bool, List, length, ap, arith, sym, subst, length-append}
use Rattle.std.specs.Prelude.{Option, slice_index_or}
use Rattle.bt_nodes.specs.declared.leaf.Leaf.TheVariants.{Carrying}
use Rattle.bt_nodes.specs.declared.node.Status.{Status}
use Rattle.bt_nodes.specs.Plain.{Plain, Does, plain}
use Rattle.bt_nodes.specs.Sizes.{size}
use Rattle.bt_nodes.specs.Trees.{plain_of}
use Rattle.stepping.specs.Played.{answers_under, sight}
use Rattle.btworld_c.specs.Intents.{actors, IsWantingNode}
use Rattle.btworld_c.proofs.Actors.{length-actors}
use Rattle.btworld_c.proofs.FirstWant.{wanted}
use Rattle.btworld_c.proofs.intent_reading.node_of.Goals as goal

pub wanting_node-requires : goal.wanting_node-requires
wanting_node-requires c =
    let p : Plain = plain c.root.result.now in
    let one = ap (λ (l : List Bool). length l) c.deref.ensures.value in
    let two = ap (λ (l : List Bool). length l) c.in_ok-push_actors.ensures in
    let none = ap (λ (l : List Bool). length l) c.new-acts.ensures.items in
    let many = ap size c.root.ensures.value in
    omega (arith, one, two, none, many, length-append c.new-acts.result.items (actors p), length-actors p, c.size.ensures.value, c.size.ensures.most)

pub returns-clause-wanted : goal.returns-clause-wanted
returns-clause-wanted c =
    let held = c.args.held.now in let on = c.args.signals in let a = c.args.agent in let node = c.wanting_node.result in
    let p : Plain = slice_index_or held.game.trees a (Does Carrying) in
    let whole : plain_of c.tree_of-tree.result.now ≡ p = sym c.tree_of-tree.ensures.value ∙ ap (λ (ts : List Plain). slice_index_or ts a (Does Carrying)) c.level.ensures.trees in
    let acts : c.deref.result.now ≡ actors p =
    c.deref.ensures.value ∙ c.in_ok-push_actors.ensures ∙ ap (λ (l : List Bool). l ++ actors (plain c.root.result.now)) c.new-acts.ensures.items ∙ ap actors (c.root.ensures.value ∙ whole) in
    let answers : c.deref-2.result.now ≡ answers_under held on a = c.deref-2.ensures.value ∙ c.in_ok-answers.ensures in
    let few : size p ≤ 255 = let same = ap size whole in omega (arith, same, c.size.ensures.value, c.size.ensures.most) in
    let is : IsWantingNode (actors p) (answers_under held on a) node =
    subst (λ (l : List Bool). IsWantingNode l (answers_under held on a) node) acts (subst (λ (l : List (Option Status)). IsWantingNode c.deref.result.now l node) answers c.wanting_node.ensures) in
    wanted (sight held.position.world on a) p (slice_index_or held.position.memories a []) node few is
