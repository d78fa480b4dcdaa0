use Rattle.std.proofs.Common.{◌∙◌, ℕ, Bool, ap, subst, sym}
use Rattle.std.specs.Prelude.{slice_index_or}
use Rattle.bt_nodes.specs.declared.leaf.Leaf.TheVariants.{Carrying}
use Rattle.bt_nodes.specs.Plain.{Does}
use Rattle.stepping.specs.Played.{answers_under}
use Rattle.btworld_c.specs.Intents.{TellsGranted, IsWantingNode, actors, wanted_by}
use Rattle.btworld_c.proofs.Intents.{intent_there}
use Rattle.btworld_c.proofs.intent_reading.wish.Goals as goal

pub returns : goal.returns
returns c =
    let p = c.args.held.now in let on = c.args.signals in let a = c.args.agent in let told = c.told.ensures in
    record {
      there = c.requires;
      deed = told.deed;
      direction = told.direction;
      agent = told.agent;
      column = told.column;
      row = told.row;
      granted = subst (λ (b : Bool). TellsGranted p on a b) (sym told.granted) c.in_ok-granted.ensures;
      wanted =
          intent_there p.position.world on p.game.trees p.position.memories c.intents.ensures.one_each a c.requires ∙ c.in_ok-node.ensures.wanted
          ∙ ap (λ (n : ℕ). wanted_by p on a n) (sym told.node);
      node = subst (λ (n : ℕ). IsWantingNode (actors (slice_index_or p.game.trees a (Does Carrying))) (answers_under p on a) n) (sym told.node) c.in_ok-node.ensures.node;
    }
