use Rattle.std.proofs.Common.{◌∙◌, ap, sym}
use Rattle.bt_nodes.specs.declared.node.Status.{Status}
use Rattle.bt_nodes.specs.Plain.{plain}
use Rattle.bt_nodes.specs.Trees.{plain_of}
use Rattle.bt_tick.specs.Views.{view_of}
use Rattle.stepping.specs.Observing.{Seen, seen, wanting}
use Rattle.stepping.proofs.Parts.{acted, as_leaf, unwanted}
use Rattle.stepping.proofs.observer.Observer.act.Goals as goal

pub returns-in_ok-want : goal.returns-in_ok-want
returns-in_ok-want c n =
    let a : Seen = seen c.args.self.now.answers.now c.args.at.now in
    as_leaf (plain_of c.args.self.now.tree.now) (view_of c.args.self.now.view.now) (plain c.args.node.now) n _ _ _ c.requires.leaf
    (acted (plain_of c.args.self.now.tree.now) (view_of c.args.self.now.view.now) (plain c.args.node.now) n c.in_ok-status.status c.in_ok-status.intent _ _
    c.in_ok-status.ensures c.requires.room
    (c.in_ok-want.ensures c.args.self.now.answers.now ∙ ap (λ (st : Status). let x : Seen = record a { state = wanting st c.in_ok-status.intent a.state } in x) (sym c.in-Running.is)))

pub returns-in_default : goal.returns-in_default
returns-in_default c n =
    as_leaf (plain_of c.args.self.now.tree.now) (view_of c.args.self.now.view.now) (plain c.args.node.now) n _ _ _ c.requires.leaf
    (acted (plain_of c.args.self.now.tree.now) (view_of c.args.self.now.view.now) (plain c.args.node.now) n c.in_ok-status.status c.in_ok-status.intent _ _
    c.in_ok-status.ensures c.requires.room (unwanted c.in_ok-status.status c.in_ok-status.intent _ c.in_default.not-Running))
