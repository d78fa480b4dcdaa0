use Rattle.std.proofs.Common.{◌≡◌, ◌∙◌, subst, []}
use Rattle.std.specs.declared.alloc.Global.{Global}
use Rattle.bt_nodes.specs.Plain.{plain}
use Rattle.bt_nodes.specs.Trees.{plain_of}
use Rattle.game_rules.specs.Thought.{ticked}
use Rattle.bt_tick.specs.Views.{view_of}
use Rattle.bt_tick.specs.Outcome.{IsOutcome}
use Rattle.bt_tick.specs.declared.tick.Outcome.{Outcome}
use Rattle.stepping.proofs.Leaves.{leaf_of, leaf_told}
use Rattle.stepping.proofs.leaf.leaf.Goals as goal

pub returns-in-Ok-Ended : goal.returns-in-Ok-Ended
returns-in-Ok-Ended c =
    let v = view_of c.args.view.now in
    let p = plain_of c.in-Ok.tree in
    let m = c.in_ok-memory.memory in
    let same : p ≡ plain c.args.node.now = c.in-Ok.ensures.ok ∙ c.in_ok-copy_in.ensures in
    let o = subst (λ (x : Outcome Global Global). IsOutcome x (ticked v p m [])) c.in-Ok-Ended.field-0-is c.in-Ok-Ended.ensures.outcome in
    let leaf = leaf_of (plain c.args.node.now) c.requires.leaf in
    leaf_told v p leaf.0 (same ∙ leaf.1) m (plain c.args.node.now) c.in-Ok-Ended.status c.in-Ok-Ended.intent same o.0 o.2
