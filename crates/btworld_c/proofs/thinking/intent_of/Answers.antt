use Rattle.std.proofs.Common.{ap, subst, arith}
use Rattle.std.specs.declared.alloc.Global.{Global}
use Rattle.bt_nodes.specs.Trees.{plain_of}
use Rattle.game_rules.specs.Thought.{Thought}
use Rattle.bt_tick.specs.Thinking.{Thinking}
use Rattle.bt_tick.specs.Views.{view_of}
use Rattle.bt_tick.specs.declared.tick.Outcome.{Outcome}
use Rattle.bt_tick.proofs.CutTicks.{thinking_ended}
use Rattle.stepping.proofs.Asked.{no_more}
use Rattle.btworld_c.proofs.thinking.intent_of.Goals as goal

pub returns-in-Ended : goal.returns-in-Ended
returns-in-Ended c =
    let v = view_of c.args.view.now in
    let p = plain_of c.args.tree.now in
    ap (λ (t : Thought). t.intent) (thinking_ended v p c.args.memory.now c.asked._asked c.in-Ended._status c.in-Ended._memory c.in-Ended.intent
    (subst (λ (o : Outcome Global Global). Thinking v p c.args.memory.now c.asked._asked o) c.in-Ended.is c.asked.invariant))

pub unreachable-requires : goal.unreachable-requires
unreachable-requires c =
    no_more (view_of c.args.view.now) (plain_of c.args.tree.now) c.args.memory.now c.asked._asked c.asked.outcome c.asked.invariant
    (omega (arith, c.asked-test.false, c.size-asked-end.ensures.value))
