use Rattle.bt_nodes.specs.Trees.{plain_of}
use Rattle.bt_tick.specs.Thinking.{Thinking}
use Rattle.bt_tick.specs.Views.{view_of}
use Rattle.btworld_c.proofs.thinking.intent_of.Given as goal

abbrev pub invariant-asked : goal.invariant-asked
invariant-asked l = Thinking (view_of l.fn.view) (plain_of l.tree) l.fn.memory l._asked l.outcome
