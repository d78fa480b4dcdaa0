use Rattle.std.proofs.Common.{◌≡◌}
use Rattle.bt_nodes.specs.Trees.{plain_of}
use Rattle.bt_tick.specs.Thinking.{Thinking}
use Rattle.bt_tick.specs.Views.{view_of}
use Rattle.game_rules.specs.Thought.{ways}
use Rattle.stepping.proofs.answers.all_answers.Given as goal

abbrev pub invariant-asked : goal.invariant-asked
invariant-asked l = record {
  thinks : Thinking (view_of l.fn.view) (plain_of l.tree) l.fn.memory l._asked l.outcome;
  answers : l.answers.items ≡ ways (view_of l.fn.view) (plain_of l.tree) l.fn.memory l._asked;
}
