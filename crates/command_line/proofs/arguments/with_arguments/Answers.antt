use Rattle.std.proofs.Common.{arith, rules, ◌∙◌}
use Rattle.std.proofs.lemmas.Grind.{common_steps}
use Rattle.std.proofs.lemmas.List.Sums.{fold_more}
use Rattle.command_line.proofs.arguments.with_arguments.Goals as goal

pub loop-argument-preserved : goal.loop-argument-preserved
loop-argument-preserved c = record {
  app = c.in_ok-command.ensures.shape c.argument_of.ensures.local ∙ grind (arith, common_steps, fold_more);
  local = search rules;
}
