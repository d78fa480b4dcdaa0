use Rattle.std.proofs.Common.{rules, ◌∙◌}
use Rattle.command_line.proofs.Listed.{listed_more}
use Rattle.command_line.proofs.arguments.with_subcommands.Goals as goal

pub loop-subcommand-preserved : goal.loop-subcommand-preserved
loop-subcommand-preserved c =
    c.in_ok-command.ensures.shape c.in_ok-subcommand_of.ensures.local
    ∙ listed_more _ _ _ c.args.subcommands.now c.loop-subcommand.subcommand-index _ (search rules)
    c.loop-subcommand.invariant c.in_ok-subcommand_of.ensures.app
