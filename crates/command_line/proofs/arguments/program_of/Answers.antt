use Rattle.std.proofs.Common.{◌∙◌, ap, fold}
use Rattle.std.proofs.lemmas.Result.{IfOk-weaker}
use Rattle.command_line.specs.Table.{with_listed}
use Rattle.command_line.proofs.arguments.program_of.Goals as goal

pub returns : goal.returns
returns c =
    IfOk-weaker c.with_subcommands.result _ _ (λ _ h. h ∙ ap (λ a. fold with_listed a c.args.subcommands.now) c.top_command.ensures) c.with_subcommands.ensures
