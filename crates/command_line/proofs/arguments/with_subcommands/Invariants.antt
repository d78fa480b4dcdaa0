use Rattle.std.proofs.Common.{◌≡◌, take}
use Rattle.std.specs.Prelude.{fold}
use Rattle.clap.specs.Words.{app_of}
use Rattle.command_line.specs.Table.{with_listed}
use Rattle.command_line.proofs.arguments.with_subcommands.Given as goal

abbrev pub invariant-loop-subcommand : goal.invariant-loop-subcommand
invariant-loop-subcommand l =
    app_of l.command ≡ fold with_listed (app_of l.initial.command) (take l.subcommand-index l.subcommands)
