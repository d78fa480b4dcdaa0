use Rattle.command_line.proofs.arguments.program_command.Goals as goal

pub returns : goal.returns
returns c = c.program_of.ensures
