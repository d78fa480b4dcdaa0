use Rattle.std.proofs.Common.{rules}
use Rattle.command_line.proofs.Entered.{read_from, asked_for, has_texts}
use Rattle.view_commands.specs.Program.{IsReading, program}
use Rattle.view_commands.proofs.Entered.{free}
use Rattle.view_commands.proofs.view_words_reading.read_view_words.Goals as goal

pub returns-in-Ok-clause-reading : goal.returns-in-Ok-clause-reading
returns-in-Ok-clause-reading c = read_from program free IsReading _ _ _ _ c.in_ok-command.ensures c.in-Ok.ensures.matches c.in-Ok.ensures.kinds (has_texts _ (search rules)) c.command_words.ensures.reading

pub returns-in-Err-clause-help : goal.returns-in-Err-clause-help
returns-in-Err-clause-help c = asked_for program free _ _ c.in-Err.error c.fault_of.result c.in_ok-command.ensures c.in-Err.ensures.kinds c.fault_of.ensures
