use Rattle.view_commands.proofs.OneLog.{one_log, no_fault}
use Rattle.view_commands.proofs.laws.logs_are_read_in_one_way.Goals as goal

pub returns-clause-one : goal.returns-clause-one
returns-clause-one c = one_log

pub returns-clause-either : goal.returns-clause-either
returns-clause-either c = no_fault
