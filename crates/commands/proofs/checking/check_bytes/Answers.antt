use Rattle.std.proofs.Common.{◌∙◌}
use Rattle.command_line.proofs.Statuses.{on_err_map}
use Rattle.commands.proofs.Compared.{line_part}
use Rattle.commands.proofs.checking.check_bytes.Goals as goal

pub returns-clause-part : goal.returns-clause-part
returns-clause-part g c =
    on_err_map c.put.result _ _ (line_part _ _ _ _ _ c.in_ok-level.ensures.ok (c.deref.ensures.value ∙ c.in_ok-line.ensures)) c.put.ensures.err
