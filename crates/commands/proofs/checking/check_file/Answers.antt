use Rattle.command_line.proofs.Statuses.{on_err, on_err_map}
use Rattle.commands.proofs.Doing.{checked_part}
use Rattle.commands.proofs.Written.{on_ok_map}
use Rattle.commands.proofs.checking.check_file.Goals as goal

pub returns-clause-ok : goal.returns-clause-ok
returns-clause-ok g c = on_ok_map c.check_bytes.result _ _ (λ h. (c.deref.result.now, h)) c.check_bytes.ensures.ok

pub returns-clause-part : goal.returns-clause-part
returns-clause-part g c =
    on_err_map c.check_bytes.result _ _ (λ part. checked_part _ _ c.deref.result.now part c.check_bytes.ensures.refused) c.check_bytes.ensures.part
