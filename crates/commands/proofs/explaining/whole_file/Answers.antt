use Rattle.std.proofs.Common.{inr}
use Rattle.std.proofs.lemmas.Result.{IfErr-weaker}
use Rattle.commands.proofs.Explained.{journal_told}
use Rattle.commands.proofs.Written.{on_ok_map}
use Rattle.commands.proofs.explaining.whole_file.Goals as goal

pub returns-in-Ok-clause-whole : goal.returns-in-Ok-clause-whole
returns-in-Ok-clause-whole c = on_ok_map c.whole_log.result _ _ (λ h. (c.in-Ok.bytes.now, c.in-Ok.ensures.log, h)) c.whole_log.ensures.whole

pub returns-in-Ok-clause-fault : goal.returns-in-Ok-clause-fault
returns-in-Ok-clause-fault c = IfErr-weaker c.whole_log.result _ _ (λ finding h. inr (c.in-Ok.bytes.now, c.in-Ok.ensures.log, h)) c.whole_log.ensures.fault

pub returns-in-Err-clause-fault : goal.returns-in-Err-clause-fault
returns-in-Err-clause-fault c =
    journal_told c.args.file.bytes.now c.args.session.now c.in-Err.fault c.journal_finding.result.fault c.in-Err.ensures.fault c.journal_finding.ensures
