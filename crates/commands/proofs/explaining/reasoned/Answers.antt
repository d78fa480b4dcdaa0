use Rattle.commands.specs.Explaining.{IsTold}
use Rattle.commands.proofs.ReasonsTold.{told_text}
use Rattle.commands.proofs.explaining.reasoned.Goals as goal

pub returns-clause-text : goal.returns-clause-text
returns-clause-text c =
    told_text c.reason_text-text.result c.told.result.text _ (λ text. IsTold c.args.name.now c.args.reason.now text.items) c.reason_text-text.ensures c.told.ensures.text
