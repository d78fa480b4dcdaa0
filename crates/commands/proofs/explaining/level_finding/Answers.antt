use Rattle.std.proofs.Common.{inl, inr}
use Rattle.commands.proofs.explaining.level_finding.Goals as goal

pub returns-in-Ok-clause-text : goal.returns-in-Ok-clause-text
returns-in-Ok-clause-text c = elim c.reasoned.ensures.text [ inl m ↦ inl m | inr h ↦ inr (c.in-Ok.reason, c.in-Ok.ensures, h) ]
