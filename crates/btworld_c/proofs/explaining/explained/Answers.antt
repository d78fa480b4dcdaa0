use Rattle.std.proofs.Common.{◌≡◌, ◌∙◌, ◌++◌, Option, Some, inr, ap, subst}
use Rattle.std.specs.Prelude.{IfSome}
use Rattle.fault_reasons.specs.declared.reason.Reason.{Reason}
use Rattle.fault_reasons.specs.Reasons.{reason_text, IsFirstReason}
use Rattle.btworld_c.proofs.explaining.explained.Goals as goal

pub returns : goal.returns
returns c =
    let reason : Reason = c.in-Some.reason in
    let found : c.in_ok-reason.field-0 ≡ Some reason = cc in
    let first : IsFirstReason c.args.level.now c.args.script.now reason =
    subst (λ (o : Option Reason). IfSome o (IsFirstReason c.args.level.now c.args.script.now)) found c.in_ok-reason.ensures.reason in
    inr (reason, first, c.in_ok-push_reason.ensures ∙ ap (λ l. l ++ reason_text reason) c.new-text.ensures.items)
