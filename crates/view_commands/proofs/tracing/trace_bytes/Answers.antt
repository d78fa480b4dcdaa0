use Rattle.std.proofs.Common.{◌∙◌}
use Rattle.command_line.proofs.Statuses.{on_err_map}
use Rattle.view_commands.proofs.Traced.{on_ok_map, whole_text, first_text}
use Rattle.view_commands.proofs.tracing.trace_bytes.Goals as goal

pub returns-clause-ok : goal.returns-clause-ok
returns-clause-ok g c = on_ok_map c.put.result _ _
    (whole_text _ _ _ _ _ _ c.in-Ok.ensures.ok c.deref.ensures.value (c.deref-2.ensures.value ∙ c.in-Ok-trace.ensures) _ _) c.put.ensures.ok

pub returns-clause-part : goal.returns-clause-part
returns-clause-part g c = on_err_map c.put.result _ _
    (first_text _ _ _ _ _ _ c.in-Ok.ensures.ok c.deref.ensures.value (c.deref-2.ensures.value ∙ c.in-Ok-trace.ensures) _ _) c.put.ensures.err
