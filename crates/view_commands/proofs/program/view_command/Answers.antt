use Rattle.view_commands.proofs.Done.{paged, paged_in_part, traced, traced_in_part}
use Rattle.view_commands.proofs.program.view_command.Goals as goal

pub returns-in-Ok-clause-traced : goal.returns-in-Ok-clause-traced
returns-in-Ok-clause-traced g c = λ frames asks zero. traced _ _ _ _ _ frames c.in-Ok.ensures.reading _ asks zero c.end_with.ensures c.act-done.ensures.ok

pub returns-in-Ok-clause-traced_part : goal.returns-in-Ok-clause-traced_part
returns-in-Ok-clause-traced_part g c = λ frames asks. traced_in_part _ _ _ _ _ frames c.in-Ok.ensures.reading asks c.act-done.ensures.ok c.act-done.ensures.part

pub returns-in-Ok-clause-paged : goal.returns-in-Ok-clause-paged
returns-in-Ok-clause-paged g c = λ frames asks zero. paged _ _ _ _ _ frames c.in-Ok.ensures.reading _ asks zero c.end_with.ensures c.act-done.ensures.ok

pub returns-in-Ok-clause-paged_part : goal.returns-in-Ok-clause-paged_part
returns-in-Ok-clause-paged_part g c = λ frames asks. paged_in_part _ _ _ _ _ frames c.in-Ok.ensures.reading asks c.act-done.ensures.ok c.act-done.ensures.part
