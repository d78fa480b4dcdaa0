use Rattle.std.proofs.Common.{◌∙◌}
use Rattle.page_text.proofs.Whole.{jobs_are, on_ok}
use Rattle.page_text.proofs.jobs.push_jobs.Goals as goal

pub returns : goal.returns
returns c =
    on_ok c.push_ending.result _ _
    (jobs_are c.args.events.now c.args.done c.args.span c.deref.result.now c.deref-2.result.now c.args.page.now.items c.push_held.new.page.items
    c.push_held-2.new.page.items c.push_ending.new.page.items (c.deref.ensures.value ∙ c.in_ok-emits.ensures)
    (c.deref-2.ensures.value ∙ c.in_ok-slices.ensures) c.in_ok-push_held.ensures c.in_ok-push_held-2.ensures)
    c.push_ending.ensures
