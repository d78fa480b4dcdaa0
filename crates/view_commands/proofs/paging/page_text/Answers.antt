use Rattle.std.proofs.Common.{◌∙◌, ◌++◌, ap}
use Rattle.page_text.proofs.Whole.{in_three}
use Rattle.view_commands.proofs.paging.page_text.Goals as goal

pub returns : goal.returns
returns c =
    rw (← c.sources.view_is)
    (c.in_ok-extend_from_slice.ensures.items ∙ ap (λ l. l ++ c.sources.inside.live.now)
    (in_three c.sources.inside.name.now c.sources.inside.level.now c.sources.inside.script.now c.args.settings c.args.events.now c.args.filmed.now.done c.args.filmed.now.shown
    c.args.filmed.now.film.items c.args.frames c.new-page.result.items c.push_sources.new.page.items c.push_run.new.page.items c.push_jobs.new.page.items
    c.new-page.ensures.items c.in_ok-push_sources.ensures (rw c.deref.ensures.value at c.in_ok-push_run.ensures) c.in_ok-push_jobs.ensures))
