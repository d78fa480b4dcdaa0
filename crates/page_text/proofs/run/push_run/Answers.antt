use Rattle.std.proofs.Common.{◌∙◌, ap}
use Rattle.log_text.specs.Text.{log_text_of}
use Rattle.page_text.proofs.Whole.{on_ok, run_is}
use Rattle.page_text.proofs.run.push_run.Goals as goal

pub returns : goal.returns
returns c =
    on_ok c.push_held-3.result _ _
    (run_is c.args.settings c.args.events.now c.args.done c.args.shown c.args.film.now c.deref.result.now c.deref-2.result.now c.args.page.now.items
    c.push_held.new.page.items c.push_held-2.new.page.items c.push_held-3.new.page.items
    (c.deref.ensures.value ∙ c.in_ok-log.ensures ∙ ap (log_text_of c.args.settings) c.first_behind.ensures)
    (c.deref-2.ensures.value ∙ c.in_ok-counts.ensures) c.in_ok-push_held.ensures c.in_ok-push_held-2.ensures)
    c.push_held-3.ensures
