use Rattle.page_text.proofs.Whole.{on_ok, sources_are}
use Rattle.page_text.proofs.sources.push_sources.Goals as goal

pub returns : goal.returns
returns c =
    on_ok c.push_held-2.result _ _
    (sources_are c.args.name.now c.args.level.now c.args.script.now c.args.page.now.items c.push_named.new.page.items c.push_held.new.page.items
    c.push_held-2.new.page.items c.in_ok-push_named.ensures c.in_ok-push_held.ensures)
    c.push_held-2.ensures
