use Rattle.std.proofs.Common.{◌∙◌, ◌++◌, ap}
use Rattle.level_text.specs.Games.{spelled_game}
use Rattle.commands.specs.Texts.{digests_head}
use Rattle.commands.proofs.Compared.{digests_are}
use Rattle.commands.proofs.digests.digests.Goals as goal

pub returns-clause-ok : goal.returns-clause-ok
returns-clause-ok c =
    let opened = c.in_ok-opened.opened in
    digests_are (spelled_game c.args.level.now c.args.script.now) opened.game opened.level_digest opened.script_digest c.args.frames c.push_head.new.text.items c.push_lines.new.text.items
    c.in_ok-opened.ensures.game c.in_ok-opened.ensures.level c.in_ok-opened.ensures.script
    (c.in_ok-push_head.ensures ∙ ap (λ l. l ++ digests_head opened.level_digest opened.script_digest) c.new-text.ensures.items) c.in_ok-push_lines.ensures.ok
