use Rattle.level_text.specs.Games.{spelled_game}
use Rattle.commands.proofs.Compared.{state_is_told}
use Rattle.commands.proofs.states.state.Goals as goal

pub returns-in-Ok-clause-ok : goal.returns-in-Ok-clause-ok
returns-in-Ok-clause-ok c =
    state_is_told (spelled_game c.args.level.now c.args.script.now) c.in_ok-opened.opened.game c.step_all.new.game c.args.frame c.in-Ok.text.items c.in_ok-opened.ensures.game
    c.in_ok-step_all.ensures.ok c.in-Ok.ensures.text
