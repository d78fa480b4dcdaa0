use Rattle.commands.proofs.Stepped.{stepped}
use Rattle.commands.proofs.opening.step.Goals as goal

pub returns-in-Ok-clause-ok : goal.returns-in-Ok-clause-ok
returns-in-Ok-clause-ok c = λ g h. stepped g c.args.game.now c.step_by_script.new.game c.in-Ok.ensures.ok h
