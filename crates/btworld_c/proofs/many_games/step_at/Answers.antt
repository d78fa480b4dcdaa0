use Rattle.btworld_c.specs.Games.{IsSteppedIn, IsNotStepped}
use Rattle.btworld_c.proofs.Many.{changed_at, others_stay}
use Rattle.btworld_c.proofs.many_games.step_at.Goals as goal

pub returns-clause-ok : goal.returns-clause-ok
returns-clause-ok c = λ is.
    changed_at (IsSteppedIn c.args.mask) c.args.games.now c.args.number c.index-games-number.result c.btworld_step.new.game c.requires (c.btworld_step.ensures.ok is)

pub returns-clause-refused : goal.returns-clause-refused
returns-clause-refused c = λ is.
    changed_at (IsNotStepped c.args.mask) c.args.games.now c.args.number c.index-games-number.result c.btworld_step.new.game c.requires (c.btworld_step.ensures.refused is)

pub returns-clause-others : goal.returns-clause-others
returns-clause-others c = λ k other. others_stay c.args.games.now c.args.number c.btworld_step.new.game k other
