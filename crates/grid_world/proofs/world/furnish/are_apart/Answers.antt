use Rattle.std.proofs.Common.{◌∙◌, sym, ap, subst, take_all, is_some, false}
use Rattle.grid_world.specs.World.{AreApart}
use Rattle.grid_world.proofs.Furnished.{one_more_apart, one_beside}
use Rattle.grid_world.proofs.Changed.{none_found}
use Rattle.grid_world.proofs.world.furnish.are_apart.Goals as goal

pub returns-then-is_some-clause-other : goal.returns-then-is_some-clause-other
returns-then-is_some-clause-other c _ =
    one_beside c.args.agents.now c.agents.number (record { x = 0; y = 0; carrying = false }) c.agents-test.true (ap is_some (sym c.agent_on.ensures.value) ∙ sym c.is_some.ensures ∙ c.if-is_some.true)

pub agents-preserved : goal.agents-preserved
agents-preserved c =
    one_more_apart c.args.agents.now c.agents.number (record { x = 0; y = 0; carrying = false }) c.agents-test.true c.agents.invariant
    (sym c.agent_on.ensures.value ∙ none_found c.agent_on.result (sym c.is_some.ensures ∙ c.if-is_some.false))

pub returns-clause-apart : goal.returns-clause-apart
returns-clause-apart c _ = subst AreApart (take_all c.agents.number c.args.agents.now c.agents-test.false) c.agents.invariant
