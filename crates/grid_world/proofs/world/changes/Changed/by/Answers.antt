use Rattle.std.proofs.Common.{◌∙◌, sym}
use Rattle.grid_world.specs.declared.cell.Intent.TheVariants.{Stay}
use Rattle.grid_world.proofs.Applied.{apply_all-left, length-apply}
use Rattle.grid_world.proofs.world.changes.Changed.by.Goals as goal

pub agents-preserved : goal.agents-preserved
agents-preserved c =
    rw c.in_ok-apply.ensures.world (
      length-apply c.agents.after.0 c.args.signals c.agents.number _ ∙ c.agents.invariant.0,
      c.in_ok-apply.ensures.before ∙ c.agents.invariant.1,
      sym (apply_all-left c.agents.after.0 c.args.signals c.agents.number c.args.intents.now Stay c.agents-test.true) ∙ c.agents.invariant.2,
    )
