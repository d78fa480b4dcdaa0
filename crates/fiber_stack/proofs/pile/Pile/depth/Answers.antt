use Rattle.std.proofs.Common.{◌∙◌, ap, length}
use Rattle.fiber_stack.specs.Links.{chunks}
use Rattle.fiber_stack.proofs.Lists.{long_as}
use Rattle.fiber_stack.proofs.pile.Pile.depth.Goals as goal

pub returns : goal.returns
returns g c =
    long_as c.self.inside.depth c.self.inside.free (chunks c.self.inside.top) c.self.invariant.1 ∙ ap length c.self.view_is
