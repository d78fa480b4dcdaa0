use Rattle.std.proofs.Common.{◌≡◌, ◌++◌, reverse}
use Rattle.fiber_stack.specs.Links.{chunks}
use Rattle.fiber_stack.proofs.link.Link.copy_in.Given as goal

abbrev pub invariant-chunks : goal.invariant-chunks
invariant-chunks g l = reverse (chunks l.rest) ++ chunks l.turned ≡ reverse (chunks l.self)
