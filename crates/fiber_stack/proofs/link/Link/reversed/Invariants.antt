use Rattle.std.proofs.Common.{◌≡◌, ◌++◌, reverse}
use Rattle.fiber_stack.specs.Links.{chunks}
use Rattle.fiber_stack.proofs.link.Link.reversed.Given as goal

abbrev pub invariant-boxes : goal.invariant-boxes
invariant-boxes g l = reverse (chunks l.self) ++ chunks l.turned ≡ reverse (chunks l.initial.self)
