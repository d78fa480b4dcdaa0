use Rattle.std.proofs.Common.{◌≡◌, ◌+◌}
use Rattle.bt_nodes.specs.Plain.{plain}
use Rattle.bt_tick.specs.Children.{children_of, child_number}
use Rattle.bt_tick.proofs.machine.Machine.open_star.Given as goal

-- the number of the child that is passed next
abbrev pub invariant-passed : goal.invariant-passed
invariant-passed g l = l.at ≡ child_number l._child (children_of (plain l.node)) (l.number + 1)
