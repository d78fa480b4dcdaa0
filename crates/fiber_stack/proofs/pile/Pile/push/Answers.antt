use Rattle.std.proofs.Common.{◌%◌, ◌∙◌, ap, sym, length, arith}
use Rattle.fiber_stack.specs.Links.{chunks}
use Rattle.fiber_stack.proofs.Lists.{long_as, no_room}
use Rattle.fiber_stack.proofs.pile.Pile.push.Goals as goal

pub overflow_add-self : goal.overflow_add-self
overflow_add-self g c =
    let is = long_as c.self.inside.depth c.self.inside.free (chunks c.self.inside.top) c.self.invariant.1 ∙ ap length c.self.view_is in
    let low = c.requires in
    omega (arith, is, low)

pub returns-in_default-clone-clause-room : goal.returns-in_default-clone-clause-room
returns-in_default-clone-clause-room g c some =
    let is = long_as c.self.inside.depth c.self.inside.free (chunks c.self.inside.top) c.self.invariant.1 ∙ ap length c.self.view_is in
    absurd (some (ap (λ n. n % 8) (sym is)
    ∙ no_room c.self.inside.depth c.self.inside.free (chunks c.self.inside.top) c.self.invariant.1 (omega arith)))

pub returns-in-Err-clause-room : goal.returns-in-Err-clause-room
returns-in-Err-clause-room g c some =
    let is = long_as c.self.inside.depth c.self.inside.free (chunks c.self.inside.top) c.self.invariant.1 ∙ ap length c.self.view_is in
    absurd (some (ap (λ n. n % 8) (sym is)
    ∙ no_room c.self.inside.depth c.self.inside.free (chunks c.self.inside.top) c.self.invariant.1 (omega arith)))
