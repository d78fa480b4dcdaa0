use Rattle.std.proofs.Common.{ap, sym, ◌∙◌}
use Rattle.bt_nodes.specs.Bounds.{bounds}
use Rattle.bt_nodes.specs.Trees.{plain_of}
use Rattle.bt_tick.specs.Fitting.{behind}
use Rattle.bt_tick.proofs.Fitting.{some_left, none_fits}
use Rattle.bt_tick.proofs.memory.Memory.fits.Goals as goal

pub returns-in-Some : goal.returns-in-Some
returns-in-Some g c =
    some_left (plain_of c.args.tree.now) c.args.self.now c.deref.result.now (c.deref.ensures.value ∙ c.self.view_is) c.in-Some.rest.now c.is_empty.result
    (ap (λ p. behind (bounds p) c.deref.result.now) (sym c.root.ensures.value) ∙ c.in-Some.ensures) c.is_empty.ensures

pub returns-in-None : goal.returns-in-None
returns-in-None g c =
    none_fits (plain_of c.args.tree.now) c.args.self.now c.deref.result.now (c.deref.ensures.value ∙ c.self.view_is)
    (ap (λ p. behind (bounds p) c.deref.result.now) (sym c.root.ensures.value) ∙ c.in-None.ensures)
