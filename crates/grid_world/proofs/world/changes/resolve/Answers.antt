use Rattle.std.proofs.Common.{◌≡◌, ◌∙◌, sym, ap}
use Rattle.std.specs.Arc.{arc_value}
use Rattle.grid_world.specs.Grid.{Grid}
use Rattle.grid_world.specs.Ground.{emptied}
use Rattle.grid_world.proofs.Applied.{furnished_after}
use Rattle.grid_world.proofs.world.changes.resolve.Goals as goal
use Rattle.grid_world.proofs.world.changes.resolve.Goals.{in-Some, in-None+in_ok-has_item-in-None}

pub invariant_of-result : goal.invariant_of-result
invariant_of-result c =
    let items : c.match-items.has_item ≡ c.in_ok-by.field-0.0.items = elim c.match-items.branch [
      | in-Some w ↦ rw w.has_item-is (rw w.in-Some.is at c.parts-items.ensures.items)
      | in-None+in_ok-has_item-in-None w ↦ rw (w.has_item-is, w.in_ok-has_item-in-None.ensures) (ap (λ (g : Grid). g.items) c.world.view_is ∙ sym c.in_ok-by.ensures.before ∙ rw w.in-None.is at c.parts-items.ensures.items)
    ] in
    rw (
      c.in_ok-try_clone.ensures,
      furnished_after (arc_value c.world.inside.ground) c.args.world.now c.in_ok-by.field-0.0 c.args.signals c.args.intents.now _ _
          c.in_ok-by.ensures.world (ap (λ (g : Grid). emptied g) (sym c.world.view_is)) items c.parts-items.ensures.agents,
    )
    c.parts-items.ensures.world

pub returns-clause-ok : goal.returns-clause-ok
returns-clause-ok c =
    let items : c.match-items.has_item ≡ c.in_ok-by.field-0.0.items = elim c.match-items.branch [
      | in-Some w ↦ rw w.has_item-is (rw w.in-Some.is at c.parts-items.ensures.items)
      | in-None+in_ok-has_item-in-None w ↦ rw (w.has_item-is, w.in_ok-has_item-in-None.ensures) (ap (λ (g : Grid). g.items) c.world.view_is ∙ sym c.in_ok-by.ensures.before ∙ rw w.in-None.is at c.parts-items.ensures.items)
    ] in
    rw c.in_ok-try_clone.ensures (furnished_after (arc_value c.world.inside.ground) c.args.world.now c.in_ok-by.field-0.0 c.args.signals c.args.intents.now _ _
    c.in_ok-by.ensures.world (ap (λ (g : Grid). emptied g) (sym c.world.view_is)) items c.parts-items.ensures.agents
    ∙ c.in_ok-by.ensures.world)
