use Rattle.std.proofs.Common.{◌∙◌, sym, ap}
use Rattle.std.specs.Arc.{arc_value}
use Rattle.grid_world.specs.Grid.{Grid}
use Rattle.grid_world.specs.Ground.{emptied}
use Rattle.grid_world.proofs.Applied.{furnished_after}
use Rattle.grid_world.proofs.world.World.resolve.Goals as goal

pub invariant_of-self : goal.invariant_of-self
invariant_of-self c =
    rw (furnished_after (arc_value c.self.inside.ground) c.args.self.now c.in_ok-by.field-0.0 c.args.signals c.args.intents.now _ _
    c.in_ok-by.ensures.world (ap (λ (g : Grid). emptied g) (sym c.self.view_is))
    (rw c.in-Some.is at c.parts-items.ensures.items) c.parts-items.ensures.agents)
    c.parts-items.ensures.world

pub invariant_of-self-in-None : goal.invariant_of-self-in-None
invariant_of-self-in-None c =
    rw (furnished_after (arc_value c.self.inside.ground) c.args.self.now c.in_ok-by.field-0.0 c.args.signals c.args.intents.now _ _
    c.in_ok-by.ensures.world (ap (λ (g : Grid). emptied g) (sym c.self.view_is))
    (ap (λ (g : Grid). g.items) c.self.view_is ∙ sym c.in_ok-by.ensures.before ∙ rw c.in-None.is at c.parts-items.ensures.items) c.parts-items.ensures.agents)
    c.parts-items.ensures.world

pub returns-in-Some-clause-ok : goal.returns-in-Some-clause-ok
returns-in-Some-clause-ok c =
    furnished_after (arc_value c.self.inside.ground) c.args.self.now c.in_ok-by.field-0.0 c.args.signals c.args.intents.now _ _
    c.in_ok-by.ensures.world (ap (λ (g : Grid). emptied g) (sym c.self.view_is))
    (rw c.in-Some.is at c.parts-items.ensures.items) c.parts-items.ensures.agents
    ∙ c.in_ok-by.ensures.world

pub returns-in-None-clause-ok : goal.returns-in-None-clause-ok
returns-in-None-clause-ok c =
    furnished_after (arc_value c.self.inside.ground) c.args.self.now c.in_ok-by.field-0.0 c.args.signals c.args.intents.now _ _
    c.in_ok-by.ensures.world (ap (λ (g : Grid). emptied g) (sym c.self.view_is))
    (ap (λ (g : Grid). g.items) c.self.view_is ∙ sym c.in_ok-by.ensures.before ∙ rw c.in-None.is at c.parts-items.ensures.items) c.parts-items.ensures.agents
    ∙ c.in_ok-by.ensures.world
