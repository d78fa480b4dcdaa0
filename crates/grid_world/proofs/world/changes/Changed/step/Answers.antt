use Rattle.std.proofs.Common.{is_none, ◌<◌, ◌∙◌, refl, sym, ap, length}
use Rattle.grid_world.specs.declared.cell.Agent.{Agent}
use Rattle.grid_world.specs.Grid.{point_of}
use Rattle.grid_world.specs.Walks.{next}
use Rattle.grid_world.specs.World.{point}
use Rattle.grid_world.proofs.Changed.{IsWorld-moved, agent_of-at, none_found, is_none-some, moved-there, moved-shut, moved-taken}
use Rattle.grid_world.proofs.world.changes.Changed.step.Goals as goal
use Rattle.grid_world.proofs.world.changes.Changed.step.Goals.{else-is_open-via-then-is_open+else-is_none, else-is_open-via-else-is_open}

pub invariant_of-self : goal.invariant_of-self
invariant_of-self c =
    let inside = c.self.inside in
    let agent = c.index-agent.result.now in
    let new : Agent = record agent { x = c.in-Some.x; y = c.in-Some.y } in
    let within : c.args.number < length inside.crew.items = rw (← c.self.view_is) at c.requires in
    IsWorld-moved inside.ground.now inside.has_item.0 inside.crew.items c.self.invariant c.args.number new c.args.signals within
    (sym c.is_open.ensures ∙ c.if-is_open.true)
    (rw (c.deref.ensures.value) at
    (sym c.agent_on.ensures.value ∙ none_found c.agent_on.result c.if-is_none.ensures))

pub returns-then-is_none : goal.returns-then-is_none
returns-then-is_none c =
    let inside = c.self.inside in
    let agent = c.index-agent.result.now in
    let p = point c.in-Some.x c.in-Some.y in
    let within : c.args.number < length inside.crew.items = rw (← c.self.view_is) at c.requires in
    rw (← c.self.view_is) (record {
      world = moved-there inside.ground.now inside.has_item.0 inside.crew.items c.args.number agent within c.index-agent.ensures c.args.signals _ p
          (ap (λ b. next c.args.dir (point_of b))
          (agent_of-at inside.ground.now inside.has_item.0 inside.crew.items c.args.number agent within c.index-agent.ensures) ∙ sym c.in-Some.ensures)
          (sym c.is_open.ensures ∙ c.if-is_open.true)
          (rw (c.deref.ensures.value) at
          (sym c.agent_on.ensures.value ∙ none_found c.agent_on.result c.if-is_none.ensures));
      before = refl;
    })

pub returns-else-is_open : goal.returns-else-is_open
returns-else-is_open c =
    let inside = c.self.inside in
    let agent = c.index-agent.result.now in
    let p = point c.in-Some.x c.in-Some.y in
    let within : c.args.number < length inside.crew.items = rw (← c.self.view_is) at c.requires in
    let leads = ap (λ b. next c.args.dir (point_of b))
    (agent_of-at inside.ground.now inside.has_item.0 inside.crew.items c.args.number agent within c.index-agent.ensures) ∙ sym c.in-Some.ensures in
    rw (← c.self.view_is) (record {
      world = elim c.else-is_open.branch [
        | else-is_open-via-then-is_open+else-is_none w ↦ moved-taken inside.ground.now inside.has_item.0 inside.crew.items c.args.number agent within c.index-agent.ensures c.args.signals _ p leads
            (rw (w.deref.ensures.value) at
            (ap is_none (sym w.agent_on.ensures.value)
            ∙ is_none-some w.agent_on.result w.if-is_none.ensures))
        | else-is_open-via-else-is_open w ↦ moved-shut inside.ground.now inside.has_item.0 inside.crew.items c.args.number agent within c.index-agent.ensures c.args.signals _ p leads
            (sym c.is_open.ensures ∙ w.if-is_open.false)
      ];
      before = refl;
    })
