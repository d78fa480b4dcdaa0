use Rattle.std.proofs.Common.{◌≡◌, ◌<◌, ◌∙◌, ap, sym, subst, length, ℕ, List, Vec, Global}
use Rattle.std.specs.Arc.{arc_value}
use Rattle.grid_world.specs.Grid.{Grid}
use Rattle.grid_world.specs.Intents.{apply_all}
use Rattle.bt_nodes.specs.declared.node.Status.{Status}
use Rattle.game_rules.specs.Game.{Game}
use Rattle.frame_state.specs.declared.kept_memory.KeptMemory.{KeptMemory}
use Rattle.frame_state.specs.Names.{FrameOf}
use Rattle.frame_state.specs.Contents.{statuses_in, IsAfter}
use Rattle.frame_parts.specs.Distances.{DistanceCacheOf}
use Rattle.frame_state.specs.Logic.{AreGathered}
use Rattle.frame_state.proofs.Turning.{an_intent_each, is_after}
use Rattle.frame_state.proofs.gathered.Gathered.turned.Goals as goal

pub resolved-requires : goal.resolved-requires
resolved-requires c =
    let x = c.self.inside in
    ap length c.deref.ensures.value
    ∙ an_intent_each (arc_value x.start) x.intents.items (arc_value x.statuses).items (arc_value x.memories).items x.found.items c.self.invariant
    ∙ ap (λ (p : FrameOf). length p.game.trees) (sym c.deref-start.ensures) ∙ sym c.world.ensures.agents

-- what a turn keeps
abbrev Keeps : Game → ℕ → Grid → List (List ℕ) → List Status → Grid → Type 0
Keeps g f world memories statuses known = (0 < f) × IsAfter g f world memories × (statuses ≡ statuses_in g f) × (known ≡ g.world) × Unit {0}

pub invariant_of-result : goal.invariant_of-result
invariant_of-result c =
    let x = c.self.inside in
    let p : FrameOf = c.deref-start.result.now in
    let statuses = (arc_value x.statuses).items in
    let memories = (arc_value x.memories).items in
    let are = subst (λ (q : FrameOf). AreGathered q x.intents.items statuses memories x.found.items) (sym c.deref-start.ensures) c.self.invariant in
    let later = subst (λ (n : ℕ). 0 < n) c.frame.ensures.value c.frame.ensures.positive in
    let world =
    c.in_ok-new.ensures.ok ∙ c.in_ok-world.ensures ∙ ap (apply_all c.world.result.now c.signals.result 0) c.deref.ensures.value in
    let after =
    is_after p x.intents.items statuses memories x.found.items are c.world.result.now (arc_value c.in_ok-new.field-0) c.signals.result later c.world.ensures.value
    c.world.ensures.agents c.signals.ensures world in
    let kept : Keeps p.game p.frame (arc_value c.in_ok-new.field-0) (arc_value c.in_ok-try_clone.field-0).items (arc_value c.in_ok-try_clone-2.field-0).items c.in_ok-known.known.ground = (
      later,
      subst (λ (v : Vec KeptMemory Global). IsAfter p.game p.frame (arc_value c.in_ok-new.field-0) v.items) (sym c.in_ok-try_clone.ensures) after,
      ap (λ (v : Vec Status Global). v.items) c.in_ok-try_clone-2.ensures ∙ are.statuses_are,
      ap (λ (k : DistanceCacheOf). k.ground) (c.in_ok-known.ensures ∙ c.known.ensures),
      tt,
    ) in
    subst
    (λ (g : Game). Keeps g c.frame.result (arc_value c.in_ok-new.field-0) (arc_value c.in_ok-try_clone.field-0).items (arc_value c.in_ok-try_clone-2.field-0).items c.in_ok-known.known.ground)
    (sym c.session.ensures)
    (subst
    (λ (f : ℕ). Keeps p.game f (arc_value c.in_ok-new.field-0) (arc_value c.in_ok-try_clone.field-0).items (arc_value c.in_ok-try_clone-2.field-0).items c.in_ok-known.known.ground)
    (sym c.frame.ensures.value) kept)
