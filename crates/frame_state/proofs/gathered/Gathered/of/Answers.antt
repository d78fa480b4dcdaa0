use Rattle.std.proofs.Common.{◌∙◌, ap, sym, subst, length, Vec, Global}
use Rattle.std.proofs.lemmas.List.{length-map}
use Rattle.std.specs.Arc.{arc_value}
use Rattle.bt_nodes.specs.declared.node.Status.{Status}
use Rattle.frame_state.specs.declared.kept_memory.KeptMemory.{KeptMemory}
use Rattle.frame_state.specs.Names.{FrameOf}
use Rattle.frame_state.specs.Contents.{thought_for}
use Rattle.frame_parts.specs.Distances.{AllOn}
use Rattle.frame_parts.specs.Memories.{AllFit}
use Rattle.frame_state.specs.Logic.{AreGathered}
use Rattle.frame_state.proofs.Turning.{all_intents, all_statuses, all_memories, all_fit}
use Rattle.frame_state.proofs.gathered.Gathered.of.Goals as goal

pub invariant_of-result : goal.invariant_of-result
invariant_of-result c =
    let p : FrameOf = arc_value c.args.start.now in
    let parts = c.args.thoughts.now in
    let all = c.requires.thoughts in
    let kept = c.in_ok-new-2.ensures.ok in
    subst
    (λ (q : FrameOf). AreGathered q c.in_ok-intents_of.field-0.items (arc_value c.in_ok-new.field-0).items (arc_value c.in_ok-new-2.field-0).items c.in_ok-shared.field-0.items)
    (sym c.in_ok-try_clone.ensures) (record {
      intents_are = c.in_ok-intents_of.ensures ∙ all_intents p parts all;
      statuses_are = ap (λ (v : Vec Status Global). v.items) c.in_ok-new.ensures.ok ∙ c.in_ok-statuses.ensures ∙ all_statuses p parts all;
      memories_are = λ later. ap (λ (v : Vec KeptMemory Global). v.items) kept ∙ c.in_ok-memories.ensures.value ∙ all_memories p parts all later;
      fit = subst (λ (v : Vec KeptMemory Global). AllFit p.game.trees v.items) (sym kept)
          (all_fit p parts all c.in_ok-memories.memories.items
          (ap length c.in_ok-memories.ensures.value ∙ length-map parts (λ q. (thought_for q).memory)) c.in_ok-memories.ensures.fit);
      found_are = subst (AllOn p.game.world) (sym c.in_ok-shared.ensures) (λ k d l. (c.requires.found k d l).0);
    })
