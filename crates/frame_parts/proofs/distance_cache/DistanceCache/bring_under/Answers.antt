use Rattle.std.proofs.Common.{◌≡◌, ◌∙◌, ap, subst, sym}
use Rattle.std.specs.Arc.{arc_value}
use Rattle.std.specs.Bool.{Decides}
use Rattle.std.specs.Cmp.{booleans_Decides}
use Rattle.std.specs.List.Sorted.{IsPermutation}
use Rattle.std.specs.Result.{is_ok}
use Rattle.std.specs.Vec.{with_items}
use Rattle.std.proofs.lemmas.List.{with_items_is}
use Rattle.std.proofs.lemmas.List.Sorted.{length_permutation}
use Rattle.std.proofs.lemmas.Slice.Eq.{slice_eq-Decides}
use Rattle.frame_parts.specs.Distances.{AllOn, DistancesOf, DistanceCacheOf, known_of}
use Rattle.frame_parts.proofs.Keeping.{on_made, on_moved}
use Rattle.frame_parts.proofs.distance_cache.DistanceCache.bring_under.Goals as goal

pub returns-then-eq-clause-ok : goal.returns-then-eq-clause-ok
returns-then-eq-clause-ok c =
    let x = c.self.inside in
    let same : Decides c.eq.result (c.args.signals ≡ x.signals) = slice_eq-Decides booleans_Decides _ _ _ c.eq.ensures in
    let e : x.signals ≡ c.args.signals = sym (same.0 c.if-eq.true) in
    sym c.self.view_is ∙ ap (known_of (arc_value x.ground)) e
    ∙ ap (λ (k : DistanceCacheOf). known_of k.ground c.args.signals) c.self.view_is

pub invariant_of-self-2 : goal.invariant_of-self-2
invariant_of-self-2 c =
    let g = arc_value c.self.inside.ground in
    let written = c.make_mut.follows.holds (with_items c.in_ok-make_mut.field-0.now c.put_under_first.new.all) (ap is_ok c.in_ok-make_mut.was) in
    let on = on_made g (arc_value c.self.inside.all) c.in_ok-make_mut.field-0.now c.in_ok-make_mut.ensures.value c.self.invariant in
    let moved = subst (λ l. IsPermutation l c.put_under_first.new.all) c.deref_mut.ensures.value c.put_under_first.ensures in
    let long = length_permutation _ _ c.put_under_first.ensures ∙ c.deref_mut.ensures.len in
    subst (λ l. AllOn g l.items) (sym written)
    (subst (AllOn g) (sym (with_items_is c.in_ok-make_mut.field-0.now c.put_under_first.new.all long)) (on_moved g c.in_ok-make_mut.field-0.now.items c.put_under_first.new.all moved on))
