use Rattle.std.proofs.Common.{◌≡◌, ap, subst, sym}
use Rattle.std.specs.Arc.{arc_value}
use Rattle.std.specs.Result.{is_ok}
use Rattle.frame_parts.specs.Distances.{AllOn, DistanceCacheOf}
use Rattle.frame_parts.proofs.Keeping.{on_made}
use Rattle.frame_parts.proofs.distance_cache.DistanceCache.learn.Goals as goal

pub invariant_of-self-in_ok-put_first : goal.invariant_of-self-in_ok-put_first
invariant_of-self-in_ok-put_first c =
    let g = arc_value c.self.inside.ground in
    let given = subst (λ (k : DistanceCacheOf). AllOn k.ground c.args.found.now) (sym c.self.view_is) c.requires in
    let written = c.make_mut.follows.holds c.put_first.new.all (ap is_ok c.in_ok-make_mut.was) in
    let on = on_made g (arc_value c.self.inside.all) c.in_ok-make_mut.field-0.now c.in_ok-make_mut.ensures.value c.self.invariant in
    subst (λ l. AllOn g l.items) (sym written) (c.put_first.ensures g given on)

pub invariant_of-self-in_err-put_first : goal.invariant_of-self-in_err-put_first
invariant_of-self-in_err-put_first c =
    let g = arc_value c.self.inside.ground in
    let given = subst (λ (k : DistanceCacheOf). AllOn k.ground c.args.found.now) (sym c.self.view_is) c.requires in
    let written = c.make_mut.follows.holds c.put_first.new.all (ap is_ok c.in_ok-make_mut.was) in
    let on = on_made g (arc_value c.self.inside.all) c.in_ok-make_mut.field-0.now c.in_ok-make_mut.ensures.value c.self.invariant in
    subst (λ l. AllOn g l.items) (sym written) (c.put_first.ensures g given on)
