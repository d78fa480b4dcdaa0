use Rattle.std.proofs.Common.{◌≡◌, ◌∙◌, ◌<◌, ◌≤◌, ap, arith, length, subst, sym, take}
use Rattle.std.proofs.lemmas.List.Elements.{All-take}
use Rattle.grid_world.specs.Grid.{Grid}
use Rattle.frame_parts.specs.Distances.{DistancesOf, AllOn}
use Rattle.frame_parts.proofs.Keeping.{on_more}
use Rattle.frame_parts.proofs.distance_cache.put_first.Goals as goal

pub returns-in_err-share : goal.returns-in_err-share
returns-in_err-share c g new on =
    c.found.invariant.on g new (subst (AllOn g) (sym c.truncate.ensures.items) (All-take (λ d. d.ground ≡ g) _ c.args.all.now.items on))

pub returns-in_err-insert : goal.returns-in_err-insert
returns-in_err-insert c g new on =
    subst (AllOn g) (sym c.in_err-insert.ensures.items)
    (c.found.invariant.on g new (subst (AllOn g) (sym c.truncate.ensures.items) (All-take (λ d. d.ground ≡ g) _ c.args.all.now.items on)))

pub found-preserved : goal.found-preserved
found-preserved c = record {
  on = λ g new on. subst (AllOn g) (sym c.in_ok-insert.ensures.items)
      (on_more g c.found.all.items c.found.at c.in_ok-share.field-0 (ap (λ (d : DistancesOf). d.ground) (c.in_ok-share.ensures ∙ c.index-found-at.is) ∙ new c.found.at c.index-found-at.result c.found-test.true) (c.found.invariant.on g new on));
  room = omega (arith, c.found.invariant.room, c.in_ok-insert.ensures.len);
}

pub returns : goal.returns
returns c g new on =
    c.found.invariant.on g new (subst (AllOn g) (sym c.truncate.ensures.items) (All-take (λ d. d.ground ≡ g) _ c.args.all.now.items on))
