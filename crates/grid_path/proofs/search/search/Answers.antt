use Rattle.std.proofs.Common.{◌≡◌, ℕ, arith, refl, subst}
use Rattle.std.specs.Prelude.{slice_index}
use Rattle.grid_path.specs.Around.{side}
use Rattle.grid_path.specs.Levels.{at, Level}
use Rattle.grid_path.proofs.Visits.{next_level}
use Rattle.grid_path.proofs.Finding.{neighbour, farther, found, no_way}
use Rattle.grid_path.proofs.search.search.Goals as goal

pub returns-in-Some : goal.returns-in-Some
returns-in-Some c =
    let v = c.loop-head.invariant in (
      c.loop-head.steps,
      refl,
      found (at c.args.unmet.now) c.args.stride c.args.goal (at c.loop-head.unmet) (slice_index c.loop-head.queue) c.args.from
          (side c.of-before.result) (side c.of.result) c.of-before.ensures c.of.ensures
          c.loop-head.head c.loop-head.met c.loop-head.steps v.level v.far
          (neighbour c.args.stride c.args.from (omega (arith, c.requires.stride)) c.requires.from.0)
          c.in-Some.dir c.in-Some.ensures.some c.in-Some.ensures.first,
    )

pub loop-head-preserved : goal.loop-head-preserved
loop-head-preserved c =
    let v = c.loop-head.invariant in
    record {
      level = next_level (at c.args.unmet.now) c.args.stride c.args.goal v.level c.expand_level-met.ensures.meets;
      far = farther (at c.args.unmet.now) c.args.stride c.args.goal (at c.loop-head.unmet) (slice_index c.loop-head.queue) c.args.from
          (side c.of-before.result) (side c.of.result) c.of-before.ensures c.of.ensures
          c.loop-head.head c.loop-head.met c.loop-head.steps v.level c.in_default.ensures.none;
      room = (let now = c.expand_level-met.ensures.counted in let was = v.room in omega (arith, now, was));
      short = (let was = v.short in omega (arith, was));
    }

pub returns : goal.returns
returns c =
    let v = c.loop-head.invariant in
    let empty : c.loop-head.head ≡ c.loop-head.met = (let w = v.level.within in omega (arith, w)) in
    no_way (at c.args.unmet.now) c.args.stride c.args.goal (at c.loop-head.unmet) (slice_index c.loop-head.queue) c.args.from c.loop-head.met c.loop-head.steps
    (subst
    (λ (h : ℕ). Level (at c.args.unmet.now) c.args.stride c.args.goal (at c.loop-head.unmet) (slice_index c.loop-head.queue) h c.loop-head.met c.loop-head.steps)
    empty v.level)
    v.far
