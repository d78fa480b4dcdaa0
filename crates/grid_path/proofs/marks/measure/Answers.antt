use Rattle.std.proofs.Common.{◌≡◌, ℕ, arith, subst}
use Rattle.std.specs.Prelude.{slice_index}
use Rattle.grid_path.specs.Levels.{at}
use Rattle.grid_path.specs.Distances.{Measuring}
use Rattle.grid_path.proofs.Measured.{next_measuring, measured}
use Rattle.grid_path.proofs.marks.measure.Goals as goal

pub levels-preserved : goal.levels-preserved
levels-preserved c =
    let v = c.levels.invariant in
    record {
      so_far = next_measuring (at c.args.unmet.now) c.args.stride c.args.goal (at c.levels.unmet) (at c.expand_level-met.new.unmet)
          (slice_index c.levels.queue) (slice_index c.expand_level-met.new.queue) (slice_index c.levels.marks) (slice_index c.mark_level.new.marks)
          c.levels.head c.levels.met c.expand_level-met.result c.levels.steps v.so_far c.expand_level-met.ensures.meets
          (λ l from to. (let m = c.mark_level.ensures.marked l from to in omega (arith, m))) c.mark_level.ensures.kept;
      room = (let now = c.expand_level-met.ensures.counted in let was = v.room in omega (arith, now, was));
      short = (let was = v.short in let test = c.levels-test.true in omega (arith, was, test));
      long = (let now = c.mark_level.ensures.long in let was = v.long in omega (arith, now, was));
    }

pub returns-clause-measured : goal.returns-clause-measured
returns-clause-measured c =
    let v = c.levels.invariant in
    let empty : c.levels.head ≡ c.levels.met = (let w = v.so_far.level.within in omega (arith, w)) in
    measured (at c.args.unmet.now) c.args.stride c.args.goal (at c.levels.unmet) (slice_index c.levels.queue) (slice_index c.levels.marks) c.levels.met c.levels.steps
    (subst
    (λ (h : ℕ). Measuring (at c.args.unmet.now) c.args.stride c.args.goal (at c.levels.unmet) (slice_index c.levels.queue) (slice_index c.levels.marks) h c.levels.met c.levels.steps)
    empty v.so_far)
