use Rattle.std.proofs.Common.{◌≡◌, ℕ, arith, subst}
use Rattle.std.specs.Prelude.{slice_index}
use Rattle.grid_path.specs.Levels.{at, IsBeside, Meets}
use Rattle.grid_path.proofs.Meeting.{meets_more}
use Rattle.grid_path.proofs.search.expand_level.Goals as goal

pub loop-l-preserved : goal.loop-l-preserved
loop-l-preserved c =
    let l = c.loop-l in
    record {
      meets = meets_more c.args.stride _ _ _ _ _ _ c.args.head l.l c.args.end _ _ l.auto.l (c.loop-l-test.true) l.invariant.meets c.expand-met.ensures.meets;
      counted = (let now = c.expand-met.ensures.counted in let was = l.invariant.counted in omega (arith, now, was));
    }

pub returns-clause-meets : goal.returns-clause-meets
returns-clause-meets c =
    let l = c.loop-l in
    let last : l.l ≡ c.args.end = omega arith in
    subst
    (λ (n : ℕ). Meets (IsBeside c.args.stride (slice_index c.args.queue.now) c.args.head n) (at c.args.unmet.now) (at l.unmet)
    (slice_index c.args.queue.now) (slice_index l.queue) c.args.end l.met)
    last l.invariant.meets
