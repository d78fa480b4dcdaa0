use Rattle.std.proofs.Common.{◌<◌, sym, subst}
use Rattle.std.specs.Arc.{arc_value}
use Rattle.frame_state.specs.Names.{FrameOf}
use Rattle.frame_state.specs.Contents.{bands_in}
use Rattle.frame_state.proofs.Turning.{is_there}
use Rattle.frame_state.proofs.draw_task.DrawTask.with.Goals as goal

pub invariant_of-result : goal.invariant_of-result
invariant_of-result c =
    let g = c.world.inside.session.now in
    let f = c.world.inside.frame in (
      c.world.invariant,
      is_there g f (arc_value c.world.inside.world) c.args.band c.world.invariant (subst (λ (p : FrameOf). c.args.band < bands_in p.game) (sym c.world.view_is) c.requires),
    )
