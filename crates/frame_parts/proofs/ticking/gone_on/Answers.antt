use Rattle.bt_tick.specs.Views.{view_of}
use Rattle.bt_tick.specs.Outcome.{place_of}
use Rattle.bt_tick.proofs.CutTicks.{thinking_resumed}
use Rattle.frame_parts.proofs.ticking.gone_on.Goals as goal

pub returns-in-Ok : goal.returns-in-Ok
returns-in-Ok g c p m i t is =
    thinking_resumed (view_of c.args.view.now) p m i (place_of c.args.pending) c.args.pending c.args.answer c.in-Ok.outcome t is c.in-Ok.ensures.comes c.in-Ok.ensures.tree
