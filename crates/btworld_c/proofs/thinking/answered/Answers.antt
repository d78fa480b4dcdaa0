use Rattle.std.proofs.Common.{◌∙◌, ap, sym, ℕ}
use Rattle.grid_world.specs.Grid.{Grid, agent_of, point_of}
use Rattle.grid_world.specs.Way.{way}
use Rattle.game_rules.specs.View.{cell_of}
use Rattle.bt_tick.specs.Views.{view_of}
use Rattle.btworld_c.proofs.thinking.answered.Goals as goal

pub returns : goal.returns
returns c p m i t =
    let v = view_of c.args.view.now in
    let is =
    c.in_ok-answer.ensures
    ∙ ap (λ (w : Grid). way w v.signals (point_of (agent_of w v.agent)) c.place.result) (sym c.requires.world)
    ∙ ap (λ (n : ℕ). way v.world v.signals (cell_of v) n) c.place.ensures in
    c.in_ok-gone_on.ensures p m i t is
