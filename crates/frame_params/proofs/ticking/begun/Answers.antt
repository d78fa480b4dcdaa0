use Rattle.std.proofs.Common.{sym, subst}
use Rattle.bt_nodes.specs.Plain.{Plain}
use Rattle.game_rules.specs.Game.{Game}
use Rattle.game_jobs.specs.Instance.{tree_of, view}
use Rattle.bt_tick.specs.Thinking.{Thinking}
use Rattle.frame_state.specs.Names.{FrameOf}
use Rattle.frame_params.proofs.CutThoughts.{sees_start, starts}
use Rattle.frame_params.proofs.ticking.begun.Goals as goal

pub returns : goal.returns
returns g c =
    let s : FrameOf = c.args.start.now in
    let a = c.args.agent in
    let on = c.signals.result in
    let w = c.world.result.now in
    let o = c.in_ok-begun.field-0 in
    let m = c.memory_of.result.now in
    let t : Thinking (view on w a) (tree_of c.session.result.now a) m 0 o =
    subst (λ (p : Plain). Thinking (view on w a) p m 0 o) (sym c.tree_of-tree.ensures.value) c.in_ok-begun.ensures in
    starts s.game s.frame a w on (sees_start s a w on c.requires c.world.ensures.agents c.world.ensures.value c.signals.ensures) m o c.memory_of.ensures.value
    (subst (λ (h : Game). Thinking (view on w a) (tree_of h a) m 0 o) c.session.ensures t)
