use Rattle.frame_state.specs.Names.{FrameOf}
use Rattle.frame_params.proofs.CutThoughts.{sees_start, goes_on, stands_copied}
use Rattle.frame_params.proofs.ticking.copy_gone_on.Goals as goal

pub returns : goal.returns
returns g c i stands is =
    let s : FrameOf = c.args.start.now in
    let a = c.args.agent in
    let on = c.signals.result in
    let w = c.world.result.now in
    let same = c.in_ok-copy.ensures in
    let copied = stands_copied s.game s.frame a i c.args.pending.now c.in_ok-copy.copy same.means same.place same.tree stands in
    goes_on s.game s.frame a w on (sees_start s a w on c.requires c.world.ensures.agents c.world.ensures.value c.signals.ensures) i c.in_ok-copy.copy c.args.answer
    c.in_ok-gone_on.field-0 copied is c.in_ok-gone_on.ensures
