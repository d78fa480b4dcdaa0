use Rattle.std.proofs.Common.{◌≡◌, ◌∙◌, ap, sym, subst}
use Rattle.std.specs.Prelude.{IfSome}
use Rattle.game_rules.specs.Game.{Game}
use Rattle.frame_state.specs.Slots.{held_at}
use Rattle.task_board.specs.FrameStore.{FrameStoreOf}
use Rattle.task_board.proofs.FrameStores.{held_own}
use Rattle.task_board.proofs.frame_store.FrameStore.learn.Goals as goal

pub learn-requires : goal.learn-requires
learn-requires c =
    let x = c.self.inside in
    subst (λ (h : Game). IfSome (held_at x.slots c.args.way.now.frame) (λ p. p.game ≡ h)) (ap (λ (k : FrameStoreOf). k.game) c.self.view_is ∙ sym c.requires)
    (held_own x.session.now x.slots c.args.way.now.frame c.self.invariant.some c.self.invariant.slots_are)
