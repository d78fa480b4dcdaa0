use Rattle.std.proofs.Common.{Some, false, refl, sym, ap, ◌∙◌}
use Rattle.board_model.specs.Stored.{asked}
use Rattle.task_board.specs.FrameStore.{AskedOf}
use Rattle.task_board.proofs.FrameStores.{with_asked}
use Rattle.task_board.proofs.frame_store.FrameStore.park.Goals as goal

pub returns : goal.returns
returns c =
    let now = ap (λ (a : AskedOf). a.asked) c.park.ensures ∙ ap (λ n. Some (asked c.args.parked.frame n c.args.parked.question false)) (sym c.requires.agent.0) in
    rw (← c.self.view_is) (with_asked c.self.inside.session.now c.self.inside.next c.self.inside.slots c.self.inside.asking.items c.self.inside.thoughts c.self.inside.turns.items c.args.agent c.args.agent c.park.new.self (Some (asked c.args.parked.frame c.args.agent c.args.parked.question false)) refl now)
