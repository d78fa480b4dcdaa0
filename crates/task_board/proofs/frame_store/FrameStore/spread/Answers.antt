use Rattle.std.proofs.Common.{rules, ◌≡◌, ◌%◌, Some, None, length, map, sym, ap₂}
use Rattle.task_board.specs.FrameStore.{frame_name}
use Rattle.task_board.proofs.FrameStores.{with_frame, map_length}
use Rattle.task_board.proofs.frame_store.FrameStore.spread.Goals as goal

pub returns : goal.returns
returns c = λ st w f e.
    let next = rw (← c.self.view_is) at e in
    let same : Some c.in-Some.params.frame ≡ Some f = search rules in
    let frame : c.in-Some.params.frame ≡ f = cc in
    let long = map_length frame_name c.self.inside.slots in
    let place : c.in-Some.params.frame % length c.self.inside.slots ≡ f % length (map frame_name c.self.inside.slots) = ap₂ (λ a b. a % b) frame (sym long) in
    let none : c.take.new.self ≡ None = search rules in
    rw (← c.self.view_is, none, c.fill.ensures) (with_frame c.self.inside.session.now c.self.inside.next c.self.inside.slots c.self.inside.asking.items c.self.inside.thoughts c.self.inside.turns.items c.in-Some.params f (c.in-Some.params.frame % length c.self.inside.slots) (f % length (map frame_name c.self.inside.slots)) frame place)
