use Rattle.std.proofs.Common.{rules, ◌≡◌, ◌%◌, ◌+◌, suc, Some, length, map, sym, ap, ap₂, ◌∙◌, refl, arith}
use Rattle.task_board.specs.FrameStore.{frame_name}
use Rattle.task_board.proofs.FrameStores.{with_turn, map_length}
use Rattle.task_board.proofs.frame_store.FrameStore.turned.Goals as goal

pub returns : goal.returns
returns c = λ st w.
    let long = map_length frame_name c.self.inside.slots in
    let many : c.len.result ≡ length (map frame_name c.self.inside.slots) = search rules in
    let place : c.frame.result % c.len.result ≡ c.args.turn.frame % length (map frame_name c.self.inside.slots) = ap₂ (λ a b. a % b) c.frame.ensures many in
    let one : c.args.turn.frame + 1 ≡ suc c.args.turn.frame = omega arith in
    let params = c.into_parts-params.result.0 in
    let next = ap (λ p. Some p) c.into_parts-params.ensures.params ∙ (sym c.in-Some.is ∙ c.requires.next) in
    let later : frame_name (Some params) ≡ Some (suc c.args.turn.frame) = ap frame_name next ∙ ap Some one in
    rw (← c.self.view_is, c.keep_room.ensures) (with_turn c.self.inside.session.now c.self.inside.next c.self.inside.slots c.self.inside.asking.items c.self.inside.thoughts c.self.inside.turns.items (Some params) (suc c.args.turn.frame) (c.frame.result % c.len.result) (c.args.turn.frame % length (map frame_name c.self.inside.slots)) (Some c.args.turn) (Some c.args.turn.frame) later place refl)
