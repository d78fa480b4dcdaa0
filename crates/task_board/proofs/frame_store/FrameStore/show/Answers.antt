use Rattle.std.proofs.Common.{rules, ◌≡◌, ◌%◌, None, length, map, sym, ap, ◌∙◌}
use Rattle.task_board.specs.FrameStore.{frame_name}
use Rattle.task_board.proofs.FrameStores.{shown, cleared_is, map_length}
use Rattle.task_board.proofs.frame_store.FrameStore.show.Goals as goal

pub returns-clause-stored : goal.returns-clause-stored
returns-clause-stored c = λ st.
    let slot = rw (← c.self.view_is) at c.requires.slot in
    let long = map_length frame_name c.self.inside.slots in
    let many : c.len.result ≡ length (map frame_name c.self.inside.slots) = search rules in
    let freed = c.take-params.ensures.place ∙ cleared_is c.self.inside.slots c.self.inside.session.now c.args.frame c.self.invariant.slots_are slot in
    let none : c.take.new.self ≡ None = search rules in
    rw (← c.self.view_is, freed, none) (shown c.self.inside.session.now c.self.inside.next c.self.inside.slots c.self.inside.asking.items c.self.inside.thoughts c.self.inside.turns.items (c.args.frame % length c.self.inside.slots) (c.args.frame % c.len.result) (c.args.frame % length (map frame_name c.self.inside.slots)) (ap (λ n. c.args.frame % n) (sym long)) (ap (λ n. c.args.frame % n) many))
