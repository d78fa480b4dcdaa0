use Rattle.grid_path.specs.Around.{side}
use Rattle.grid_path.proofs.Rounds.{room1, room2, room3, counted_round, meets_round}
use Rattle.grid_path.proofs.search.expand.Goals as goal

pub put-met-requires-2-clause-room : goal.put-met-requires-2-clause-room
put-met-requires-2-clause-room c =
    room1 c.args.unmet.now c.args.queue.now c.args.stride c.args.cell c.args.met c.requires.above.0 c.requires.above.1 c.requires.below c.requires.room
    (side c.of-new.result) c.of-new.ensures _ _ c.put-met.ensures.queue c.put-met.ensures.counts

pub put-met-requires-3-clause-room : goal.put-met-requires-3-clause-room
put-met-requires-3-clause-room c =
    room2 c.args.unmet.now c.args.queue.now c.args.stride c.args.cell c.args.met c.requires.above.0 c.requires.above.1 c.requires.below c.requires.room
    (side c.of-new.result) c.of-new.ensures _ _ c.put-met.ensures.queue c.put-met.ensures.counts
    _ _ c.put-met-2.ensures.queue c.put-met-2.ensures.counts

pub put-requires-clause-room : goal.put-requires-clause-room
put-requires-clause-room c =
    room3 c.args.unmet.now c.args.queue.now c.args.stride c.args.cell c.args.met c.requires.above.0 c.requires.above.1 c.requires.below c.requires.room
    (side c.of-new.result) c.of-new.ensures _ _ c.put-met.ensures.queue c.put-met.ensures.counts
    _ _ c.put-met-2.ensures.queue c.put-met-2.ensures.counts _ _ c.put-met-3.ensures.queue c.put-met-3.ensures.counts

pub returns-clause-meets : goal.returns-clause-meets
returns-clause-meets c =
    meets_round c.args.unmet.now c.args.queue.now c.args.stride c.args.cell c.args.met c.requires.above.0 c.requires.above.1 c.requires.below c.requires.room
    (side c.of-new.result) c.of-new.ensures _ _ c.put-met.ensures.queue c.put-met.ensures.counts
    _ _ c.put-met-2.ensures.queue c.put-met-2.ensures.counts _ _ c.put-met-3.ensures.queue c.put-met-3.ensures.counts
    _ _ c.put.ensures.queue c.put.ensures.counts

pub returns-clause-counted : goal.returns-clause-counted
returns-clause-counted c =
    counted_round c.args.unmet.now c.args.queue.now c.args.stride c.args.cell c.args.met c.requires.above.0 c.requires.above.1 c.requires.below c.requires.room
    (side c.of-new.result) c.of-new.ensures _ _ c.put-met.ensures.queue c.put-met.ensures.counts
    _ _ c.put-met-2.ensures.queue c.put-met-2.ensures.counts _ _ c.put-met-3.ensures.queue c.put-met-3.ensures.counts
    _ _ c.put.ensures.queue c.put.ensures.counts
