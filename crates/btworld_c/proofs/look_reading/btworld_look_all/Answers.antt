use Rattle.std.proofs.Common.{◌∙◌, List, Option, length, subst}
use Rattle.std.specs.List.{flat_map}
use Rattle.stepping.specs.Played.{Played}
use Rattle.btworld_c.specs.Buffers.{IsFilled}
use Rattle.btworld_c.specs.Many.{cells_in, agents_in}
use Rattle.btworld_c.proofs.Looks.{never_refused}
use Rattle.btworld_c.proofs.look_reading.btworld_look_all.Goals as goal

pub unreachable-requires : goal.unreachable-requires
unreachable-requires c =
    let room = c.room_for-status.ensures in let is = c.if-status-ne-OK.false in let told = c.write_all-written.ensures in
    never_refused c.args.games.now c.room_for-status.new.games (length c.args.cells.now) (length c.args.agents.now) c.write_all-written.result room.kept
    (room.open is) (room.cells is) (room.agents is) told.status c.if-written-ne-OK.true told.held told.short

pub returns-clause-cells : goal.returns-clause-cells
returns-clause-cells c = λ _.
    subst (λ (l : List (Option Played)). IsFilled (flat_map cells_in l) (length (flat_map cells_in l)) c.args.cells.now c.write_all-written.new.cells) c.room_for-status.ensures.kept
    (c.write_all-written.ensures.cells c.if-written-ne-OK.false)

pub returns-clause-agents : goal.returns-clause-agents
returns-clause-agents c = λ _.
    subst (λ (l : List (Option Played)). IsFilled (flat_map agents_in l) (length (flat_map agents_in l)) c.args.agents.now c.write_all-written.new.agents) c.room_for-status.ensures.kept
    (c.write_all-written.ensures.agents c.if-written-ne-OK.false)

pub returns-clause-kept : goal.returns-clause-kept
returns-clause-kept c = c.write_all-written.ensures.kept ∙ c.room_for-status.ensures.kept
