use Rattle.std.proofs.Common.{◌∙◌, ap}
use Rattle.grid_world.specs.Map.{grid_of}
use Rattle.game_session.specs.Faults.{fault_of_map}
use Rattle.level_text.proofs.RowFaults.{rows_of-texts, row_fault-None, row_fault-Some}
use Rattle.level_text.proofs.read.world_of.Goals as goal

pub returns-in-Ok-clause-ok : goal.returns-in-Ok-clause-ok
returns-in-Ok-clause-ok c =
    (row_fault-None c.args.rows.now c.in-Ok.ensures.faultless, c.in-Ok.ensures.ok ∙ ap grid_of (rows_of-texts c.args.rows.now))

pub returns-in-Err-Size-clause-err : goal.returns-in-Err-Size-clause-err
returns-in-Err-Size-clause-err c =
    row_fault-Some c.args.rows.now _ _ c.in-Err-Size.ensures.err (ap fault_of_map c.in-Err-Size.field-0-is)

pub returns-in-Err-Char-clause-err : goal.returns-in-Err-Char-clause-err
returns-in-Err-Char-clause-err c =
    row_fault-Some c.args.rows.now _ _ c.in-Err-Char.ensures.err (ap fault_of_map c.in-Err-Char.field-0-is)

pub returns-in-Err-Letters-clause-err : goal.returns-in-Err-Letters-clause-err
returns-in-Err-Letters-clause-err c =
    row_fault-Some c.args.rows.now _ _ c.in-Err-Letters.ensures.err (ap fault_of_map c.in-Err-Letters.field-0-is)
