-- The fault of each call, by the row of its key. Want of memory comes last, and has no row here.
use Rattle.std.specs.Prelude.{◌==◌, if◌then◌else◌, Option, Some, None}
use Rattle.board_model.specs.Board.{Row}
use Rattle.counters.specs.declared.counters.CounterFault.{CounterFault}
use Rattle.counters.specs.declared.counters.CounterFault.TheVariants.{Busy, NotThere}

abbrev pub start_fault : Option Row → Option CounterFault
start_fault None = None
start_fault (Some row) = Some Busy

abbrev pub lower_fault : Option Row → Option CounterFault
lower_fault None = Some NotThere
lower_fault (Some row) = if row.left == 0 then Some NotThere else None

-- where the counter only has to be there
abbrev pub absent_fault : Option Row → Option CounterFault
absent_fault None = Some NotThere
absent_fault (Some row) = None

abbrev pub end_fault : Option Row → Option CounterFault
end_fault None = Some NotThere
end_fault (Some row) = if row.left == 0 then None else Some Busy
