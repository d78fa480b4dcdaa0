use Rattle.std.proofs.Common.{◌≡◌, false, drop}
use Rattle.board_model.specs.Lists.{has}
use Rattle.board_model.specs.Board.{has_key}
use Rattle.counters.specs.Keys.{counter_of}
use Rattle.counters.proofs.board_counters.place.Given as goal

-- none of those that were looked at has the key
abbrev pub invariant-rows : goal.invariant-rows
invariant-rows l = has (has_key (counter_of l.key)) (drop l.at l.all) ≡ false
