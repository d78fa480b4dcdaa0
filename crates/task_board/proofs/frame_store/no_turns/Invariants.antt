use Rattle.std.proofs.Common.{◌≡◌, None, replicate}
use Rattle.task_board.proofs.frame_store.no_turns.Given as goal

abbrev pub invariant-slots : goal.invariant-slots
invariant-slots l = l.turns.items ≡ replicate l._slot None
