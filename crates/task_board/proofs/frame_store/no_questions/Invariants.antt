use Rattle.std.proofs.Common.{◌≡◌, None, replicate}
use Rattle.task_board.proofs.frame_store.no_questions.Given as goal

abbrev pub invariant-agents : goal.invariant-agents
invariant-agents l = l.asking.items ≡ replicate l._agent (record { game = l.session; asked = None })
