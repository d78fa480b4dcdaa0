use Rattle.std.proofs.Common.{ℕ, ◌<◌, [], slice_index_or}
use Rattle.bt_nodes.specs.Plain.{Plain}
use Rattle.bt_nodes.specs.Bounds.{Fits}
use Rattle.game_session.specs.Levels.{value_of, agent_trees}
use Rattle.stepping.proofs.played.load.all_fit.Given as goal

abbrev pub invariant-agents : goal.invariant-agents
invariant-agents l = (a : ℕ) (p : Plain) → a < l.agent → Fits (slice_index_or (agent_trees (value_of l.level)) a p) (slice_index_or l.memories a [])
