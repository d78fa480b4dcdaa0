use Rattle.std.proofs.Common.{◌≡◌, take}
use Rattle.game_session.specs.Levels.{value_of, agent_trees}
use Rattle.stepping.proofs.same.have_same_trees.Given as goal

-- those so far are the same
abbrev pub invariant-agents : goal.invariant-agents
invariant-agents l = take l.agent (agent_trees (value_of l.level)) ≡ take l.agent (agent_trees (value_of l.other))
