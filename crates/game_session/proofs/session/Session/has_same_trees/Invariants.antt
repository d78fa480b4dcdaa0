use Rattle.std.proofs.Common.{◌≡◌, take}
use Rattle.game_session.proofs.session.Session.has_same_trees.Given as goal

-- those so far are the same
abbrev pub invariant-agents : goal.invariant-agents
invariant-agents l = take l.agent l.self.trees ≡ take l.agent l.other.trees
