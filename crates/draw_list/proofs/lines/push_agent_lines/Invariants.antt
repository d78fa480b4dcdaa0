use Rattle.std.proofs.Common.{◌≡◌, ◌++◌, drop}
use Rattle.game_rules.specs.Text.{agents_text}
use Rattle.draw_list.proofs.lines.push_agent_lines.Given as goal

abbrev pub invariant-agents : goal.invariant-agents
invariant-agents l =
    l.text.items ++ agents_text l.number (drop l.number l.agents) (drop l.number l.statuses)
    ≡ l.initial.text.items ++ agents_text 0 l.agents l.statuses
