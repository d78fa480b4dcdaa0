use Rattle.std.proofs.Common.{◌≡◌, ◌<◌, ℕ, length, false, arith}
use Rattle.std.proofs.lemmas.List.FromFn.{fill_by_all}
use Rattle.btworld_c.specs.declared.game.Agent.{Agent}
use Rattle.btworld_c.specs.Agents.{agent_seen}
use Rattle.btworld_c.proofs.agent_reading.write_agents.Goals as goal

pub returns : goal.returns
returns c =
    let many : ℕ = length c.args.held.now.game.trees in
    let none : Agent = record { x = 0; y = 0; carrying = false; status = 0 } in
    let long : length c.agents.agents ≡ many = omega arith in
    fill_by_all (agent_seen c.args.held.now) c.agents.agents many none long
    (λ (k : ℕ) (l : k < many). c.agents.invariant k none (omega arith))
