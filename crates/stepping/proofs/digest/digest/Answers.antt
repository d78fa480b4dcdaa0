use Rattle.std.proofs.Common.{◌≡◌, ◌∙◌, List, ℕ, ap, map}
use Rattle.std.specs.List.{flat_map}
use Rattle.grid_world.specs.declared.cell.Agent.{Agent}
use Rattle.stepping.specs.Digest.{fnv_all, bytes, bit, agent_bytes, memory_bytes, item_bytes}
use Rattle.stepping.proofs.Fnv.{five_in}
use Rattle.stepping.proofs.digest.digest.Goals as goal

pub returns : goal.returns
returns c =
    let w = c.args.world.now in
    let first : ℕ = c.with_four-begun.result in
    let second : ℕ = c.with_signals-signals_in.result in
    let third : ℕ = c.with_agents-agents_in.result in
    let fourth : ℕ = c.with_memories-memories_in.result in
    let third_is : third ≡ fnv_all second (flat_map agent_bytes w.agents) =
    c.with_agents-agents_in.ensures ∙ ap (λ (l : List Agent). fnv_all second (flat_map agent_bytes l)) c.agents.ensures.value in
    five_in 14695981039346656037 (bytes 4 c.args.frame) (map bit c.args.signals) (flat_map agent_bytes w.agents) (flat_map memory_bytes c.args.memories.now) (item_bytes 0 w.items)
    first second third fourth c.with_items.result c.with_four-begun.ensures c.with_signals-signals_in.ensures third_is c.with_memories-memories_in.ensures c.with_items.ensures
