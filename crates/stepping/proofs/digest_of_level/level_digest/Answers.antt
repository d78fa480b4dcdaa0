use Rattle.std.proofs.Common.{◌∙◌, ◌++◌, ℕ, List, length, ap}
use Rattle.std.specs.List.{flat_map}
use Rattle.grid_world.specs.Grid.{Grid}
use Rattle.grid_world.specs.declared.cell.Agent.{Agent}
use Rattle.grid_world.specs.declared.cell.Cell.{Cell}
use Rattle.bt_nodes.specs.Plain.{Plain}
use Rattle.game_session.specs.Levels.{value_of, agent_trees}
use Rattle.stepping.specs.Digest.{fnv_all, bytes, agent_bytes, item_bytes}
use Rattle.stepping.specs.LevelDigest.{cell_bytes, tree_bytes}
use Rattle.stepping.proofs.Fnv.{seven_in}
use Rattle.stepping.proofs.digest_of_level.level_digest.Goals as goal

pub returns : goal.returns
returns c =
    let w : Grid = c.world-world.result.now in
    let trees : List Plain = agent_trees (value_of c.args.level.now) in
    let all : Grid → ℕ =
    λ g. fnv_all 14695981039346656037 (bytes 2 g.width ++ bytes 2 g.height ++ flat_map cell_bytes g.cells ++ bytes 2 (length g.agents) ++ flat_map agent_bytes g.agents
    ++ item_bytes 0 g.items ++ flat_map tree_bytes trees) in
    let width = c.with_two-width.ensures ∙ ap (λ n. fnv_all 14695981039346656037 (bytes 2 n)) (c.from.ensures ∙ c.width.ensures.value) in
    let height = c.with_two-height.ensures ∙ ap (λ n. fnv_all c.with_two-width.result (bytes 2 n)) (c.from-2.ensures ∙ c.height.ensures.value) in
    let cells = c.with_grounds-cells.ensures ∙ ap (λ (l : List Cell). fnv_all c.with_two-height.result (flat_map cell_bytes l)) c.cells.ensures in
    let count = c.with_two-count.ensures ∙ ap (λ (l : List Agent). fnv_all c.with_grounds-cells.result (bytes 2 (length l))) c.agents.ensures.value in
    let agents = c.with_agents-agents.ensures ∙ ap (λ (l : List Agent). fnv_all c.with_two-count.result (flat_map agent_bytes l)) c.agents-2.ensures.value in
    seven_in 14695981039346656037 (bytes 2 w.width) (bytes 2 w.height) (flat_map cell_bytes w.cells) (bytes 2 (length w.agents)) (flat_map agent_bytes w.agents) (item_bytes 0 w.items)
    (flat_map tree_bytes trees) _ _ _ _ _ _ _ width height cells count agents c.with_items-items.ensures c.with_agent_trees.ensures
    ∙ ap all c.world-world.ensures.value
