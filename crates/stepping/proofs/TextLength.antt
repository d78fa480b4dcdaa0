-- How many bytes the text of a frame has at most.
use Rattle.std.proofs.Common.{◌≡◌, ◌<◌, ◌≤◌, ◌+◌, ◌*◌, ◌^◌, ℕ, suc, List, [], ◌∷◌, ◌++◌, Bool, true, false, length, map, refl, ap, ◌∙◌, arith, length-append}
use Rattle.std.specs.Prelude.{All, codes, decimal, if◌then◌else◌}
use Rattle.std.specs.List.{flat_map}
use Rattle.std.proofs.lemmas.Fmt.{length-decimal-le}
use Rattle.grid_world.specs.Grid.{Grid}
use Rattle.grid_world.specs.Glyphs.{glyph}
use Rattle.grid_world.specs.Map.{count_up}
use Rattle.grid_world.specs.World.{IsWorld}
use Rattle.grid_world.specs.declared.cell.Agent.{Agent}
use Rattle.grid_world.proofs.CountUp.{length-map-count_up}
use Rattle.draw_list.proofs.Counting.{length-flat_map-count_up}
use Rattle.bt_nodes.specs.declared.node.Status.{Status}
use Rattle.bt_nodes.specs.declared.node.Status.TheVariants.{Success, Failure, Running}
use Rattle.game_rules.specs.Text.{row_text, status_letter, agent_text, agents_text, text}
use Rattle.stepping.specs.Played.{most_text}

row_length : (w : Grid) (on : List Bool) (y : ℕ) → length (row_text w on y) ≡ w.width + 1
row_length w on y =
    let glyphs = map (λ x. glyph w on (record { x = x; y = y })) (count_up 0 w.width) in
    length-append glyphs (codes "\n") ∙ ap (λ n. n + 1) (length-map-count_up (λ x. glyph w on (record { x = x; y = y })) 0 w.width)

-- letter, answer, a cell whose column and row have three digits at most, and load
line_length : (a : ℕ) (st : Status) (x y load : List ℕ) → length x ≤ 3 → length y ≤ 3 → length load ≡ 3
    → length ((65 + a) ∷ codes " " ++ status_letter st ++ codes " " ++ x ++ codes "," ++ y ++ load) ≤ 14
line_length a st x y load column row end =
    let whole = length-append (x ++ codes "," ++ y) load in
    let cell = length-append (x ++ codes ",") y in
    let comma : length (x ++ codes ",") ≡ length x + 1 = length-append x (codes ",") in
    by_answer st (omega (arith, whole, cell, comma, column, row, end))
  where
    by_answer : (st : Status) → length (x ++ codes "," ++ y ++ load) ≤ 10 → length ((65 + a) ∷ codes " " ++ status_letter st ++ codes " " ++ x ++ codes "," ++ y ++ load) ≤ 14
    by_answer Success h = omega (arith, h)
    by_answer Failure h = omega (arith, h)
    by_answer Running h = omega (arith, h)

agent_length : (a : ℕ) (agent : Agent) (st : Status) → agent.x < 10 ^ 3 → agent.y < 10 ^ 3 → length (agent_text a agent st) ≤ 14
agent_length a agent st column row =
    line_length a st (decimal agent.x) (decimal agent.y) (if agent.carrying then codes " *\n" else codes " -\n")
    (length-decimal-le 3 agent.x (omega arith) column (omega (arith, column))) (length-decimal-le 3 agent.y (omega arith) row (omega (arith, row)))
    (load agent.carrying)
  where
    load : (b : Bool) → length (if b then codes " *\n" else codes " -\n") ≡ 3
    load true = refl
    load false = refl

agents_length : (a : ℕ) (agents : List Agent) (sts : List Status) → All (λ agent. (agent.x < 10 ^ 3) × (agent.y < 10 ^ 3)) agents
    → length (agents_text a agents sts) ≤ 14 * length agents
agents_length a [] sts all = omega arith
agents_length a (agent ∷ more) [] all = omega arith
agents_length a (agent ∷ more) (st ∷ sts) all =
    let near = all 0 agent (omega arith) in
    let one = agent_length a agent st near.0 near.1 in
    let rest = agents_length (suc a) more sts (λ i d l. all (suc i) d (omega (arith, l))) in
    let both = length-append (agent_text a agent st) (agents_text (suc a) more sts) in
    omega (arith, one, rest, both)

pub text_length : (f : ℕ) (w : Grid) (on : List Bool) (sts : List Status) → f < 2 ^ 32 → IsWorld w → length (text f w on sts) ≤ most_text w
text_length f w on sts small is =
    let rows = flat_map (row_text w on) (count_up 0 w.height) in
    let agents = agents_text 0 w.agents sts in
    let number = length-decimal-le 10 f (omega arith) (omega (arith, small)) (omega (arith, small)) in
    let wide = is.sized.most_columns in
    let high = is.sized.most_rows in
    let few = is.few_agents in
    let lines = length-flat_map-count_up (row_text w on) (w.width + 1) 0 w.height (row_length w on) in
    let last = agents_length 0 w.agents sts (λ i d l.
    let stands = is.standing i d l in let x = stands.column in let y = stands.row in (omega (arith, x, wide), omega (arith, y, high))) in
    let whole = length-append (decimal f ++ codes "\n" ++ rows) agents in
    let before = length-append (decimal f ++ codes "\n") rows in
    let first : length (decimal f ++ codes "\n") ≡ length (decimal f) + 1 = length-append (decimal f) (codes "\n") in
    omega (arith, number, lines, last, few, whole, before, first)
