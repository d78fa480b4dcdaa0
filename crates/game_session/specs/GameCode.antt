-- How the logic stores a game.
use Rattle.std.specs.Prelude.{◌≡◌, ℕ, Bool, ◌==◌, if◌then◌else◌, List, refl}
use Rattle.std.specs.Coded.{Coded, code_by, coded×, coded_ℕ, coded_bool, coded_list}
use Rattle.grid_world.specs.Grid.{Grid}
use Rattle.grid_world.specs.declared.cell.Cell.{Cell}
use Rattle.grid_world.specs.declared.cell.Cell.TheVariants.{Wall, Floor, Door, Spot}
use Rattle.grid_world.specs.declared.cell.Agent.{Agent}
use Rattle.bt_nodes.specs.Plain.{Plain}
use Rattle.game_rules.specs.declared.change.Change.{Change}
use Rattle.game_rules.specs.Game.{Game}
use Rattle.game_session.specs.PlainCode.{plain_code}

abbrev cell_numbers : Cell → ℕ × ℕ
cell_numbers Wall = (0, 0)
cell_numbers Floor = (1, 0)
cell_numbers (Door a) = (2, a)
cell_numbers (Spot p) = (3, p)

abbrev cell_again : ℕ × ℕ → Cell
cell_again n = if n.0 == 0 then Wall else (if n.0 == 1 then Floor else (if n.0 == 2 then Door n.1 else Spot n.1))

pub cell_same : (c : Cell) → cell_again (cell_numbers c) ≡ c
cell_same Wall = refl
cell_same Floor = refl
cell_same (Door a) = refl
cell_same (Spot p) = refl

abbrev cell_code : Coded Cell
cell_code = code_by (ℕ × ℕ) (coded× coded_ℕ coded_ℕ) cell_numbers cell_again cell_same

abbrev agent_code : Coded Agent
agent_code =
    code_by (ℕ × (ℕ × Bool)) (coded× coded_ℕ (coded× coded_ℕ coded_bool)) (λ a. (a.x, (a.y, a.carrying)))
    (λ p. record { x = p.0; y = p.1.0; carrying = p.1.1 }) (λ _. refl)

abbrev change_code : Coded Change
change_code =
    code_by (ℕ × (ℕ × Bool)) (coded× coded_ℕ (coded× coded_ℕ coded_bool)) (λ c. (c.frame, (c.signal, c.on)))
    (λ p. record { frame = p.0; signal = p.1.0; on = p.1.1 }) (λ _. refl)

abbrev grid_code : Coded Grid
grid_code =
    code_by (ℕ × (ℕ × (List Cell × (List Bool × List Agent))))
    (coded× coded_ℕ (coded× coded_ℕ (coded× (coded_list cell_code) (coded× (coded_list coded_bool) (coded_list agent_code)))))
    (λ g. (g.width, (g.height, (g.cells, (g.items, g.agents)))))
    (λ p. record { width = p.0; height = p.1.0; cells = p.1.1.0; items = p.1.1.1.0; agents = p.1.1.1.1 }) (λ _. refl)

abbrev pub game_code : Coded Game
game_code =
    code_by (Grid × (List Plain × List Change)) (coded× grid_code (coded× (coded_list plain_code) (coded_list change_code)))
    (λ g. (g.world, (g.trees, g.changes))) (λ p. record { world = p.0; trees = p.1.0; changes = p.1.1 }) (λ _. refl)
