-- The thoughts of a frame in the order of its agents.
use Rattle.std.specs.Prelude.{◌≡◌, ℕ, nat_lt, false, List, [], ◌∷◌, map}
use Rattle.std.specs.List.{All}
use Rattle.board_model.specs.Lists.{has}
use Rattle.grid_world.specs.Map.{count_up}
use Rattle.game_rules.specs.Game.{Game}
use Rattle.frame_state.specs.Names.{PartOf, part_of}

-- those of a game, of whatever frames
abbrev pub AreOfGame : Game → List PartOf → Type 0
AreOfGame g parts = All (λ p. p.game ≡ g) parts

-- each stands before those of greater numbers
abbrev pub AreInOrder : List PartOf → Type 0
AreInOrder [] = Unit {0}
AreInOrder (p ∷ ps) = (has (λ q. nat_lt q.number p.number) ps ≡ false) × AreInOrder ps

-- those of the numbers below n, in order
abbrev pub parts_below : Game → (frame n : ℕ) → List PartOf
parts_below g frame n = map (part_of g frame) (count_up 0 n)
