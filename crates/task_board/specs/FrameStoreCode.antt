-- How the logic stores what a frame store and its parts are seen as.
use Rattle.std.specs.Prelude.{ℕ, Bool, List, Option, refl}
use Rattle.std.specs.Coded.{Coded, code_by, coded×, coded_ℕ, coded_bool, coded_list, coded_option}
use Rattle.game_rules.specs.Game.{Game}
use Rattle.game_session.specs.GameCode.{game_code}
use Rattle.board_model.specs.Stored.{Part, Asked, Stored, asked}
use Rattle.task_board.specs.FrameStore.{AskedOf, PartsOf, FrameStoreOf}

abbrev pub part_code : Coded Part
part_code = code_by (ℕ × ℕ) (coded× coded_ℕ coded_ℕ) (λ p. (p.frame, p.number)) (λ p. record { frame = p.0; number = p.1 }) (λ _. refl)

abbrev pub asked_code : Coded Asked
asked_code =
    code_by (ℕ × (ℕ × (ℕ × Bool))) (coded× coded_ℕ (coded× coded_ℕ (coded× coded_ℕ coded_bool))) (λ q. (q.frame, (q.agent, (q.question, q.answered))))
    (λ p. asked p.0 p.1.0 p.1.1.0 p.1.1.1) (λ _. refl)

abbrev pub stored_code : Coded Stored
stored_code =
    code_by (Option ℕ × (List (Option ℕ) × (List (Option Asked) × (List Part × List (Option ℕ)))))
    (coded× (coded_option coded_ℕ) (coded× (coded_list (coded_option coded_ℕ)) (coded× (coded_list (coded_option asked_code)) (coded× (coded_list part_code) (coded_list (coded_option coded_ℕ))))))
    (λ k. (k.next, (k.slots, (k.asking, (k.thoughts, k.turns)))))
    (λ p. record { next = p.0; slots = p.1.0; asking = p.1.1.0; thoughts = p.1.1.1.0; turns = p.1.1.1.1 }) (λ _. refl)

-- ---- with the game

abbrev pub asked_of_code : Coded AskedOf
asked_of_code = code_by (Game × Option Asked) (coded× game_code (coded_option asked_code)) (λ a. (a.game, a.asked)) (λ p. record { game = p.0; asked = p.1 }) (λ _. refl)

abbrev pub parts_of_code : Coded PartsOf
parts_of_code = code_by (Game × List Part) (coded× game_code (coded_list part_code)) (λ a. (a.game, a.parts)) (λ p. record { game = p.0; parts = p.1 }) (λ _. refl)

abbrev pub frame_store_code : Coded FrameStoreOf
frame_store_code = code_by (Game × Stored) (coded× game_code stored_code) (λ a. (a.game, a.stored)) (λ p. record { game = p.0; stored = p.1 }) (λ _. refl)
