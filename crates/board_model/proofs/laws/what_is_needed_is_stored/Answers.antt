use Rattle.board_model.proofs.Stores.{needed_is_there, places_are}
use Rattle.board_model.proofs.laws.what_is_needed_is_stored.Goals as goal

pub returns : goal.returns
returns c = record { there = λ s log e p l h. needed_is_there s log e p l h; places = λ s log p l. places_are s log p l }
