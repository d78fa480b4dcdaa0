use Rattle.board_model.proofs.Priorities.{new_is_first, ready_is_first}
use Rattle.board_model.proofs.laws.what_is_given_goes_first.Goals as goal

pub returns : goal.returns
returns c = record { new_job = λ s log j p l e. new_is_first s log j p l e; ready_job = λ s log f p l e. ready_is_first s log f p l e }
