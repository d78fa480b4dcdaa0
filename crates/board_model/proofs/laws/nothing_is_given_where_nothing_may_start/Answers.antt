use Rattle.board_model.proofs.Needs.{none_given}
use Rattle.board_model.proofs.laws.nothing_is_given_where_nothing_may_start.Goals as goal

pub returns : goal.returns
returns c = λ s log w p l on below idle. none_given s log w p l on below idle
