use Rattle.board_model.proofs.Passing.{test_is}
use Rattle.board_model.proofs.laws.tests_pass_where_events_are_legal.Goals as goal

pub returns : goal.returns
returns c = λ s log e p l. test_is s log e p l
