use Rattle.stepping.proofs.Onward.{alike}
use Rattle.stepping.proofs.laws.same_states_step_alike.Goals as goal

pub returns : goal.returns
returns c on p q next_p next_q same a b = alike on p q next_p next_q same a b
