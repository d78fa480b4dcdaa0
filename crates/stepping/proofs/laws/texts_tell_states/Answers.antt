use Rattle.stepping.proofs.ToldApart.{told_apart}
use Rattle.stepping.proofs.laws.texts_tell_states.Goals as goal

pub returns : goal.returns
returns c p q is other level same = told_apart p q is other level same
