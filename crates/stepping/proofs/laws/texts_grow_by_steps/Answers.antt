use Rattle.stepping.proofs.Onward.{texts_more}
use Rattle.stepping.proofs.laws.texts_grow_by_steps.Goals as goal

pub returns : goal.returns
returns c on p next step = texts_more on p next step
