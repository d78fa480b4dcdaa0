use Rattle.std.proofs.Common.{arith}
use Rattle.stepping.proofs.Onward.{scripted_on, scripted_position, scripted_texts}
use Rattle.stepping.proofs.laws.scripted_steps_play_the_script.Goals as goal

pub returns-clause-begins : goal.returns-clause-begins
returns-clause-begins c g script k some within = absurd (omega (arith, some, within))

pub returns-clause-goes_on : goal.returns-clause-goes_on
returns-clause-goes_on c p next by step = scripted_on p by next step

pub returns-clause-position : goal.returns-clause-position
returns-clause-position c p by = scripted_position p by

pub returns-clause-texts : goal.returns-clause-texts
returns-clause-texts c p by = scripted_texts p by
