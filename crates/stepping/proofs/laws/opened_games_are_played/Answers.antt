use Rattle.std.proofs.Common.{refl}
use Rattle.stepping.proofs.Onward.{played_still, played_further, played_text}
use Rattle.stepping.proofs.laws.opened_games_are_played.Goals as goal

pub returns-clause-begins : goal.returns-clause-begins
returns-clause-begins c g script = record { position = refl; answers = refl }

pub returns-clause-stays : goal.returns-clause-stays
returns-clause-stays c p next is on = played_still p next is on

pub returns-clause-goes_on : goal.returns-clause-goes_on
returns-clause-goes_on c on p next is step = played_further on p next is step

pub returns-clause-text : goal.returns-clause-text
returns-clause-text c p is some = played_text p is some
