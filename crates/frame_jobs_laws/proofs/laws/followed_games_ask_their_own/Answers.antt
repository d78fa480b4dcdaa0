use Rattle.frame_jobs_laws.proofs.Followed.{asks_its_own}
use Rattle.frame_jobs_laws.proofs.laws.followed_games_ask_their_own.Goals as goal

pub returns : goal.returns
returns g c = λ game asks s es c o. asks_its_own game asks s es c o
