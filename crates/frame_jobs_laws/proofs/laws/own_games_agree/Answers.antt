use Rattle.frame_jobs_laws.proofs.Agree.{runs_agree}
use Rattle.frame_jobs_laws.proofs.laws.own_games_agree.Goals as goal

pub returns : goal.returns
returns g c = λ game asks s q r w m l p one other aq ar a b. runs_agree game asks s q r w m l p one other aq ar a b
