use Rattle.frame_jobs_laws.specs.Asked.{with_questions}
use Rattle.frame_jobs_laws.proofs.Agree.{runs_agree}
use Rattle.frame_jobs_laws.proofs.Followed.{asks_its_own}
use Rattle.frame_jobs_laws.proofs.laws.own_runs_agree.Goals as goal

pub returns : goal.returns
returns g c = λ game asks s q r w m l p one other a b f h.
    runs_agree game asks s q r w m l p one other
    (asks_its_own game asks (with_questions s q) one a f)
    (asks_its_own game asks (record s { questions = r; workers = w; small = m; large = l; slots = p }) other b h) a b
