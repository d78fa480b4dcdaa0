use Rattle.frame_jobs_laws.proofs.Open.{open_list}
use Rattle.frame_jobs_laws.proofs.laws.questions_are_open.Goals as goal

pub returns : goal.returns
returns c = λ s events f a n p l h. open_list s f a n p events l h
