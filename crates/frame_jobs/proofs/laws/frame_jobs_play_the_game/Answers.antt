use Rattle.job_core.proofs.Computes.{emits_texts}
use Rattle.frame_jobs_laws.proofs.Bound.{bounded}
use Rattle.job_scheduler.specs.Logged.{setup_of}
use Rattle.frame_jobs.proofs.laws.frame_jobs_play_the_game.Goals as goal

pub returns-clause-frames : goal.returns-clause-frames
returns-clause-frames g c = λ game b k. emits_texts game (setup_of b.jobs k.questions) b.jobs.events k.lawful

pub returns-clause-bounded : goal.returns-clause-bounded
returns-clause-bounded g c = λ b k on. bounded (setup_of b.jobs k.questions) b.jobs.events b.most_questions k.few (k.lawful, on)
