use Rattle.std.proofs.Common.{subst, sym, arith}
use Rattle.frame_jobs.specs.Boards.{IsOpen}
use Rattle.frame_jobs.proofs.board.FrameJobs.new.Goals as goal

pub invariant_of-result : goal.invariant_of-result
invariant_of-result c = subst (λ v. IsOpen (record { jobs = v; most_questions = c.args.most_questions })) (sym c.in_ok-jobs.ensures) (record { questions = λ f a. 0; few = λ f a. omega arith; lawful = tt; within = c.limits_hold.ensures })
