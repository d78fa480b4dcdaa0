use Rattle.std.proofs.Common.{◌∙◌, sym, arith}
use Rattle.job_core.proofs.Computes.{ends_there}
use Rattle.job_core.proofs.Once.{complete_length}
use Rattle.game_jobs.specs.Instance.{played, setup}
use Rattle.game_jobs.proofs.Ends.{stuck_complete}
use Rattle.game_jobs.proofs.confluence.stuck_runs_agree.Goals as goal

pub returns-clause-output : goal.returns-clause-output
returns-clause-output c = λ g n b w k l' p u m m' q one other h i.
    (ends_there (played g) (setup g n b w k l' p) one (stuck_complete (setup g n b w k l' p) one h)).0
    ∙ sym (ends_there (played g) (setup g n b u m m' q) other (stuck_complete (setup g n b u m m' q) other i)).0

pub returns-clause-world : goal.returns-clause-world
returns-clause-world c = λ g n b w k l' p u m m' q one other h i.
    (ends_there (played g) (setup g n b w k l' p) one (stuck_complete (setup g n b w k l' p) one h)).1
    ∙ sym (ends_there (played g) (setup g n b u m m' q) other (stuck_complete (setup g n b u m m' q) other i)).1

pub returns-clause-memories : goal.returns-clause-memories
returns-clause-memories c = λ g n b w k l' p u m m' q one other a h i l.
    (ends_there (played g) (setup g n b w k l' p) one (stuck_complete (setup g n b w k l' p) one h)).2 a l
    ∙ sym ((ends_there (played g) (setup g n b u m m' q) other (stuck_complete (setup g n b u m m' q) other i)).2 a l)

pub returns-clause-length : goal.returns-clause-length
returns-clause-length c = λ g n b w k l' p u m m' q one other h i.
    let x = complete_length (setup g n b w k l' p) one (stuck_complete (setup g n b w k l' p) one h) in
    let y = complete_length (setup g n b u m m' q) other (stuck_complete (setup g n b u m m' q) other i) in
    omega arith
