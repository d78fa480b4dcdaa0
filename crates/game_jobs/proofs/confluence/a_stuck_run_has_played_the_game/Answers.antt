use Rattle.std.proofs.Common.{◌∙◌}
use Rattle.job_core.proofs.Computes.{ends_there}
use Rattle.job_core.proofs.Once.{each_once}
use Rattle.game_jobs.specs.Instance.{played, setup}
use Rattle.game_jobs.proofs.Same.{same, same_texts}
use Rattle.game_jobs.proofs.Ends.{stuck_complete}
use Rattle.game_jobs.proofs.confluence.a_stuck_run_has_played_the_game.Goals as goal

pub returns-clause-complete : goal.returns-clause-complete
returns-clause-complete c = λ g n b w k l' p es h. stuck_complete (setup g n b w k l' p) es h

pub returns-clause-output : goal.returns-clause-output
returns-clause-output c = λ g n b w k l' p es h. (ends_there (played g) (setup g n b w k l' p) es (stuck_complete (setup g n b w k l' p) es h)).0 ∙ same_texts g n

pub returns-clause-world : goal.returns-clause-world
returns-clause-world c = λ g n b w k l' p es h. (ends_there (played g) (setup g n b w k l' p) es (stuck_complete (setup g n b w k l' p) es h)).1 ∙ (same g n).world

pub returns-clause-memories : goal.returns-clause-memories
returns-clause-memories c = λ g n b w k l' p es i h m. (ends_there (played g) (setup g n b w k l' p) es (stuck_complete (setup g n b w k l' p) es h)).2 i m ∙ (same g n).memories i m

pub returns-clause-once : goal.returns-clause-once
returns-clause-once c = λ g n b w k l' p es j h v. each_once (setup g n b w k l' p) es (stuck_complete (setup g n b w k l' p) es h) j v
