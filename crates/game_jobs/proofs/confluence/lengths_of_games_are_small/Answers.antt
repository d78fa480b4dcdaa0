use Rattle.std.proofs.Common.{arith}
use Rattle.job_core.proofs.Holds.{most_below}
use Rattle.game_jobs.specs.Instance.{setup}
use Rattle.game_jobs.proofs.Ends.{few_asked}
use Rattle.game_jobs.proofs.confluence.lengths_of_games_are_small.Goals as goal

pub returns : goal.returns
returns c = λ g n b w k l' p frames agents bands trees.
    most_below (setup g n b w k l' p) frames agents bands (λ f a. let x = few_asked g f a in let y = trees a in omega arith)
