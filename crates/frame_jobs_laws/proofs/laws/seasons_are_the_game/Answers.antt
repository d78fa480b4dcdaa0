use Rattle.frame_jobs_laws.proofs.Seasons.{same_texts, same_world, same_memory}
use Rattle.frame_jobs_laws.proofs.laws.seasons_are_the_game.Goals as goal

pub returns-clause-texts : goal.returns-clause-texts
returns-clause-texts g c = λ game agents q n m. same_texts game agents q n m

pub returns-clause-world : goal.returns-clause-world
returns-clause-world g c = λ game agents q n m. same_world game agents q n m

pub returns-clause-memories : goal.returns-clause-memories
returns-clause-memories g c = λ game agents q n m a. same_memory game agents q n m a
