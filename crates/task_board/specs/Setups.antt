-- The jobs of a run.
use Rattle.game_rules.specs.Game.{Game}
use Rattle.job_core.specs.Core.{Setup}
use Rattle.game_jobs.specs.Instance.{setup}
use Rattle.draw_list.specs.Bands.{band_count}
use Rattle.job_scheduler.specs.Numbers.{Numbers}

-- the jobs of a game's frames under these numbers
abbrev pub setup_for : Game → Numbers → Setup
setup_for g n = setup g n.frames (band_count g.world.height) n.workers n.small n.large n.slots
