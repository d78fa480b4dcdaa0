-- What comes of playing a game to its end, and of failing to.
use Rattle.std.specs.Prelude.{◌≡◌, ℕ, ◌*◌, List, Option, IsSomeAnd, count_by, sum}
use Rattle.std.specs.Io.KnownBytes.{Appends, Keeps}
use Rattle.game_rules.specs.Game.{Game}
use Rattle.game_rules.specs.Text.{texts}
use Rattle.level_text.specs.Games.{spelled_game}
use Rattle.level_text.specs.Sessions.{IsFaultOfBoth}
use Rattle.level_text.specs.declared.session_fault.SessionFault.TheVariants as faults
use Rattle.job_core.specs.Core.{IsComplete}
use Rattle.job_scheduler.specs.Numbers.{Numbers}
use Rattle.frame_state.specs.Contents.{bands_in}
use Rattle.run_shared.specs.Counts.{names_worker}
use Rattle.task_board.specs.Setups.{setup_for}
use Rattle.run_shared.specs.Printed.{WrotePart}
use Rattle.play_run.specs.Reports.{AreStepsOf, AreBandsOf}
use Rattle.play_run.specs.declared.report.RunReport.{RunReport}
use Rattle.play_run.specs.Once.{RunsEachJobOnce}
use Rattle.play_run.specs.declared.play_fault.PlayFault.{PlayFault}
use Rattle.play_run.specs.declared.play_fault.PlayFault.TheVariants.{Level, Script, Run}

-- All frames are written and nothing else, by a complete list of events, and the report counts them.
pub record IsPlayed (old new : Option (List ℕ)) (g : Game) (n : Numbers) (r : RunReport) : Type 0 where
  pub text : Appends old new (texts g n.frames)
  pub frames : r.frames ≡ n.frames
  pub complete : IsComplete (setup_for g n) r.events.items
  pub once : RunsEachJobOnce (setup_for g n) r.events.items
  pub steps : AreStepsOf n.workers r.events.items r.steps.items
  pub total : sum r.steps.items ≡ count_by names_worker r.events.items
  pub bands : AreBandsOf n.workers r.events.items r.bands.items
  pub band_total : sum r.bands.items ≡ n.frames * bands_in g

-- a fault of the level comes before one of the script, and after neither is anything written
abbrev pub IsPlayFault : (old new : Option (List ℕ)) → (level script : List ℕ) → Numbers → PlayFault → Type 0
IsPlayFault old new level script n (Level fault) = IsFaultOfBoth level script (faults.Level fault) × Keeps old new
IsPlayFault old new level script n (Script fault) = IsFaultOfBoth level script (faults.Script fault) × Keeps old new
IsPlayFault old new level script n (Run fault) = IsSomeAnd (spelled_game level script) (λ g. WrotePart old new g n.frames fault.frames)
