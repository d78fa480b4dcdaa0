-- Whether a parked tick is of another job, question or game than that at which a worker stands.
use Rattle.std.specs.Prelude.{◌≡◌, ℕ, ◌⊎◌}
use Rattle.game_rules.specs.Game.{Game}
use Rattle.job_core.specs.declared.names.JobName.{JobName}
use Rattle.job_core.specs.declared.names.JobName.TheVariants.{Think}
use Rattle.frame_state.specs.Names.{QuestionOf}

abbrev pub IsOtherParked : QuestionOf → Game → JobName → ℕ → Type 0
IsOtherParked parked g job step = (Think parked.frame parked.agent ≡ job → ⊥) ⊎ ((parked.question ≡ step → ⊥) ⊎ (parked.game ≡ g → ⊥))
