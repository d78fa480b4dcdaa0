-- What is told of the first fault of a level and a script.
use Rattle.std.specs.Prelude.{ℕ, ◌≡◌, ◌⊎◌, List, [], IsSome}
use Rattle.fault_reasons.specs.declared.reason.Reason.{Reason}
use Rattle.fault_reasons.specs.Reasons.{reason_text, IsFirstReason}
use Rattle.level_text.specs.Games.{spelled_game}

-- its place and its reason; nothing where they spell a game
abbrev pub IsExplained : (level script text : List ℕ) → Type 0
IsExplained level script text =
    (IsSome (spelled_game level script) × (text ≡ [])) ⊎ ((reason : Reason) × IsFirstReason level script reason × (text ≡ reason_text reason))
