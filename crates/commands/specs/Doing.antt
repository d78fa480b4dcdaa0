-- What is done for words that name files, of which no contract says what they hold.
use Rattle.std.specs.Prelude.{ℕ, ◌⊎◌, List, Option, Some, None, IsSomeAnd, IsOkAnd, codes, string_bytes}
use Rattle.clap.specs.Words.{Row, Text, first_of, subcommand_of}
use Rattle.std.specs.Io.KnownBytes.{Appends, Keeps}
use Rattle.byte_streams.specs.Streams.{AppendsPart}
use Rattle.game_rules.specs.Text.{texts}
use Rattle.level_text.specs.Games.{spelled_game}
use Rattle.level_text.specs.Levels.{spelled}
use Rattle.command_line.specs.Program.{IsReading, IsNoHelp, IsAskedFor, program}
use Rattle.command_line.specs.declared.words_fault.WordsFault.{WordsFault}
use Rattle.command_line.specs.declared.request.Words.{Words}
use Rattle.command_line.specs.declared.request.Words.TheVariants.{Piped, Play, Replay, Check, Explain, Digest, State, Why, Complete, Record}
use Rattle.commands.specs.Texts.{check_line, digests_text}
use Rattle.commands.specs.Why.{why_text, agent_of_letter}
use Rattle.commands.specs.Written.{WritesSome, WritesPart, CompletesSome, CompletesSomePart, path_of}
use Rattle.stepping.specs.StateText.{scripted_state_text}
use Rattle.commands.specs.Explaining.{IsFaultless}
use Rattle.commands.specs.Replaying.{Shows, ShowsPart}

abbrev pub script_in : Option (Text × List Row) → Option Text
script_in None = None
script_in (Some entered) = first_of (codes "script") entered.1

-- the path of the script that the words name, if they name one
abbrev pub script_named : List Text → Option Text
script_named words = script_in (subcommand_of program words)

-- the first frames of the game that some level and the script of this path spell were written
abbrev pub PlaysSome : (old new path : Option (List ℕ)) → ℕ → Type 0
PlaysSome old new path frames = WritesSome old new path (λ g. texts g frames)

-- nothing was written, or a first part of such frames
abbrev pub PlaysPart : (old new path : Option (List ℕ)) → ℕ → Type 0
PlaysPart old new path frames = WritesPart old new path (λ g. texts g frames)

-- the frames were written that some log shows of the game that some level and script spell, and it shows all
abbrev pub ReplaysSome : (old new : Option (List ℕ)) → Type 0
ReplaysSome old new = (level : List ℕ) × (script : List ℕ) × (log : List ℕ) × IsSomeAnd (spelled_game level script) (Shows old new log)

-- nothing was written, or a first part of the frames that such a log shows
abbrev pub ReplaysPart : (old new : Option (List ℕ)) → Type 0
ReplaysPart old new =
    Keeps old new ⊎ ((level : List ℕ) × (script : List ℕ) × (log : List ℕ) × IsSomeAnd (spelled_game level script) (ShowsPart old new log))

-- the line of a level that some bytes spell was written
abbrev pub ChecksSome : (old new : Option (List ℕ)) → Type 0
ChecksSome old new = (level : List ℕ) × IsOkAnd (spelled level) (λ l. Appends old new (check_line l))

-- nothing was written, or a first part of such a line
abbrev pub ChecksPart : (old new : Option (List ℕ)) → Type 0
ChecksPart old new = Keeps old new ⊎ ((level : List ℕ) × IsOkAnd (spelled level) (λ l. AppendsPart old new (check_line l)))

-- `ok` was written, and some level and script spell a game, of which the log, where the words name one, is whole
abbrev pub ExplainsSome : (old new : Option (List ℕ)) → Type 0
ExplainsSome old new =
    (level : List ℕ) × (script : List ℕ) × (log : Option (List ℕ)) × IsFaultless level script log × Appends old new (codes "ok\n")

-- by clap's reading the words are no command's, and don't ask for help
abbrev pub AreRefused : List (List ℕ) → Type 0
AreRefused words = ((w : Words) → IsReading words w → ⊥) × ((f : WordsFault) → IsAskedFor words f → IsNoHelp f)

-- what the words ask for is done
abbrev pub IsDone : (old new : Option (List ℕ)) → Words → Type 0
IsDone old new Piped = Unit {0}
IsDone old new (Play level settings script log) = PlaysSome old new (path_of script) settings.frames
IsDone old new (Replay level log script) = ReplaysSome old new
IsDone old new (Check level) = ChecksSome old new
IsDone old new (Explain level script log) = ExplainsSome old new
IsDone old new (Digest level frames script) = WritesSome old new (path_of script) (λ g. digests_text g frames)
IsDone old new (State level frame script) = WritesSome old new (path_of script) (λ g. scripted_state_text g frame)
IsDone old new (Why level frame agent script) = WritesSome old new (path_of script) (λ g. why_text g frame (agent_of_letter (string_bytes agent)))
IsDone old new (Complete level log whole script) = CompletesSome old new
IsDone old new (Record level journal settings script) = PlaysSome old new (path_of script) settings.frames

-- words that don't ask for a reason
abbrev pub AsksNoReason : Words → Type 0
AsksNoReason (Explain level script log) = ⊥
AsksNoReason words = Unit {0}

-- or a part of it
abbrev pub IsPartDone : (old new : Option (List ℕ)) → Words → Type 0
IsPartDone old new Piped = Unit {0}
IsPartDone old new (Play level settings script log) = PlaysPart old new (path_of script) settings.frames
IsPartDone old new (Replay level log script) = ReplaysPart old new
IsPartDone old new (Check level) = ChecksPart old new
IsPartDone old new (Explain level script log) = Unit {0}
IsPartDone old new (Digest level frames script) = WritesPart old new (path_of script) (λ g. digests_text g frames)
IsPartDone old new (State level frame script) = WritesPart old new (path_of script) (λ g. scripted_state_text g frame)
IsPartDone old new (Why level frame agent script) = WritesPart old new (path_of script) (λ g. why_text g frame (agent_of_letter (string_bytes agent)))
IsPartDone old new (Complete level log whole script) = CompletesSomePart old new
IsPartDone old new (Record level journal settings script) = PlaysPart old new (path_of script) settings.frames
