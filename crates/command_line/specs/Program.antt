-- The program's words, and what they ask for.
use Rattle.std.specs.Prelude.{ℕ, ◌≡◌, ◌≢◌, List, [], ◌∷◌, Some, Option, codes, pos, string_bytes, true, option_map, String}
use Rattle.std.specs.Str.Parse.{digits_value, without_leading_plus}
use Rattle.clap.specs.Words.{App, IsAmong, Row, Rule, Text, fault_of, first_of, new_app, new_rule, subcommand_of, with_rule, with_subcommand}
use Rattle.clap.specs.declared.error.kind.ErrorKind.{ErrorKind}
use Rattle.clap.specs.declared.error.kind.ErrorKind.TheVariants as kinds
use Rattle.clap.specs.Simple.{on_top}
use Rattle.clap.specs.declared.builder.value_parser.ValueParser.{ValueParser}
use Rattle.clap.specs.declared.builder.value_parser.ValueParser.TheVariants as parsers
use Rattle.job_scheduler.specs.Numbers.{Numbers}
use Rattle.command_line.specs.declared.words_fault.WordsFault.{WordsFault}
use Rattle.command_line.specs.declared.words_fault.WordsFault.TheVariants.{Help, Version}
use Rattle.command_line.specs.declared.request.Words.{Words}
use Rattle.command_line.specs.declared.request.Words.TheVariants.{Piped, Play, Replay, Check, Explain, Digest, State, Why, Complete, Record}

-- takes a number in a range
abbrev pub in_range : ℕ → ℕ → ValueParser
in_range least most = parsers.Signed (pos least) (pos most)

-- its value has one name, by which help calls it
abbrev pub valued_rule : Text → Rule
valued_rule name = record (new_rule name) { value_names = 1 }

-- an option with a path
abbrev pub path_rule : Text → Rule
path_rule name = record (valued_rule name) { long = Some name }

-- a required option with a text
abbrev pub text_rule : Text → Rule
text_rule name = record (path_rule name) { required = true }

-- an option with a number in a range
abbrev pub ranged_rule : Text → ℕ → ℕ → Rule
ranged_rule name least most = record (path_rule name) { parser = Some (in_range least most) }

-- a required one
abbrev pub number_rule : Text → ℕ → ℕ → Rule
number_rule name least most = record (ranged_rule name least most) { required = true }

-- one with a default
abbrev pub default_rule : Text → ℕ → ℕ → Text → Rule
default_rule name least most value = record (ranged_rule name least most) { defaults = value ∷ [] }

-- a required word
abbrev pub word_rule : Text → Rule
word_rule name = record (valued_rule name) { required = true }

-- `--frames N --workers K`
abbrev pub with_run : App → App
with_run a = with_rule (with_rule a (number_rule (codes "frames") 0 9999)) (number_rule (codes "workers") 1 16)

-- `[--small S] [--large G] [--slots P]`
abbrev pub with_room : App → App
with_room a =
    with_rule (with_rule (with_rule a (default_rule (codes "small") 1 16 (codes "8"))) (default_rule (codes "large") 2 63 (codes "8")))
    (default_rule (codes "slots") 1 16 (codes "3"))

-- `[--script FILE] [--log FILE]`
abbrev pub with_files : App → App
with_files a = with_rule (with_rule a (path_rule (codes "script"))) (path_rule (codes "log"))

-- `play LEVEL --frames N --workers K [--small S] [--large G] [--slots P] [--script FILE] [--log FILE]`
abbrev pub play : App
play = with_files (with_room (with_run (with_rule (new_app (codes "play")) (word_rule (codes "level")))))

-- `replay LEVEL LOG [--script FILE]`
abbrev pub replay : App
replay = with_rule (with_rule (with_rule (new_app (codes "replay")) (word_rule (codes "level"))) (word_rule (codes "log"))) (path_rule (codes "script"))

-- `check LEVEL`
abbrev pub check : App
check = with_rule (new_app (codes "check")) (word_rule (codes "level"))

-- `explain LEVEL [--script FILE] [--log FILE]`
abbrev pub explain : App
explain = with_files (with_rule (new_app (codes "explain")) (word_rule (codes "level")))

-- a level, a number of frames and `[--script FILE]`
abbrev pub frames_of_level : Text → Text → App
frames_of_level name number = with_rule (with_rule (with_rule (new_app name) (word_rule (codes "level"))) (number_rule number 0 9999)) (path_rule (codes "script"))

-- `digest LEVEL --frames N [--script FILE]`
abbrev pub digest : App
digest = frames_of_level (codes "digest") (codes "frames")

-- `state LEVEL --frame F [--script FILE]`
abbrev pub state : App
state = frames_of_level (codes "state") (codes "frame")

-- `why LEVEL --frame F --agent A [--script FILE]`
abbrev pub why : App
why =
    with_rule (with_rule (with_rule (with_rule (new_app (codes "why")) (word_rule (codes "level"))) (number_rule (codes "frame") 1 9999)) (text_rule (codes "agent")))
    (path_rule (codes "script"))

-- `complete LEVEL LOG WHOLE [--script FILE]`
abbrev pub complete : App
complete =
    with_rule (with_rule (with_rule (with_rule (new_app (codes "complete")) (word_rule (codes "level"))) (word_rule (codes "log"))) (word_rule (codes "whole")))
    (path_rule (codes "script"))

-- `record LEVEL JOURNAL --frames N --workers K [--small S] [--large G] [--slots P] [--script FILE]`
abbrev pub recording : App
recording =
    with_rule (with_room (with_run (with_rule (with_rule (new_app (codes "record")) (word_rule (codes "level"))) (word_rule (codes "journal"))))) (path_rule (codes "script"))

-- a program that has a version, and whose words are given without its name
abbrev pub new_program : Text → App
new_program name = on_top (λ s. record s { no_binary_name = true; has_version = true }) (new_app name)

-- the program with its first command, with more, and with all
abbrev pub with_play : App
with_play = with_subcommand (new_program (codes "btworld")) play.top

abbrev pub with_replay : App
with_replay = with_subcommand with_play replay.top

abbrev pub with_check : App
with_check = with_subcommand with_replay check.top

abbrev pub with_explain : App
with_explain = with_subcommand with_check explain.top

abbrev pub with_digest : App
with_digest = with_subcommand with_explain digest.top

abbrev pub with_state : App
with_state = with_subcommand with_digest state.top

abbrev pub with_why : App
with_why = with_subcommand with_state why.top

abbrev pub with_complete : App
with_complete = with_subcommand with_why complete.top

abbrev pub program : App
program = with_subcommand with_complete recording.top

-- the decimal value of an entry
abbrev pub IsNumber : Option Text → ℕ → Type 0
IsNumber entry n = (t : Text) × (entry ≡ Some t) × (n ≡ digits_value 10 (without_leading_plus t))

abbrev pub IsText : {A : Type 0} → List Row → Text → String A → Type 0
IsText rows name s = first_of name rows ≡ Some (string_bytes s)

abbrev pub IsOptional : {A : Type 0} → List Row → Text → Option (String A) → Type 0
IsOptional rows name s = first_of name rows ≡ option_map (λ t. string_bytes t) s

-- each number is its entry's; clap's reading has an entry with the default where the words have none
abbrev pub AreNumbers : List Row → Numbers → Type 0
AreNumbers rows settings = IsNumber (first_of (codes "frames") rows) settings.frames × IsNumber (first_of (codes "workers") rows) settings.workers
    × IsNumber (first_of (codes "small") rows) settings.small × IsNumber (first_of (codes "large") rows) settings.large × IsNumber (first_of (codes "slots") rows) settings.slots

-- clap finds no fault in the words, and its reading is this subcommand with these entries
abbrev pub Enters : List Text → Text → List Row → Type 0
Enters words name rows = (words ≢ []) × (fault_of program words ≡ []) × (subcommand_of program words ≡ Some (name, rows))

-- the words are taken for `play` with so many frames
abbrev pub AsksToPlay : List Text → ℕ → Type 0
AsksToPlay words frames = (rows : List Row) × Enters words (codes "play") rows × IsNumber (first_of (codes "frames") rows) frames

-- the words are taken for `replay`
abbrev pub AsksToReplay : List Text → Type 0
AsksToReplay words = (rows : List Row) × Enters words (codes "replay") rows

-- the words are taken for `check`
abbrev pub AsksToCheck : List Text → Type 0
AsksToCheck words = (rows : List Row) × Enters words (codes "check") rows

-- the words are taken for `explain`
abbrev pub AsksToExplain : List Text → Type 0
AsksToExplain words = (rows : List Row) × Enters words (codes "explain") rows

-- the words are taken for `digest` with so many frames
abbrev pub AsksToDigest : List Text → ℕ → Type 0
AsksToDigest words frames = (rows : List Row) × Enters words (codes "digest") rows × IsNumber (first_of (codes "frames") rows) frames

-- the words are taken for `state` of this frame
abbrev pub AsksForState : List Text → ℕ → Type 0
AsksForState words frame = (rows : List Row) × Enters words (codes "state") rows × IsNumber (first_of (codes "frame") rows) frame

-- the words are taken for `why` of this frame and this agent
abbrev pub AsksWhy : List Text → ℕ → Text → Type 0
AsksWhy words frame agent =
    (rows : List Row) × Enters words (codes "why") rows × IsNumber (first_of (codes "frame") rows) frame × (first_of (codes "agent") rows ≡ Some agent)

-- the words are taken for `complete`
abbrev pub AsksToComplete : List Text → Type 0
AsksToComplete words = (rows : List Row) × Enters words (codes "complete") rows

-- the words are taken for `record` with so many frames
abbrev pub AsksToRecord : List Text → ℕ → Type 0
AsksToRecord words frames = (rows : List Row) × Enters words (codes "record") rows × IsNumber (first_of (codes "frames") rows) frames

-- no words, or the subcommand and the entries of clap's reading
abbrev pub IsReading : List Text → Words → Type 0
IsReading words Piped = words ≡ []
IsReading words (Play level settings script log) = (rows : List Row) × Enters words (codes "play") rows × IsText rows (codes "level") level
    × AreNumbers rows settings × IsOptional rows (codes "script") script × IsOptional rows (codes "log") log
IsReading words (Replay level log script) = (rows : List Row) × Enters words (codes "replay") rows × IsText rows (codes "level") level
    × IsText rows (codes "log") log × IsOptional rows (codes "script") script
IsReading words (Check level) = (rows : List Row) × Enters words (codes "check") rows × IsText rows (codes "level") level
IsReading words (Explain level script log) = (rows : List Row) × Enters words (codes "explain") rows × IsText rows (codes "level") level
    × IsOptional rows (codes "script") script × IsOptional rows (codes "log") log
IsReading words (Digest level frames script) = (rows : List Row) × Enters words (codes "digest") rows × IsText rows (codes "level") level
    × IsNumber (first_of (codes "frames") rows) frames × IsOptional rows (codes "script") script
IsReading words (State level frame script) = (rows : List Row) × Enters words (codes "state") rows × IsText rows (codes "level") level
    × IsNumber (first_of (codes "frame") rows) frame × IsOptional rows (codes "script") script
IsReading words (Why level frame agent script) = (rows : List Row) × Enters words (codes "why") rows × IsText rows (codes "level") level
    × IsNumber (first_of (codes "frame") rows) frame × IsText rows (codes "agent") agent × IsOptional rows (codes "script") script
IsReading words (Complete level log whole script) = (rows : List Row) × Enters words (codes "complete") rows × IsText rows (codes "level") level
    × IsText rows (codes "log") log × IsText rows (codes "whole") whole × IsOptional rows (codes "script") script
IsReading words (Record level journal settings script) = (rows : List Row) × Enters words (codes "record") rows × IsText rows (codes "level") level
    × IsText rows (codes "journal") journal × AreNumbers rows settings × IsOptional rows (codes "script") script

-- neither help nor the version was asked for
abbrev pub IsNoHelp : WordsFault → Type 0
IsNoHelp (Help text) = ⊥
IsNoHelp (Version text) = ⊥
IsNoHelp _ = Unit {0}

-- help and the version are told only of an error that is it
abbrev pub IsToldAs : ErrorKind → WordsFault → Type 0
IsToldAs kind (Help text) = kind ≡ kinds.DisplayHelp
IsToldAs kind (Version text) = kind ≡ kinds.DisplayVersion
IsToldAs kind _ = Unit {0}

-- a program answers help or its version only where clap finds that the words ask for it
abbrev pub IsAskedOf : App → List Text → WordsFault → Type 0
IsAskedOf a words (Help text) = IsAmong kinds.DisplayHelp (fault_of a words)
IsAskedOf a words (Version text) = IsAmong kinds.DisplayVersion (fault_of a words)
IsAskedOf a words _ = Unit {0}

abbrev pub IsAskedFor : List Text → WordsFault → Type 0
IsAskedFor words fault = IsAskedOf program words fault
