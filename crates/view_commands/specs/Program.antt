-- The viewer's words, and what they ask for.
use Rattle.std.specs.Prelude.{ℕ, ◌≡◌, ◌≢◌, List, [], Some, codes}
use Rattle.clap.specs.Words.{App, IsAmong, Row, Text, fault_of, first_of, new_app, subcommand_of, subcommand_rows_of, with_rule, with_subcommand}
use Rattle.clap.specs.declared.error.kind.ErrorKind.TheVariants as kinds
use Rattle.clap.specs.declared.parser.matches.ArgMatches.{ArgMatches}
use Rattle.trace_text.specs.declared.span.FrameSpan.{FrameSpan}
use Rattle.command_line.specs.declared.words_fault.WordsFault.{WordsFault}
use Rattle.command_line.specs.Program.{default_rule, new_program, path_rule, word_rule, IsAskedOf, IsNumber, IsOptional, IsText}
use Rattle.view_commands.specs.declared.request.ViewWords.{ViewWords}
use Rattle.view_commands.specs.declared.request.ViewWords.TheVariants.{Trace, Page}

-- `[--from F] [--to T]`, up to this frame
abbrev pub with_frames_to : (most : ℕ) (last : Text) → App → App
with_frames_to most last a = with_rule (with_rule a (default_rule (codes "from") 1 most (codes "1"))) (default_rule (codes "to") 1 most last)

-- those of a run of a level
abbrev pub with_frames : App → App
with_frames a = with_frames_to 9999 (codes "9999") a

-- `trace LOG [--from F] [--to T]`
abbrev pub trace : App
trace = with_frames_to 4294967295 (codes "4294967295") (with_rule (new_app (codes "trace")) (word_rule (codes "log")))

-- `page LEVEL LOG [--script FILE] [--live FILE] [--from F] [--to T]`
abbrev pub page : App
page =
    with_frames
    (with_rule
    (with_rule (with_rule (with_rule (new_app (codes "page")) (word_rule (codes "level"))) (word_rule (codes "log"))) (path_rule (codes "script")))
    (path_rule (codes "live")))

-- the viewer with its first command, and with both
abbrev pub with_trace : App
with_trace = with_subcommand (new_program (codes "btview")) trace.top

abbrev pub program : App
program = with_subcommand with_trace page.top

-- clap finds no fault in the words, and its reading is this subcommand with these entries
abbrev pub Enters : List Text → Text → List Row → Type 0
Enters words name rows = (words ≢ []) × (fault_of program words ≡ []) × (subcommand_of program words ≡ Some (name, rows))

-- the words enter the subcommand that the matches have
abbrev pub IsEntered : List Text → ArgMatches → Type 0
IsEntered words m = (name : Text) (rows : List Row) → subcommand_rows_of m ≡ Some (name, rows) → Enters words name rows

-- clap finds a fault in the words, which ask neither for help nor for the version
abbrev pub AreRefused : List Text → Type 0
AreRefused words =
    (words ≢ []) × (fault_of program words ≢ []) × (IsAmong kinds.DisplayHelp (fault_of program words) → ⊥) × (IsAmong kinds.DisplayVersion (fault_of program words) → ⊥)

-- the frames that the entries name; clap's reading has an entry with the default where the words have none
abbrev pub AreFrames : List Row → FrameSpan → Type 0
AreFrames rows frames = IsNumber (first_of (codes "from") rows) frames.first × IsNumber (first_of (codes "to") rows) frames.last

-- the words are taken for `trace` of these frames
abbrev pub AsksToTrace : List Text → FrameSpan → Type 0
AsksToTrace words frames = (rows : List Row) × Enters words (codes "trace") rows × AreFrames rows frames

-- the words are taken for `page` of these frames
abbrev pub AsksForPage : List Text → FrameSpan → Type 0
AsksForPage words frames = (rows : List Row) × Enters words (codes "page") rows × AreFrames rows frames

-- the subcommand and the entries of clap's reading
abbrev pub IsReading : List Text → ViewWords → Type 0
IsReading words (Trace log frames) = (rows : List Row) × Enters words (codes "trace") rows × IsText rows (codes "log") log × AreFrames rows frames
IsReading words (Page level log script live frames) = (rows : List Row) × Enters words (codes "page") rows × IsText rows (codes "level") level
    × IsText rows (codes "log") log × IsOptional rows (codes "script") script × IsOptional rows (codes "live") live × AreFrames rows frames

-- help or the version is answered only where clap finds that the words ask for it
abbrev pub IsAskedFor : List Text → WordsFault → Type 0
IsAskedFor words fault = IsAskedOf program words fault
