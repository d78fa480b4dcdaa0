-- What clap's matches say that the words enter.
use Rattle.std.specs.Prelude.{◌≡◌, List, Some}
use Rattle.clap.specs.Words.{Row, Text, subcommand_rows_of}
use Rattle.clap.specs.declared.parser.matches.ArgMatches.{ArgMatches}
use Rattle.command_line.specs.Program.{Enters}

-- the words enter the subcommand that the matches have
abbrev pub IsEntered : List Text → ArgMatches → Type 0
IsEntered words m = (name : Text) (rows : List Row) → subcommand_rows_of m ≡ Some (name, rows) → Enters words name rows
