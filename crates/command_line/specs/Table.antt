-- What the table of commands says of clap's arguments and commands.
use Rattle.std.specs.Prelude.{fold}
use Rattle.clap.specs.Words.{App, Rule, new_app, with_rule, with_subcommand}
use Rattle.command_line.specs.Program.{default_rule, text_rule, number_rule, path_rule, word_rule}
use Rattle.command_line.specs.declared.table.Argument.{Argument}
use Rattle.command_line.specs.declared.table.Form.{Form}
use Rattle.command_line.specs.declared.table.Form.TheVariants.{Place, Path, Number, Default, Text}
use Rattle.command_line.specs.declared.table.Subcommand.{Subcommand}

abbrev pub rule_by : Form → Argument → Rule
rule_by Place a = word_rule a.name.now
rule_by Path a = path_rule a.name.now
rule_by Text a = text_rule a.name.now
rule_by (Number least most) a = number_rule a.name.now least most
rule_by (Default least most value) a = default_rule a.name.now least most value.now

abbrev pub rule_in : Argument → Rule
rule_in a = rule_by a.form a

abbrev pub with_argument : App → Argument → App
with_argument app a = with_rule app (rule_in a)

abbrev pub app_in : Subcommand → App
app_in s = fold with_argument (new_app s.name.now) s.arguments.now

abbrev pub with_listed : App → Subcommand → App
with_listed app s = with_subcommand app (app_in s).top
