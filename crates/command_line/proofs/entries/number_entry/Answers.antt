use Rattle.std.proofs.Common.{◌∙◌, sym}
use Rattle.clap.specs.Words.{found_of}
use Rattle.clap.proofs.WalkLemmas.{first_value-rows}
use Rattle.command_line.proofs.entries.number_entry.Goals as goal

pub returns-in-Ok-clause-number : goal.returns-in-Ok-clause-number
returns-in-Ok-clause-number c = (
  c.in-Some.text.now,
  sym (first_value-rows (found_of c.args.matches.now) c.args.name.now) ∙ sym c.in-Some.ensures,
  c.in-Ok.ensures.value.0.1,
)
