use Rattle.std.proofs.Common.{refl, []}
use Rattle.level_text.proofs.FirstLines.{first_line_ends, one_line}
use Rattle.level_text.proofs.script_file.first_line.Goals as goal

pub returns-in-Some-clause-lines : goal.returns-in-Some-clause-lines
returns-in-Some-clause-lines c = first_line_ends _ _ _ c.in-Some.ensures.parts c.in-Some.ensures.first

pub returns-in-None-clause-lines : goal.returns-in-None-clause-lines
returns-in-None-clause-lines c = one_line c.args.bytes.now [] c.requires c.in-None.ensures.none refl
