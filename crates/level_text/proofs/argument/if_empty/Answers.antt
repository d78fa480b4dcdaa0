use Rattle.std.proofs.Common.{sym}
use Rattle.level_text.proofs.Items.{if_empty-one}
use Rattle.level_text.proofs.argument.if_empty.Goals as goal

pub returns-in-len1-up : goal.returns-in-len1-up
returns-in-len1-up g c = sym (if_empty-one c.args.arguments.now c.args.what c.in-len1-up.len_at_least)
