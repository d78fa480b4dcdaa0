use Rattle.std.proofs.Common.{sym}
use Rattle.level_text.proofs.Items.{only-two}
use Rattle.level_text.proofs.argument.only_of.Goals as goal

pub returns-in-len2-up : goal.returns-in-len2-up
returns-in-len2-up c = sym (only-two c.args.arguments.now c.in-len2-up.len_at_least)
