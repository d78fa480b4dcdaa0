use Rattle.page_text.proofs.Marks.{escaped_other}
use Rattle.page_text.proofs.laws.nothing_ends_early.Goals as goal

pub returns : goal.returns
returns c = λ text. escaped_other text
