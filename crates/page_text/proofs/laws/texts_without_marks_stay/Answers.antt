use Rattle.page_text.proofs.Marks.{escaped_same}
use Rattle.page_text.proofs.laws.texts_without_marks_stay.Goals as goal

pub returns : goal.returns
returns c = λ text other. escaped_same text other
