use Rattle.page_text.proofs.NoMark.{no_mark}
use Rattle.page_text.proofs.change_laws.films_have_no_mark.Goals as goal

pub returns : goal.returns
returns c = λ feeds agents frames few are other. no_mark feeds agents frames few are other
