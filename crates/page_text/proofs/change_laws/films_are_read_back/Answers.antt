use Rattle.page_text.proofs.Unrolled.{back}
use Rattle.page_text.proofs.change_laws.films_are_read_back.Goals as goal

pub returns : goal.returns
returns c = λ feeds agents frames some few are. back feeds agents frames some few are
