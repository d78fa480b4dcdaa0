use Rattle.page_text.proofs.ReadBack.{read_back}
use Rattle.page_text.proofs.change_laws.lines_are_read_back.Goals as goal

pub returns : goal.returns
returns c = λ changes rest can. read_back changes rest can
