use Rattle.std.proofs.Common.{[], refl}
use Rattle.page_text.proofs.Given.{given}
use Rattle.page_text.proofs.change_laws.changes_give_the_new_text.Goals as goal

pub returns : goal.returns
returns c = λ old new e. given [] old new 0 refl e
