use Rattle.board_model.proofs.Fit.{fits}
use Rattle.board_model.proofs.laws.what_is_kept_fits.Goals as goal

pub returns : goal.returns
returns c = λ s log p l. fits s log p l
