use Rattle.commands.proofs.CutJournals.{cut_journal}
use Rattle.commands.proofs.laws.cut_journals_complete.Goals as goal

pub returns : goal.returns
returns c g settings events front rest l legal parts behind = cut_journal g settings events front rest l legal parts behind
