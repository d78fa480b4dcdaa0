use Rattle.commands.proofs.Untouched.{untouched}
use Rattle.commands.proofs.playing.play_input.Goals as goal

pub returns-in-Err-OutOfMemory-clause-err : goal.returns-in-Err-OutOfMemory-clause-err
returns-in-Err-OutOfMemory-clause-err g c = untouched (g.R.Read.remaining c.args.input.now) (g.W.Write.contents c.args.out.now) 3

pub returns-in-Err-Read-clause-err : goal.returns-in-Err-Read-clause-err
returns-in-Err-Read-clause-err g c = untouched (g.R.Read.remaining c.args.input.now) (g.W.Write.contents c.args.out.now) 3
