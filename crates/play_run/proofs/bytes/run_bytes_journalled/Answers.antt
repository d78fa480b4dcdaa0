use Rattle.play_run.proofs.Spelled.{played}
use Rattle.play_run.proofs.bytes.run_bytes_journalled.Goals as goal

pub returns-in-Ok-run_journalled-clause-ok : goal.returns-in-Ok-run_journalled-clause-ok
returns-in-Ok-run_journalled-clause-ok g c =
    played (g.W.Write.contents c.args.out.now) (g.W.Write.contents c.run_journalled.new.out) c.args.level.now c.args.script.now c.in-Ok.session c.args.settings c.in-Ok-run_journalled.report
    c.in-Ok.ensures.game c.in-Ok-run_journalled.ensures.played
