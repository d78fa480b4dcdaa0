use Rattle.commands.proofs.Played.{whole_text, whole_list, part_of_text, fault_of_game}
use Rattle.commands.proofs.playing.play_bytes.Goals as goal

pub returns-in-Ok-clause-ok : goal.returns-in-Ok-clause-ok
returns-in-Ok-clause-ok g c =
    whole_text (g.W.Write.contents c.args.out.now) (g.W.Write.contents c.run_bytes.new.out) _ c.args.settings c.in-Ok.report c.in-Ok.ensures.ok

pub returns-in-Ok-clause-events : goal.returns-in-Ok-clause-events
returns-in-Ok-clause-events g c =
    whole_list (g.W.Write.contents c.args.out.now) (g.W.Write.contents c.run_bytes.new.out) _ c.args.settings c.in-Ok.report c.in-Ok.ensures.ok

pub returns-in-Err-clause-err : goal.returns-in-Err-clause-err
returns-in-Err-clause-err g c =
    part_of_text (g.W.Write.contents c.args.out.now) (g.W.Write.contents c.run_bytes.new.out) c.args.level.now c.args.script.now c.args.settings c.in-Err.fault c.in-Err.ensures.err

pub returns-in-Err-clause-fault : goal.returns-in-Err-clause-fault
returns-in-Err-clause-fault g c =
    fault_of_game (g.W.Write.contents c.args.out.now) (g.W.Write.contents c.run_bytes.new.out) c.args.level.now c.args.script.now c.args.settings c.in-Err.fault c.in-Err.ensures.err
