use Rattle.command_line.proofs.Statuses.{on_err}
use Rattle.commands.proofs.Doing.{played_part, plays_part}
use Rattle.commands.proofs.Written.{is_script}
use Rattle.commands.proofs.playing.play_files.Goals as goal

pub returns-clause-ok : goal.returns-clause-ok
returns-clause-ok g c = (c.deref.result.now, c.deref-2.result.now, (is_script c.args.script _ c.in_ok-script.script.items c.in_ok-script.ensures.none c.deref-2.ensures.value), c.in-Ok.ensures.ok)

pub returns-in-Err-clause-part : goal.returns-in-Err-clause-part
returns-in-Err-clause-part g c =
    played_part (g.W.Write.contents c.args.out.now) (g.W.Write.contents c.play_bytes.new.out) _ c.deref.result.now c.deref-2.result.now
    c.args.settings.frames (is_script c.args.script _ c.in_ok-script.script.items c.in_ok-script.ensures.none c.deref-2.ensures.value) c.in-Err.ensures.err

pub returns-in_err-text-clause-part : goal.returns-in_err-text-clause-part
returns-in_err-text-clause-part g c =
    on_err c.from_residual-in_err-text.result _
    (plays_part (g.W.Write.contents c.args.out.now) (g.W.Write.contents c.play_bytes.new.out) _ c.args.settings.frames
    (c.deref.result.now, c.deref-2.result.now, (is_script c.args.script _ c.in_ok-script.script.items c.in_ok-script.ensures.none c.deref-2.ensures.value), c.in-Ok.ensures.ok))

pub returns-in_err-write_file-clause-part : goal.returns-in_err-write_file-clause-part
returns-in_err-write_file-clause-part g c =
    on_err c.from_residual-in_err-write_file.result _
    (plays_part (g.W.Write.contents c.args.out.now) (g.W.Write.contents c.play_bytes.new.out) _ c.args.settings.frames
    (c.deref.result.now, c.deref-2.result.now, (is_script c.args.script _ c.in_ok-script.script.items c.in_ok-script.ensures.none c.deref-2.ensures.value), c.in-Ok.ensures.ok))
