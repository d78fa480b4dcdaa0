use Rattle.std.proofs.Common.{rules, ◌≡◌, ◌+◌, ◌<◌, arith, ap, sym, ◌∙◌}
use Rattle.std.specs.Io.KnownBytes.{Appends}
use Rattle.std.proofs.KnownBytes.{Appends-kept}
use Rattle.game_rules.specs.Text.{texts, frame_text}
use Rattle.run_shared.proofs.Texts.{one_more, part-of_more, part-of_whole}
use Rattle.run_printer.proofs.Journals.{caught_up, all_taken, broken_off, shown_more, none_shown}
use Rattle.run_printer.proofs.printer.print.Goals as goal

pub returns-in-Err-clause-err : goal.returns-in-Err-clause-err
returns-in-Err-clause-err g c =
    part-of_whole _ _ c.args.session.now _ c.loop-done.done (omega (arith, c.loop-done-test.true, c.frames-last.ensures.value)) c.loop-done.invariant.3

pub returns-in-Err-write_whole-clause-err : goal.returns-in-Err-write_whole-clause-err
returns-in-Err-write_whole-clause-err g c =
    let session = c.args.session.now in
    let done = c.loop-done.done in
    let below : done < c.args.settings.frames = omega (arith, c.loop-done-test.true, c.frames-last.ensures.value) in
    let text : c.deref.result.now ≡ frame_text session (done + 1) = c.deref.ensures.value ∙ c.in-Ok.ensures.text in
    part-of_more _ _ _ session c.args.settings.frames done _ below (rw text at c.in-Err-write_whole.ensures.not_all) c.loop-done.invariant.3 (rw text at c.in-Err-write_whole.ensures.err)

pub returns-in-Err-flush-clause-err : goal.returns-in-Err-flush-clause-err
returns-in-Err-flush-clause-err g c =
    let wrote : Appends (g.W.Write.contents c.args.out.now) (g.W.Write.contents c.loop-done.out) (texts c.args.session.now c.args.settings.frames) = search rules in
    rw c.frames-last.ensures.value
    (part-of_whole _ _ c.args.session.now c.args.settings.frames c.args.settings.frames (omega arith) (Appends-kept _ _ _ _ wrote c.in-Err-flush.ensures.bytes))

pub returns-in-Err-note_news-clause-err : goal.returns-in-Err-note_news-clause-err
returns-in-Err-note_news-clause-err g c =
    let session = c.args.session.now in
    let done = c.loop-done.done in
    part-of_whole _ _ session _ (done + 1) (omega (arith, c.loop-done-test.true, c.frames-last.ensures.value))
    (one_more _ _ _ session done c.deref.result.now (c.deref.ensures.value ∙ c.in-Ok.ensures.text) c.loop-done.invariant.3 c.in-Ok-write_whole.ensures.ok)

pub returns-in-Err-clause-part : goal.returns-in-Err-clause-part
returns-in-Err-clause-part g c = all_taken _ _ c.loop-done.noted.items c.loop-done.invariant.4

pub returns-in-Err-write_whole-clause-part : goal.returns-in-Err-write_whole-clause-part
returns-in-Err-write_whole-clause-part g c = all_taken _ _ c.loop-done.noted.items c.loop-done.invariant.4

pub returns-in-Err-note_news-clause-part : goal.returns-in-Err-note_news-clause-part
returns-in-Err-note_news-clause-part g c = broken_off _ _ _ c.loop-done.noted.items c.note_news.new.noted.items c.loop-done.invariant.4 c.in-Err-note_news.ensures.err

pub returns-in-Err-flush-clause-part : goal.returns-in-Err-flush-clause-part
returns-in-Err-flush-clause-part g c = all_taken _ _ c.loop-done.noted.items c.loop-done.invariant.4

pub loop-done-preserved : goal.loop-done-preserved
loop-done-preserved g c =
    let inv = c.loop-done.invariant in (
      c.next_text.ensures.mail,
      c.next_text.ensures.parts ∙ inv.1,
      omega (arith, c.in-Ok.ensures.counted, inv.2),
      one_more _ _ _ c.args.session.now c.loop-done.done c.deref.result.now (c.deref.ensures.value ∙ c.in-Ok.ensures.text) inv.3 c.in-Ok-write_whole.ensures.ok,
      caught_up _ _ _ c.loop-done.noted.items c.note_news.new.noted.items inv.4 c.in-Ok-note_news.ensures.ok,
      c.in-Ok-note_news.ensures.follower ∙ inv.5,
      λ follows.
          shown_more c.loop-done.noted.items c.in-Ok-note_news.ensures.ok.0 c.note_news.new.noted.items c.loop-done.done c.in-Ok-note_news.ensures.ok.1 (inv.6 follows)
          (c.in-Ok-note_news.ensures.shown (inv.5 ∙ follows)),
    )
