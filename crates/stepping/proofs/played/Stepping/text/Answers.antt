use Rattle.std.proofs.Common.{◌≤◌, arith, length}
use Rattle.std.specs.Prelude.{IfOk}
use Rattle.std.proofs.lemmas.Result.{IfOk-weaker}
use Rattle.stepping.specs.Played.{most_text}
use Rattle.stepping.proofs.TextLength.{text_length}
use Rattle.stepping.proofs.played.Stepping.text.Goals as goal

pub returns-clause-length : goal.returns-clause-length
returns-clause-length c =
    let x = c.self.inside in
    let statuses = c.deref.result.now in
    let bound : IfOk c.draw_frame.result (λ written. length written.items ≤ most_text x.world) = IfOk-weaker c.draw_frame.result
    _ (λ written. length written.items ≤ most_text x.world)
    (λ written e. rw e (text_length _ x.world x.drawn statuses (omega arith) c.height.ensures.world)) c.draw_frame.ensures in
    rw (← c.self.view_is) bound
