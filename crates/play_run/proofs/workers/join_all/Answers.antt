use Rattle.std.proofs.Common.{rules, arith, ◌≡◌, ◌+◌, subst}
use Rattle.band_mail.specs.Mails.{IsPutterOf}
use Rattle.play_run.proofs.Places.{of_rest, of_last, of_one_more}
use Rattle.play_run.proofs.Putting.{one_more}
use Rattle.play_run.proofs.workers.join_all.Goals as goal

pub loop-handle-preserved : goal.loop-handle-preserved
loop-handle-preserved g c =
    let inv = c.loop-handle.invariant in
    let mail = c.args.mail.now in
    let putters = c.loop-handle.putters in
    let handles = c.loop-handle.handles in
    let rest = c.pop.new.self in
    let handle = c.in-Some.handle in
    let popped = c.in-Some.ensures in
    let worked = c.join-share.result in
    let kept : IsPutterOf handle.promise.mail.now worked.putter × (worked.putter.worker ≡ handle.promise.worker) = c.join-share.ensures in
    let mine =
    of_last handles.items rest.items handle (λ k h. (h.promise.mail.now ≡ mail) × (h.promise.worker + k + 1 ≡ c.args.handles.now.len)) popped.items
    (λ k h low. inv.handles k h (omega (arith, low, handles.ok.0))) in
    let more = one_more c.push_reserved.new.self.items putters.items worked.putter c.push_reserved.ensures.items in
    record {
      many = search rules;
      room = search rules;
      parts = search rules;
      told = λ no. omega (arith, more, inv.told (c.lower-cause.ensures no).0, worked.told (c.lower-cause.ensures no).1, c.merge-in-Some.ensures.amount);
      putters =
          of_one_more putters.items c.push_reserved.new.self.items worked.putter (λ k p. (p.worker ≡ k) × IsPutterOf mail p) c.push_reserved.ensures.items inv.putters
          (omega (arith, kept.1, mine.1, inv.many, popped.cases, rest.ok.0, putters.ok.0), subst (λ m. IsPutterOf m worked.putter) mine.0 kept.0);
      handles = λ k h low.
          of_rest handles.items rest.items handle (λ k h. (h.promise.mail.now ≡ mail) × (h.promise.worker + k + 1 ≡ c.args.handles.now.len)) popped.items
          (λ k h low. inv.handles k h (omega (arith, low, handles.ok.0)))
          k h (omega (arith, low, rest.ok.0));
    }
