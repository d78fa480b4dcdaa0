use Rattle.std.proofs.Common.{rules, arith, ◌≡◌, ◌+◌}
use Rattle.band_mail.specs.Mails.{IsPutterOf}
use Rattle.play_run.proofs.Places.{of_rest, of_one_more}
use Rattle.play_run.proofs.Putting.{one_more}
use Rattle.play_run.proofs.workers.spawn_all.Goals as goal

pub loop-putter-preserved : goal.loop-putter-preserved
loop-putter-preserved g c =
    let inv = c.loop-putter.invariant in
    let mail = c.args.shared.now.mail in
    let putters = c.loop-putter.putters in
    let rest = c.pop.new.self in
    let handles = c.loop-putter.handles in
    let popped = c.in-Some.ensures in
    let promised = c.in-Some-spawn.ensures.handle in
    let more = one_more putters.items rest.items c.in-Some.putter popped.items in
    record {
      many = search rules;
      room = search rules;
      parts = search rules;
      nothing_put = omega (arith, more, inv.nothing_put);
      putters = of_rest putters.items rest.items c.in-Some.putter (λ k p. (p.worker ≡ k) × IsPutterOf mail p) popped.items inv.putters;
      handles = λ k h low.
          of_one_more handles.items c.push_reserved.new.self.items c.in-Some-spawn.handle
          (λ k h. (h.promise.mail.now ≡ mail) × (h.promise.worker + k + 1 ≡ c.args.putters.now.len))
          c.push_reserved.ensures.items
          (λ k h low. inv.handles k h (omega (arith, low, handles.ok.0)))
          (promised.0, omega (arith, promised.1, c.len-worker.ensures, inv.many, popped.cases, handles.ok.0))
          k h (omega (arith, low, c.push_reserved.new.self.ok.0));
    }
