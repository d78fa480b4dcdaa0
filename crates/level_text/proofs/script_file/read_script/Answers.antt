use Rattle.std.proofs.Common.{◌∙◌, ◌≤◌, ◌+◌, ◌++◌, sym, ap, arith}
use Rattle.game_session.specs.Changes.{last_frame}
use Rattle.level_text.proofs.ReadLines.{fault_in, changes_in, fault_in-next, changes_in-next, last_frame-push}
use Rattle.level_text.proofs.script_file.read_script.Goals as goal

pub loop-rest-preserved : goal.loop-rest-preserved
loop-rest-preserved c =
    let rises : last_frame c.loop-rest.script ≤ c.in-Some.change.frame = omega arith in
    record {
      fault =
          c.loop-rest.invariant.fault
          ∙ fault_in-next c.loop-rest.rest.now c.first_line.result.0.now c.first_line.result.1.now c.first_line.ensures.lines
          (c.loop-rest.n + 1) (last_frame c.loop-rest.script) c.in-Some.change (sym c.in-Some.ensures) rises
          ∙ ap (λ before. fault_in (c.loop-rest.n + 1 + 1) before c.first_line.result.1.now)
          (sym (ap last_frame c.in_ok-push.ensures.ok ∙ last_frame-push c.loop-rest.script c.in-Some.change));
      made =
          ap (λ changes. changes ++ changes_in c.first_line.result.1.now) c.in_ok-push.ensures.ok
          ∙ changes_in-next c.loop-rest.rest.now c.first_line.result.0.now c.first_line.result.1.now c.first_line.ensures.lines
          c.loop-rest.script c.in-Some.change (sym c.in-Some.ensures)
          ∙ c.loop-rest.invariant.made;
      count = omega (arith, c.loop-rest.invariant.count, c.first_line.ensures.shorter);
    }
