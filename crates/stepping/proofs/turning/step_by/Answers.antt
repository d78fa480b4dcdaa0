use Rattle.std.proofs.Common.{◌≡◌, length}
use Rattle.std.proofs.lemmas.Result.{on_err_weaker}
use Rattle.stepping.proofs.Playing.{refused_behind}
use Rattle.stepping.proofs.turning.step_by.Goals as goal

pub returns-clause-err : goal.returns-clause-err
returns-clause-err c =
    let many : length c.args.wanted ≡ 26 = search in
    let in_all = c.in_ok-hand_in_all.ensures in
    on_err_weaker c.step.result (refused_behind c.args.wanted c.args.game.now c.hand_in_all.new.game c.step.new.self many in_all.on in_all.signals) c.step.ensures.err
