use Rattle.std.proofs.Common.{◌≡◌, ◌-◌, ◌≤◌, suc, false, not, nat_lt, drop, sym, subst, arith}
use Rattle.board_model.specs.Lists.{has}
use Rattle.task_board.proofs.PartOrder.{none_earlier, place_behind}
use Rattle.task_board.proofs.thoughts.place_for.Goals as goal

pub returns-then-other-agent : goal.returns-then-other-agent
returns-then-other-agent c =
    let one : c.thoughts.at ≡ suc (c.thoughts.at - 1) = omega arith in
    let behind = subst (λ k. has (λ x. not (nat_lt c.args.agent x.number)) (drop k c.args.thoughts.now) ≡ false) one c.thoughts.invariant in
    let low : c.index-thoughts-at.result.number ≤ c.args.agent = omega (arith, c.if-other-agent.true, c.agent-other.ensures) in
    let place = place_behind c.args.agent (c.thoughts.at - 1) c.args.thoughts.now c.index-thoughts-at.result c.requires (omega arith) c.index-thoughts-at.is low behind in
    omega (arith, place)

pub returns : goal.returns
returns c =
    let all_looked_at : c.thoughts.at ≡ 0 = omega arith in
    sym (none_earlier c.args.agent c.args.thoughts.now (rw all_looked_at at c.thoughts.invariant))
