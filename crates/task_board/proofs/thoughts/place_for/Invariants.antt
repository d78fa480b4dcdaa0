use Rattle.std.proofs.Common.{◌≡◌, false, not, nat_lt, drop}
use Rattle.board_model.specs.Lists.{has}
use Rattle.task_board.proofs.thoughts.place_for.Given as goal

-- all that were looked at are later
abbrev pub invariant-thoughts : goal.invariant-thoughts
invariant-thoughts l = has (λ x. not (nat_lt l.agent x.number)) (drop l.at l.thoughts) ≡ false
