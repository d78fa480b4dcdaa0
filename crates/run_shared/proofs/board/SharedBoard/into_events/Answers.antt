use Rattle.std.proofs.Common.{◌∙◌, sym, subst, true≢false}
use Rattle.run_shared.specs.Holds.{IsDone}
use Rattle.run_shared.proofs.Counting.{complete_for, some_game, some_numbers}
use Rattle.run_shared.proofs.board.SharedBoard.into_events.Goals as goal

pub returns-then-is_done-clause-complete : goal.returns-then-is_done-clause-complete
returns-then-is_done-clause-complete g c = λ game numbers named numbered.
    let board = c.self.inside.board in
    complete_for board game numbers c.into_events.result.items
    (some_game board.game game (sym c.self.inside.game_is ∙ named)) (some_numbers board.numbers numbers (sym c.self.inside.numbers_are ∙ numbered))
    c.into_events.ensures (c.is_done.ensures.0 c.if-is_done.true)

pub returns-clause-none : goal.returns-clause-none
returns-clause-none g c = λ none done. true≢false (sym (c.is_done.ensures.1 (subst IsDone (sym c.self.view_is) done)) ∙ c.if-is_done.false)
