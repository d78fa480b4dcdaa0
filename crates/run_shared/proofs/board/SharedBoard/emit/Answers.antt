use Rattle.std.proofs.Common.{◌≡◌, ◌∙◌, count_by, subst, arith}
use Rattle.task_board.specs.Boards.{Played, IsEmitRefused}
use Rattle.run_shared.specs.Counts.{is_emit}
use Rattle.run_shared.proofs.Counting.{shown_is}
use Rattle.run_shared.proofs.board.SharedBoard.emit.Goals.{in-Ok, in-Err}
use Rattle.run_shared.proofs.board.SharedBoard.emit.Goals as goal

pub returns-clause-refused : goal.returns-clause-refused
returns-clause-refused g c =
    elim c.match-emit.branch [
      | in-Ok w ↦ rw w.result-is tt
      | in-Err w ↦ rw w.result-is (subst (λ (b : Played). IsEmitRefused b w.in-Err.fault) c.self.view_is w.in-Err.ensures.refused)
    ]

pub returns-clause-next : goal.returns-clause-next
returns-clause-next g c =
    let total : c.args.mine.now.amount ≡ count_by is_emit c.self.inside.board.events = c.audit.ensures.whole c.requires.mine.0 ∙ c.self.inside.emitted_is in
    elim c.match-emit.branch [
      | in-Ok w ↦ let s = shown_is _ _ _ w.in-Ok.ensures.ok in rw w.result-is (omega (arith, s.0, total))
      | in-Err w ↦ rw w.result-is tt
    ]
