use Rattle.std.proofs.Common.{None, is_some}
use Rattle.std.proofs.lemmas.List.{map-set}
use Rattle.std.proofs.lemmas.Result.{err_from_is_err_and}
use Rattle.job_board.proofs.Staying.{has_place, works_after}
use Rattle.task_board.proofs.OwnEvents.{handed_by}
use Rattle.job_board.proofs.board.Board.hand_in.Goals as goal

pub returns-in_err-hand_in-clause-refused : goal.returns-in_err-hand_in-clause-refused
returns-in_err-hand_in-clause-refused c =
    let p = err_from_is_err_and c.from_residual.result c.from_residual.ensures.1 in
    rw (p.1, p.2, ← c.self.view_is) c.in_err-hand_in.ensures.refused

pub clear-requires : goal.clear-requires
clear-requires c =
    let by = handed_by c.self.inside.run c.hand_in.new.self c.args.worker c.args.step c.in_ok-hand_in.ensures.ok in
    has_place c.self.inside.run c.self.inside.works.places.items c.self.invariant by.0 c.hand_in.new.self by.1 c.args.worker by.2

pub invariant_of-self-2 : goal.invariant_of-self-2
invariant_of-self-2 c =
    let by = handed_by c.self.inside.run c.hand_in.new.self c.args.worker c.args.step c.in_ok-hand_in.ensures.ok in
    rw c.clear.ensures (works_after c.self.inside.run c.self.inside.works.places.items c.self.invariant by.0 c.hand_in.new.self by.1 c.args.worker by.2 None tt)

pub returns-clause-ok : goal.returns-clause-ok
returns-clause-ok c = rw (← c.self.view_is) c.in_ok-hand_in.ensures.ok

pub returns-clause-worked : goal.returns-clause-worked
returns-clause-worked c = rw (c.clear.ensures, ← c.self.view_is) (map-set is_some c.self.inside.works.places.items c.args.worker None)
