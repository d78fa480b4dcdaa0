use Rattle.std.proofs.Common.{None, is_some, refl}
use Rattle.std.proofs.lemmas.List.{map-set}
use Rattle.std.proofs.lemmas.Result.{err_from_is_err_and}
use Rattle.job_core.specs.declared.names.JobName.TheVariants.{Logic}
use Rattle.job_core.specs.declared.names.Event.TheVariants.{Hold}
use Rattle.job_board.proofs.Staying.{has_place, works_after}
use Rattle.job_board.proofs.board.Board.hold.Goals as goal

pub returns-in_err-hold-clause-refused : goal.returns-in_err-hold-clause-refused
returns-in_err-hold-clause-refused c =
    let p = err_from_is_err_and c.from_residual.result c.from_residual.ensures.1 in
    rw (p.1, p.2, ← c.self.view_is) c.in_err-hold.ensures.refused

pub clear-requires : goal.clear-requires
clear-requires c = has_place c.self.inside.run c.self.inside.works.places.items c.self.invariant (Hold c.args.worker (Logic c.in_ok-hold.ensures.ok.0)) c.hold.new.self c.in_ok-hold.ensures.ok.1 c.args.worker refl

pub invariant_of-self-2 : goal.invariant_of-self-2
invariant_of-self-2 c = rw c.clear.ensures (works_after c.self.inside.run c.self.inside.works.places.items c.self.invariant (Hold c.args.worker (Logic c.in_ok-hold.ensures.ok.0)) c.hold.new.self c.in_ok-hold.ensures.ok.1 c.args.worker refl None tt)

pub returns-clause-ok : goal.returns-clause-ok
returns-clause-ok c = rw (← c.self.view_is) c.in_ok-hold.ensures.ok

pub returns-clause-worked : goal.returns-clause-worked
returns-clause-worked c = rw (c.clear.ensures, ← c.self.view_is) (map-set is_some c.self.inside.works.places.items c.args.worker None)
