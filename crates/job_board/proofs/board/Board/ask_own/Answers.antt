use Rattle.std.proofs.Common.{None, is_some, refl}
use Rattle.std.proofs.lemmas.List.{map-set}
use Rattle.std.proofs.lemmas.Result.{err_from_is_err_and}
use Rattle.job_core.specs.declared.names.JobName.TheVariants.{Think}
use Rattle.job_core.specs.declared.names.Event.TheVariants.{Ask}
use Rattle.job_board.proofs.Staying.{has_place, works_after}
use Rattle.job_board.proofs.board.Board.ask_own.Goals as goal

pub returns-in_err-ask_own-clause-refused : goal.returns-in_err-ask_own-clause-refused
returns-in_err-ask_own-clause-refused c =
    let p = err_from_is_err_and c.from_residual.result c.from_residual.ensures.1 in
    rw (p.1, p.2, ← c.self.view_is) c.in_err-ask_own.ensures.refused

pub clear-requires : goal.clear-requires
clear-requires c = has_place c.self.inside.run c.self.inside.works.places.items c.self.invariant (Ask c.args.worker (Think c.args.parked.frame c.args.parked.agent)) c.ask_own.new.self c.in_ok-ask_own.ensures.ok c.args.worker refl

pub invariant_of-self-2 : goal.invariant_of-self-2
invariant_of-self-2 c = rw c.clear.ensures (works_after c.self.inside.run c.self.inside.works.places.items c.self.invariant (Ask c.args.worker (Think c.args.parked.frame c.args.parked.agent)) c.ask_own.new.self c.in_ok-ask_own.ensures.ok c.args.worker refl None tt)

pub returns-clause-ok : goal.returns-clause-ok
returns-clause-ok c = rw (← c.self.view_is) c.in_ok-ask_own.ensures.ok

pub returns-clause-worked : goal.returns-clause-worked
returns-clause-worked c = rw (c.clear.ensures, ← c.self.view_is) (map-set is_some c.self.inside.works.places.items c.args.worker None)

pub returns-clause-next : goal.returns-clause-next
returns-clause-next c = rw (← c.self.view_is) c.in_ok-ask_own.ensures.next
