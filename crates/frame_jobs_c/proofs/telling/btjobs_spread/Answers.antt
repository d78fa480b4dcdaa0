use Rattle.std.proofs.Common.{Option, sym, subst}
use Rattle.frame_jobs.specs.Boards.{FrameBoard, MaySpreadOrHold, IsRefused}
use Rattle.frame_jobs_c.specs.Statuses.{IsRefusedBy, IsRefusedIn}
use Rattle.frame_jobs_c.proofs.telling.btjobs_spread.Goals as goal

pub returns-clause-refused : goal.returns-clause-refused
returns-clause-refused c = λ ne.
    subst (λ (o : Option FrameBoard). IsRefusedIn (λ b. IsRefused b c.args.worker (MaySpreadOrHold b c.args.worker)) c.spread_held-status.result o) (sym c.in-Some.ensures.some)
    (subst (λ (b : FrameBoard). IsRefusedBy (IsRefused b c.args.worker (MaySpreadOrHold b c.args.worker)) c.spread_held-status.result) c.deref_mut.ensures.value
    (c.spread_held-status.ensures.refused ne))
