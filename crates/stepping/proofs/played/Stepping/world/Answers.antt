use Rattle.std.proofs.Common.{◌≡◌, ap, arith}
use Rattle.std.specs.Arc.{arc_value}
use Rattle.stepping.specs.Played.{Played}
use Rattle.stepping.proofs.States.{kept_state}
use Rattle.stepping.proofs.played.Stepping.world.Goals as goal

pub returns-clause-state : goal.returns-clause-state
returns-clause-state c =
    let x = c.self.inside in
    let same : x.frame ≡ c.args.self.now.frame = ap (λ (p : Played). p.frame) c.self.view_is in
    let state = kept_state (arc_value x.level) x.changes.items (arc_value x.script) x.frame x.world x.memories.items x.statuses.items x.drawn x.signals
    (omega (arith, same)) c.self.invariant.0 c.height.ensures.world in
    rw (← c.self.view_is) state
