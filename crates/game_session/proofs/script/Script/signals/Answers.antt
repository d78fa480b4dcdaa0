use Rattle.std.proofs.Common.{◌∙◌, ◌≤◌, sym, arith, ap, length}
use Rattle.game_session.specs.Changes.{all_off}
use Rattle.game_session.proofs.Rising.{signals_front-get, length-signals_after, all_off-is}
use Rattle.game_session.proofs.script.Script.signals.Goals as goal

pub index-requires : goal.index-requires
index-requires c =
    omega (arith, ap length c.self.invariant.signals, length-signals_after c.self.inside.changes.items all_off, ap length c.self.view_is, c.made_by-made.ensures.within)

pub returns-then-made-eq0 : goal.returns-then-made-eq0
returns-then-made-eq0 c =
    c.off.ensures ∙ sym all_off-is ∙ rw c.if-made-eq0.true at c.made_by-made.ensures.made

pub returns-else-made-eq0 : goal.returns-else-made-eq0
returns-else-made-eq0 c =
    let within : c.made_by-made.result ≤ length c.self.inside.changes.items = omega (arith, ap length c.self.view_is, c.made_by-made.ensures.within) in
    signals_front-get c.self.inside.changes.items c.self.inside.after.items c.made_by-made.result c.index.result.now c.self.invariant (omega arith) within c.index.ensures
    ∙ rw c.self.view_is c.made_by-made.ensures.made
