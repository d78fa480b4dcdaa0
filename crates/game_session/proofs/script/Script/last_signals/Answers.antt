use Rattle.std.proofs.Common.{◌≡◌, ◌∙◌, ◌<◌, ◌-◌, List, Bool, length, get_or, ap, subst, arith}
use Rattle.game_session.specs.Changes.{all_off, signals_after}
use Rattle.game_session.proofs.Rising.{signals_after-last, length-signals_after, changed_all_none}
use Rattle.game_session.proofs.script.Script.last_signals.Goals as goal

pub returns-in-Some : goal.returns-in-Some
returns-in-Some c =
    let last : List Bool = c.in-Some.signals.now in
    let Is : List (List Bool) → Type 0 = λ xs. (0 < length xs) × (last ≡ get_or xs (length xs - 1) last) in
    let item = c.in-Some.ensures.item in
    let there : Is c.deref.result.now = (item.3.0, item.1) in
    let kept : Is (signals_after c.self.inside.changes.items all_off) = subst Is (c.deref.ensures.value ∙ c.self.invariant.signals) there in
    rw (← c.self.view_is) (signals_after-last c.self.inside.changes.items all_off last kept.0 kept.1)

pub returns-in-None : goal.returns-in-None
returns-in-None c =
    let e = c.deref.ensures.value ∙ c.self.invariant.signals in
    let none = c.in-None.ensures.item.3 in
    rw (← c.self.view_is)
    (c.off.ensures ∙ changed_all_none c.self.inside.changes.items (omega (arith, ap length e, length-signals_after c.self.inside.changes.items all_off, none)))
