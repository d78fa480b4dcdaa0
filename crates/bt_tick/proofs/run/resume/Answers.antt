use Rattle.std.proofs.Common.{ap, sym, ◌∙◌, [], ◌∷◌}
use Rattle.game_rules.specs.Tick.{gives}
use Rattle.bt_tick.specs.Suspended.{unwind, after}
use Rattle.bt_tick.specs.Views.{view_of}
use Rattle.bt_tick.specs.Machine.{opens}
use Rattle.bt_tick.specs.Outcome.{fresh, means}
use Rattle.bt_tick.proofs.Opening.{placed_by}
use Rattle.bt_tick.proofs.Outcomes.{outcome_of, resumed, comes_after}
use Rattle.bt_tick.proofs.run.resume.Goals as goal

pub returns-clause-comes : goal.returns-clause-comes
returns-clause-comes g c =
    let v = view_of c.args.view.now in
    let p = c.args.pending in
    let now = c.follow.new.self in
    comes_after v (p.place ∷ []) c.in_ok-run.field-0 _ (λ more. means v p (c.args.answer ∷ more)) c.in_ok-run.ensures.comes (λ more.
    resumed v p c.args.answer more
    ∙ ap (λ r. after (p.place ∷ []) (unwind v (opens p.machine.stack) r)) (sym (c.in_ok-status.ensures.follows (fresh [] [] more)))
    ∙ ap (λ fs. after (p.place ∷ []) (unwind v (opens fs) (gives c.in_ok-status.status (fresh now.memory now.wants.items more)))) (sym c.in_ok-status.ensures.stack))

pub returns-clause-outcome : goal.returns-clause-outcome
returns-clause-outcome g c =
    let v = view_of c.args.view.now in
    let p = c.args.pending in
    let now = c.follow.new.self in
    outcome_of v (p.place ∷ []) c.in_ok-run.field-0 (λ more. means v p (c.args.answer ∷ more))
    (comes_after v (p.place ∷ []) c.in_ok-run.field-0 _ (λ more. means v p (c.args.answer ∷ more)) c.in_ok-run.ensures.comes (λ more.
    resumed v p c.args.answer more
    ∙ ap (λ r. after (p.place ∷ []) (unwind v (opens p.machine.stack) r)) (sym (c.in_ok-status.ensures.follows (fresh [] [] more)))
    ∙ ap (λ fs. after (p.place ∷ []) (unwind v (opens fs) (gives c.in_ok-status.status (fresh now.memory now.wants.items more)))) (sym c.in_ok-status.ensures.stack)))

pub run-requires : goal.run-requires
run-requires g c =
    let m = c.args.pending.machine in
    record { view = c.requires.agent; placed = placed_by m c.follow.new.self _ m.stack c.in_ok-status.ensures.tree c.in_ok-status.ensures.stack c.args.pending.nested tt }
