use Rattle.std.proofs.Common.{ap, sym, ◌∙◌, []}
use Rattle.bt_nodes.specs.Plain.{plain}
use Rattle.bt_nodes.specs.Trees.{plain_of}
use Rattle.game_rules.specs.Tick.{tick}
use Rattle.game_rules.specs.Thought.{ticked}
use Rattle.bt_tick.specs.Suspended.{unwind}
use Rattle.bt_tick.specs.Views.{view_of}
use Rattle.bt_tick.specs.Machine.{opens}
use Rattle.bt_tick.specs.Outcome.{fresh}
use Rattle.bt_tick.proofs.Opening.{root_placed}
use Rattle.bt_tick.proofs.Outcomes.{outcome_of, comes_after}
use Rattle.bt_tick.proofs.run.begin.Goals as goal

pub returns-clause-comes : goal.returns-clause-comes
returns-clause-comes g c =
    let v = view_of c.args.view.now in
    comes_after v [] c.in_ok-run.field-0 _ (ticked v (plain_of c.args.tree.now) c.args.memory) c.in_ok-run.ensures.comes (λ more.
    sym (ap (λ fs. unwind v (opens fs) (tick v (plain c.root.result.now) 0 (fresh c.args.memory c.new.result.items more))) c.empty-stack.ensures
    ∙ ap (λ w. tick v (plain c.root.result.now) 0 (fresh c.args.memory w more)) c.new.ensures.items
    ∙ ap (λ p. tick v p 0 (fresh c.args.memory [] more)) c.root.ensures.value))

pub returns-clause-outcome : goal.returns-clause-outcome
returns-clause-outcome g c =
    let v = view_of c.args.view.now in
    outcome_of v [] c.in_ok-run.field-0 (ticked v (plain_of c.args.tree.now) c.args.memory)
    (comes_after v [] c.in_ok-run.field-0 _ (ticked v (plain_of c.args.tree.now) c.args.memory) c.in_ok-run.ensures.comes (λ more.
    sym (ap (λ fs. unwind v (opens fs) (tick v (plain c.root.result.now) 0 (fresh c.args.memory c.new.result.items more))) c.empty-stack.ensures
    ∙ ap (λ w. tick v (plain c.root.result.now) 0 (fresh c.args.memory w more)) c.new.ensures.items
    ∙ ap (λ p. tick v p 0 (fresh c.args.memory [] more)) c.root.ensures.value)))

pub invariant_of-machine : goal.invariant_of-machine
invariant_of-machine g c = record { fits = c.requires.fits }

pub run-requires : goal.run-requires
run-requires g c = record { view = c.requires.agent; placed = root_placed _ c.root.result c.empty-stack.ensures c.root.ensures.value }

pub returns-clause-tree : goal.returns-clause-tree
returns-clause-tree g c = c.in_ok-run.ensures.tree
