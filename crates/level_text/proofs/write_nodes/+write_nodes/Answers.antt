use Rattle.std.proofs.Common.{◌≡◌, ◌∙◌, ap, sym, refl, drop, ◌+◌, ◌&&◌, arith}
use Rattle.serde_json.specs.Data.{array}
use Rattle.serde_json.specs.View.{items_view}
use Rattle.serde_json.proofs.Views.{view-Array}
use Rattle.bt_nodes.specs.Plain.{plain, plains, tree}
use Rattle.bt_nodes.proofs.Alike.{item_smaller}
use Rattle.level_text.specs.Begun.{items_before}
use Rattle.level_text.specs.Marks.{all_have_marks}
use Rattle.level_text.specs.Written.{node_data, forest_data}
use Rattle.level_text.proofs.NodesWritten.{marks_decorated, marks_listed, closed_decorated, closed_listed}
use Rattle.level_text.proofs.WrittenSteps.{written_more, written_all, drop-read}
use Rattle.level_text.proofs.write_nodes.+write_nodes.Goals as goal
use Rattle.level_text.proofs.write_nodes.+write_nodes.Goals.{value_of-in-Some+in_ok-value_of-in-Some+in_ok-push-in-Some, value_of-in-None+in_ok-push_all-in-None}

pub push_all-value_of-requires : goal.push_all-value_of-requires
push_all-value_of-requires t c =
    let small = item_smaller c.args.nodes.now c.nodes.node-index c.node-item.result c.nodes-test.true c.node-item.is in
    (omega (arith, small), tt)

pub push_all-nodes-preserved : goal.push_all-nodes-preserved
push_all-nodes-preserved t c =
    let l = c.nodes in
    let n = c.node-item.result in
    let rest = plains (drop (l.node-index + 1) c.args.nodes.now) in
    let step : plains (drop l.node-index c.args.nodes.now) ≡ tree (plain n) rest = ap plains (drop-read c.args.nodes.now l.node-index n c.nodes-test.true c.node-item.is) in (
      ap (λ vs. items_before vs (forest_data rest)) c.in_ok-push.ensures.items
          ∙ written_more (λ ns. forest_data (plains ns)) (λ m. node_data (plain m)) (λ _ _. refl) l.values.items c.in_ok-value_of.field-0 c.args.nodes.now l.node-index n _
          c.nodes-test.true c.node-item.is c.in_ok-value_of.ensures.value l.invariant.0,
      sym (ap all_have_marks step ∙ ap (λ b. b && all_have_marks rest) c.in_ok-value_of.ensures.marks) ∙ l.invariant.1,
    )

pub push_all-returns-clause-value : goal.push_all-returns-clause-value
push_all-returns-clause-value t c =
    written_all (λ ns. forest_data (plains ns)) (λ n. node_data (plain n)) (λ _ _. refl) c.nodes.values.items c.args.nodes.now c.nodes.node-index refl c.nodes-test.false _ c.nodes.invariant.0

pub value_of-returns-clause-value : goal.value_of-returns-clause-value
value_of-returns-clause-value t c =
    let p = plain c.args.node.now in
    let begun = c.in_ok-values.values.items in
    view-Array c.match-decorated.values
    ∙ elim c.match-decorated.branch [
      | value_of-in-Some+in_ok-value_of-in-Some+in_ok-push-in-Some w ↦ ap array (
          ap (λ v. items_view v.items) w.values-is ∙ ap items_view w.in_ok-push-in-Some.ensures.items
          ∙ closed_decorated begun w.in_ok-value_of-in-Some.field-0 p (plain w.in-Some.child.now) w.in-Some.ensures w.in_ok-value_of-in-Some.ensures.value
          ) ∙ c.in_ok-values.ensures.value
      | value_of-in-None+in_ok-push_all-in-None w ↦ ap array (
          ap (λ v. items_view v.items) w.values-is ∙ w.in_ok-push_all-in-None.ensures.value
          ∙ closed_listed begun p (plains w.listed.result.now) w.in-None.ensures w.listed.ensures
          ) ∙ c.in_ok-values.ensures.value
    ]

pub value_of-returns-clause-marks : goal.value_of-returns-clause-marks
value_of-returns-clause-marks t c =
    let p = plain c.args.node.now in
    elim c.match-decorated.branch [
      | value_of-in-Some+in_ok-value_of-in-Some+in_ok-push-in-Some w ↦ marks_decorated p (plain w.in-Some.child.now) w.in-Some.ensures w.in_ok-value_of-in-Some.ensures.marks
      | value_of-in-None+in_ok-push_all-in-None w ↦ marks_listed p w.in-None.ensures c.in_ok-values.ensures.marks (ap all_have_marks (sym w.listed.ensures) ∙ w.in_ok-push_all-in-None.ensures.marks)
    ]
