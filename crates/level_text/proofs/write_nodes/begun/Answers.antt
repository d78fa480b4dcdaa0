use Rattle.std.proofs.Common.{ap, sym, ◌∙◌, ◌++◌, ◌∷◌, [], option_map}
use Rattle.serde_json.specs.Data.{array, string}
use Rattle.serde_json.specs.View.{view}
use Rattle.bt_nodes.specs.Plain.{plain}
use Rattle.level_text.specs.Begun.{below, items_before}
use Rattle.level_text.proofs.NodesWritten.{begun_alone, begun_with}
use Rattle.level_text.proofs.write_nodes.begun.Goals as goal
use Rattle.level_text.proofs.write_nodes.begun.Goals.{in-Some+in_ok-push-in-Some, in-None}

pub returns-clause-value : goal.returns-clause-value
returns-clause-value c =
    let p = plain c.args.node.now in
    let first = c.in_ok-try_from_str.field-0 in
    let seen = c.in_ok-try_from_str.ensures ∙ ap string c.head_of.ensures in
    let one = c.in_ok-push.ensures.items ∙ ap (λ vs. vs ++ first ∷ []) c.in_ok-values.ensures.items in
    elim c.match-branch-5.branch [
      | in-Some+in_ok-push-in-Some w ↦ ap (λ vs. array (items_before vs (below p)))
          (ap (λ v. v.items) w.values-is ∙ w.in_ok-push-in-Some.ensures.items ∙ ap (λ vs. vs ++ w.in-Some.value ∷ []) one)
          ∙ begun_with p first seen w.in-Some.value (sym (ap (option_map view) w.in-Some.is) ∙ c.in_ok-value.ensures.value)
      | in-None w ↦ ap (λ vs. array (items_before vs (below p))) (ap (λ v. v.items) w.values-is ∙ one)
          ∙ begun_alone p first seen (sym (ap (option_map view) w.in-None.is) ∙ c.in_ok-value.ensures.value)
    ]
