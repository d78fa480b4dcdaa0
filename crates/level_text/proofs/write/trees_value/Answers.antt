use Rattle.std.proofs.Common.{◌∙◌, ap, sym, string_bytes}
use Rattle.serde_json.specs.Data.{object, put}
use Rattle.serde_json.specs.View.{view, members_view}
use Rattle.serde_json.proofs.Views.{view-Object}
use Rattle.bt_nodes.specs.Trees.{plain_of}
use Rattle.game_session.specs.declared.named_tree.NamedTree.{NamedTree}
use Rattle.level_text.specs.Marks.{has_marks}
use Rattle.game_session.specs.Parts.{NamedPlain}
use Rattle.level_text.specs.Written.{node_data}
use Rattle.level_text.proofs.TreesWritten.{put_more, put_all, all_more}
use Rattle.level_text.proofs.write.trees_value.Goals as goal

pub trees-preserved : goal.trees-preserved
trees-preserved c =
    let t : NamedTree = c.named-item.result in (
      c.in_ok-put.ensures ∙ ap (λ k. put k (view c.in_ok-value_of.field-0) (members_view c.trees.members.entries)) c.deref.ensures
          ∙ ap (λ d. put (string_bytes t.name) d (members_view c.trees.members.entries)) (c.in_ok-value_of.ensures.value ∙ ap node_data c.root.ensures.value)
          ∙ ap (put (string_bytes t.name) (node_data (plain_of t.tree))) c.trees.invariant.0
          ∙ put_more c.args.trees.now c.trees.named-index t c.trees-test.true c.named-item.is c.requires,
      all_more c.args.trees.now c.trees.named-index t c.trees-test.true c.named-item.is (λ (u : NamedPlain). has_marks u.tree) _ (ap has_marks (sym c.root.ensures.value) ∙ c.in_ok-value_of.ensures.marks) c.trees.invariant.1,
    )

pub returns-clause-value : goal.returns-clause-value
returns-clause-value c =
    view-Object c.trees.members ∙ ap object (c.trees.invariant.0 ∙ put_all c.args.trees.now c.trees.named-index c.trees-test.false)
