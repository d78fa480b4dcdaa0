use Rattle.std.proofs.Common.{◌∙◌, ap, sym, map, ◌++◌, subst, rules}
use Rattle.level_text.specs.Drafts.{node_view}
use Rattle.game_session.specs.Faults.{limit_fault}
use Rattle.game_session.specs.Kept.{trees_view}
use Rattle.level_text.specs.Levels.{IsFirstOf}
use Rattle.level_text.specs.declared.level_fault.LevelFault.{LevelFault}
use Rattle.level_text.proofs.TreesWithin.{fault_is_later, fault_is_first, one_more}
use Rattle.level_text.proofs.read.trees_within.Goals as goal

pub nodes-preserved : goal.nodes-preserved
nodes-preserved c =
    let l = c.nodes in
    let steps = c.in-Some.ensures.steps in
    let left = map node_view c.next.new.self.rest.items in (
      sym (fault_is_later (node_view c.in-Some.named) left c.in_ok-tree_within.ensures.ok.0) ∙ sym (ap (λ ns. limit_fault (map node_view ns)) steps.0) ∙ l.invariant.0,
      ap (λ ts. trees_view ts ++ left) c.in_ok-push.ensures.items
          ∙ one_more l.trees.items c.in_ok-tree_within.field-0 (node_view c.in-Some.named) left c.in_ok-tree_within.ensures.ok.1
          ∙ sym (ap (λ ns. trees_view l.trees.items ++ map node_view ns) steps.0) ∙ l.invariant.1,
    )

pub returns-in_err-tree_within-clause-err : goal.returns-in_err-tree_within-clause-err
returns-in_err-tree_within-clause-err c =
    let fault : LevelFault = c.in_err-tree_within.field-0.0 in
    let all = c.into_iter-named-iterator.result.rest.items in
    let first : IsFirstOf (limit_fault (map node_view all)) fault =
    subst (λ f. IsFirstOf f fault) (sym (ap (λ ns. limit_fault (map node_view ns)) c.in-Some.ensures.steps.0) ∙ c.nodes.invariant.0)
    (fault_is_first (node_view c.in-Some.named) (map node_view c.next.new.self.rest.items) fault c.in_err-tree_within.ensures.err) in
    search rules
