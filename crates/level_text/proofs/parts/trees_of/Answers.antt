use Rattle.std.proofs.Common.{ap, ◌∙◌, sym, map, option_map, ◌++◌}
use Rattle.bt_nodes.specs.Plain.{plain}
use Rattle.serde_json.specs.View.{members_view}
use Rattle.serde_json.proofs.Views.{Entry}
use Rattle.level_text.specs.Parts.{trees_in}
use Rattle.level_text.specs.Drafts.{node_view}
use Rattle.level_text.proofs.TreesRead.{tree_more}
use Rattle.level_text.proofs.NameOrder.{names_in_order}
use Rattle.level_text.proofs.parts.trees_of.Goals as goal

pub members-preserved : goal.members-preserved
members-preserved c =
    let l = c.members in
    let e : Entry = (c.in-Some.key.now, c.in-Some.member.now) in
    let left = c.next.new.self in (
      tt,
      tt,
      ap (λ ts. option_map (λ us. map node_view ts ++ us) (trees_in (members_view left))) c.in_ok-push.ensures.items
          ∙ tree_more l.trees.items record { name = c.in_ok-clone.field-0; node = c.in-Some-2.node } e left _ c.in_ok-clone.ensures.cases
          (sym (ap (option_map plain) c.in-Some-2.is) ∙ c.in_ok-node.ensures)
          (sym (ap (λ es. option_map (λ us. map node_view l.trees.items ++ us) (trees_in (members_view es))) c.in-Some.ensures.steps) ∙ l.invariant.2),
    )

pub returns-clause-ordered : goal.returns-clause-ordered
returns-clause-ordered c =
    names_in_order c.in-Object.members.entries c.members.key-iterator c.members.trees.items c.iter-key-items.ensures.ordered c.in-None.ensures.steps.0
    (c.members.invariant.2 ∙ ap (λ es. trees_in (members_view es)) (c.into_iter-key-iterator.ensures.into_iter_gives ∙ c.iter-key-items.ensures.rest))
