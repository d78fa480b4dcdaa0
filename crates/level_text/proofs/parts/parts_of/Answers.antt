use Rattle.std.proofs.Common.{ap, ◌∙◌, sym, map, option_map, string_bytes}
use Rattle.serde_json.specs.View.{view}
use Rattle.level_text.specs.Drafts.{node_view}
use Rattle.level_text.proofs.PartsRead.{parts_found}
use Rattle.level_text.proofs.parts.parts_of.Goals as goal

pub returns-clause-spelled : goal.returns-clause-spelled
returns-clause-spelled c =
    let w = c.in-Some-Some-Some in
    parts_found (view c.args.value.now) _ _ _ _ _ _ (sym c.is_of_three.ensures ∙ c.if-not-is_of_three.false)
    w.ensures (sym (ap (option_map (λ v. map string_bytes v.items)) c.in-Some.is) ∙ c.in_ok-rows.ensures)
    w.ensures' (sym (ap (option_map (λ v. map string_bytes v.items)) c.in-Some-2.is) ∙ c.in_ok-names.ensures)
    w.ensures'' (sym (ap (option_map (λ v. map node_view v.items)) c.in-Some-3.is) ∙ c.in_ok-trees.ensures.spelled)
