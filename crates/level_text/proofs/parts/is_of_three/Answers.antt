use Rattle.std.proofs.Common.{ap, ◌∙◌, sym, nat_eq, option_map}
use Rattle.serde_json.specs.Events.{members_len}
use Rattle.serde_json.specs.Find.{as_object}
use Rattle.serde_json.specs.View.{view}
use Rattle.serde_json.proofs.Views.{view-Object, members_len-members_view}
use Rattle.level_text.specs.Parts.{has_three}
use Rattle.level_text.proofs.parts.is_of_three.Goals as goal

pub returns-in-Object : goal.returns-in-Object
returns-in-Object c =
    ap (λ n. nat_eq n 3) (c.len.ensures.len ∙ sym (members_len-members_view c.in-Object.members.entries))
    ∙ sym (ap (λ d. has_three (option_map members_len (as_object d))) (ap view c.in-Object.is ∙ view-Object c.in-Object.members))
