use Rattle.std.proofs.Common.{subst, List, ℕ}
use Rattle.bt_nodes.specs.Trees.{plain_of}
use Rattle.bt_tick.specs.Thinking.{Thinking}
use Rattle.bt_tick.specs.Views.{view_of}
use Rattle.bt_tick.proofs.CutTicks.{thinking_begun}
use Rattle.frame_parts.proofs.ticking.begun.Goals as goal

pub returns-in-Ok : goal.returns-in-Ok
returns-in-Ok g c =
    let v = view_of c.args.view.now in
    let tree = plain_of c.args.tree.now in
    subst (λ (m : List ℕ). Thinking v tree m 0 c.in-Ok.outcome) c.in_ok-copy.ensures
    (thinking_begun v tree c.in_ok-copy.field-0 c.in-Ok.outcome c.in-Ok.ensures.comes c.in-Ok.ensures.tree)
