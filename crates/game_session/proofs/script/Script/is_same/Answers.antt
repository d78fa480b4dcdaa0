use Rattle.std.proofs.Common.{◌≡◌, ◌∙◌, sym, arith, true}
use Rattle.std.specs.Bool.{Decides}
use Rattle.std.proofs.lemmas.Grind.{common_steps}
use Rattle.std.proofs.lemmas.Slice.Eq.{slice_eq-Decides}
use Rattle.game_rules.specs.declared.change.Change.{Change}
use Rattle.game_rules.specs.contracts.change.ChangePartialEq.TheImpl.{eq-value}
use Rattle.game_session.proofs.script.Script.is_same.Goals as goal

decided : (a b : Change) → Decides (eq-value.it a b) (a ≡ b)
decided a b = (grind (arith, common_steps), grind (arith, common_steps))

pub returns-clause-same : goal.returns-clause-same
returns-clause-same c =
    let h : Decides c.eq.result (c.self.inside.changes.items ≡ c.other.inside.changes.items) = slice_eq-Decides decided _ _ _ c.eq.ensures in
    λ yes. sym c.self.view_is ∙ h.0 yes ∙ c.other.view_is

pub returns-clause-differs : goal.returns-clause-differs
returns-clause-differs c =
    let h : Decides c.eq.result (c.self.inside.changes.items ≡ c.other.inside.changes.items) = slice_eq-Decides decided _ _ _ c.eq.ensures in
    λ no same. let yes : c.eq.result ≡ true = h.1 (c.self.view_is ∙ same ∙ sym c.other.view_is) in cc
