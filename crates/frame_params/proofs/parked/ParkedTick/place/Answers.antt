use Rattle.std.proofs.Common.{sym, subst, ℕ}
use Rattle.frame_state.specs.Names.{QuestionOf}
use Rattle.frame_params.specs.Thinks.{AsksFor}
use Rattle.frame_params.proofs.CutThoughts.{asks_for}
use Rattle.frame_params.proofs.parked.ParkedTick.place.Goals as goal

pub returns : goal.returns
returns c =
    let x = c.self.inside in
    subst (λ (q : QuestionOf). AsksFor q.game q.frame q.agent q.question c.place.result) c.self.view_is
    (subst (λ (n : ℕ). AsksFor x.session.now x.frame x.agent x.question n) (sym c.place.ensures)
    (asks_for x.session.now x.frame x.agent x.question x.pending c.self.invariant))
