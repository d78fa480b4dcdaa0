use Rattle.std.proofs.Common.{◌<◌, subst}
use Rattle.frame_state.specs.Names.{QuestionOf}
use Rattle.frame_state.specs.Contents.{questions_in}
use Rattle.frame_params.proofs.CutThoughts.{asks_for}
use Rattle.frame_params.proofs.parked.ParkedTick.question.Goals as goal

pub returns-clause-asks : goal.returns-clause-asks
returns-clause-asks c =
    let x = c.self.inside in
    subst (λ (q : QuestionOf). x.question < questions_in q.game q.frame q.agent) c.self.view_is
    (asks_for x.session.now x.frame x.agent x.question x.pending c.self.invariant).asks
