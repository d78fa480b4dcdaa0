use Rattle.std.proofs.Common.{◌∙◌, ap, sym, subst}
use Rattle.frame_state.specs.Names.{FrameOf, QuestionOf}
use Rattle.frame_state.specs.Contents.{way_in}
use Rattle.frame_params.specs.Thinks.{AsksFor}
use Rattle.frame_params.proofs.CutThoughts.{way_found}
use Rattle.frame_params.proofs.path_task.PathTask.answered.Goals as goal

pub returns-in-Some-clause-way : goal.returns-in-Some-clause-way
returns-in-Some-clause-way g c =
    let x = c.self.inside in
    let s : FrameOf = c.deref-start.result.now in
    let asks : AsksFor s.game s.frame x.agent x.question x.place =
    subst (λ (q : FrameOf). AsksFor q.game q.frame x.agent x.question x.place) (sym c.deref-start.ensures) c.self.invariant.1 in
    (way_found s.game s.frame x.agent x.question x.place c.way_by.result asks c.way_by.ensures).way_is
    ∙ ap (λ (q : FrameOf). way_in q.game q.frame x.agent x.question) c.deref-start.ensures
    ∙ ap (λ (q : QuestionOf). way_in q.game q.frame q.agent q.question) c.self.view_is

pub returns-in_ok-way_to-in-None-clause-way : goal.returns-in_ok-way_to-in-None-clause-way
returns-in_ok-way_to-in-None-clause-way g c =
    let x = c.self.inside in
    let s : FrameOf = c.deref-start.result.now in
    let asks : AsksFor s.game s.frame x.agent x.question x.place =
    subst (λ (q : FrameOf). AsksFor q.game q.frame x.agent x.question x.place) (sym c.deref-start.ensures) c.self.invariant.1 in
    (way_found s.game s.frame x.agent x.question x.place c.in_ok-way_to-in-None.field-0.0 asks c.in_ok-way_to-in-None.ensures.way).way_is
    ∙ ap (λ (q : FrameOf). way_in q.game q.frame x.agent x.question) c.deref-start.ensures
    ∙ ap (λ (q : QuestionOf). way_in q.game q.frame q.agent q.question) c.self.view_is
