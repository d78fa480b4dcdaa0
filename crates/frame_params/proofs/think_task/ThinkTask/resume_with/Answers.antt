use Rattle.std.proofs.Common.{ap, arith, ℕ}
use Rattle.bt_nodes.specs.Sizes.{size}
use Rattle.game_rules.specs.Game.{Game}
use Rattle.frame_state.specs.Names.{QuestionOf}
use Rattle.game_jobs.specs.Instance.{tree_of}
use Rattle.frame_params.proofs.CutThoughts.{few_asked}
use Rattle.frame_params.proofs.think_task.ThinkTask.resume_with.Goals as goal

pub prove-unreachable-requires : goal.prove-unreachable-requires
prove-unreachable-requires c =
    let h = c.if-prove.true in
    let q : QuestionOf = c.deref-tick.result.now in
    let few = few_asked q.game q.frame q.agent c.question.result c.question.ensures.asks in
    let session = ap (λ (g : Game). size (tree_of g c.agent.result)) c.session.ensures in
    let agent = ap (λ (a : ℕ). size (tree_of q.game a)) c.agent.ensures.value in
    omega (arith, h, few, session, agent, c.from.ensures, c.size-nodes.ensures.value, ap size c.tree_of.ensures.value)
