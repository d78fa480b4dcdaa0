use Rattle.std.proofs.Common.{◌≡◌, sym, ap, ◌∙◌, arith}
use Rattle.bt_nodes.specs.Sizes.{size}
use Rattle.game_rules.specs.Game.{Game}
use Rattle.game_jobs.specs.Instance.{tree_of}
use Rattle.job_core.specs.declared.names.JobName.TheVariants.{Think}
use Rattle.job_core.specs.declared.names.Event.TheVariants.{Ask}
use Rattle.task_board.specs.Boards.{Played, state_in}
use Rattle.task_board.proofs.BoardEvents.{an_agent, there_for, few_questions, next_asked, kept_after, happens, seen_as}
use Rattle.job_core.specs.Core.{step_of}
use Rattle.task_board.specs.FrameStore.{FrameStoreOf}
use Rattle.task_board.proofs.PlacesOfResults.{parked_stores}
use Rattle.task_board.proofs.board.TaskBoard.park.Goals as goal

pub tree_of-requires : goal.tree_of-requires
tree_of-requires c =
    let runs = rw (← c.self.view_is) at c.requires.runs in
    rw c.agent-agent.ensures (an_agent (seen_as c.self.inside.session.now c.self.inside.jobs) c.self.invariant.lawful c.args.parked.frame c.args.parked.agent c.args.worker c.args.parked.question runs)

pub prove-unreachable-requires : goal.prove-unreachable-requires
prove-unreachable-requires c =
    let game : c.args.parked.game ≡ c.self.inside.session.now = c.requires.game ∙ sym (ap (λ (b : Played). b.game) c.self.view_is) in
    let tree : size (tree_of c.args.parked.game c.args.parked.agent) ≡ c.size-nodes.result =
    ap (λ (g : Game). size (tree_of g c.args.parked.agent)) game
    ∙ (ap (λ a. size (tree_of c.self.inside.session.now a)) (sym c.agent-agent.ensures) ∙ (ap size c.tree_of.ensures.value ∙ sym c.size-nodes.ensures.value)) in
    omega (arith, c.if-prove.true, c.from.ensures, tree, c.question-question.ensures.asks, few_questions c.args.parked.game c.args.parked.frame c.args.parked.agent)

pub ask-requires-clause-next : goal.ask-requires-clause-next
ask-requires-clause-next c =
    let legal = rw (← c.self.view_is) at c.requires.legal in
    let runs = rw (← c.self.view_is) at c.requires.runs in
    rw (c.frame-frame.ensures, c.agent-agent.ensures, c.question-question.ensures.value) (next_asked c.self.inside.session.now c.self.inside.jobs c.self.inside.frame_store c.self.invariant c.args.worker c.args.parked.frame c.args.parked.agent c.args.parked.question legal runs)

pub ask-requires-clause-few : goal.ask-requires-clause-few
ask-requires-clause-few c = omega (arith, c.if-prove.false, c.from.ensures, c.size-nodes.ensures.most)

pub park-requires-clause-game : goal.park-requires-clause-game
park-requires-clause-game c = c.requires.game ∙ (sym (ap (λ (b : Played). b.game) c.self.view_is) ∙ sym (ap (λ (k : FrameStoreOf). k.game) c.self.invariant.frame_store_is))

pub park-requires-clause-agent : goal.park-requires-clause-agent
park-requires-clause-agent c =
    let legal = rw (← c.self.view_is) at c.requires.legal in
    let there = there_for c.self.inside.session.now c.self.inside.jobs c.self.inside.frame_store c.self.invariant (Ask c.args.worker (Think c.args.parked.frame c.args.parked.agent)) legal in
    (c.agent-agent.ensures, rw c.agent-agent.ensures there)

pub invariant_of-self-2 : goal.invariant_of-self-2
invariant_of-self-2 c =
    let legal = rw (← c.self.view_is) at c.requires.legal in
    let runs = rw (← c.self.view_is) at c.requires.runs in
    let done = rw (c.frame-frame.ensures, c.agent-agent.ensures) at c.in-Ok.ensures.ok in
    let st = state_in (seen_as c.self.inside.session.now c.self.inside.jobs) in
    let stores = parked_stores c.self.inside.frame_store c.park.new.self st c.args.worker c.args.parked.frame c.args.parked.agent c.args.parked.question c.agent-agent.result c.agent-agent.ensures (ap step_of runs) c.park.ensures in
    kept_after c.self.inside.session.now c.self.inside.jobs c.self.inside.frame_store c.self.invariant (Ask c.args.worker (Think c.args.parked.frame c.args.parked.agent)) legal c.ask.new.self done c.park.new.self stores

pub returns-clause-ok : goal.returns-clause-ok
returns-clause-ok c =
    let legal = rw (← c.self.view_is) at c.requires.legal in
    let done = rw (c.frame-frame.ensures, c.agent-agent.ensures) at c.in-Ok.ensures.ok in
    rw (← c.self.view_is) (happens c.self.inside.session.now c.self.inside.jobs c.self.inside.frame_store c.self.invariant (Ask c.args.worker (Think c.args.parked.frame c.args.parked.agent)) legal c.ask.new.self done)

pub invariant_of-self : goal.invariant_of-self
invariant_of-self c = rw c.in_default.ensures.unchanged c.self.invariant
