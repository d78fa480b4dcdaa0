use Rattle.std.proofs.Common.{◌∙◌, ap, sym, subst, ℕ, List}
use Rattle.game_rules.specs.Game.{Game}
use Rattle.frame_state.specs.Names.{ThinkOf, part_of}
use Rattle.frame_state.specs.Thoughts.{EndsAt}
use Rattle.frame_params.proofs.CutThoughts.{thinks_same, stands_at, stands_copied, asks_for, ended_all, ends_at}
use Rattle.frame_params.proofs.think_task.ThinkTask.step.Goals as goal

pub at_end-requires : goal.at_end-requires
at_end-requires g c =
    let x = c.self.inside in
    let y : ThinkOf = c.args.self.now in
    let st = c.in-Ended.status in
    let it = c.in-Ended.intent in
    let m = c.in_ok-memory-in-Ended.memory in
    let t = thinks_same y.game y.frame y.agent y.answered c.in-Ended.is c.requires.thinks in
    subst (λ (h : Game). EndsAt h c.frame.result x.agent c.answered.result st m it) (sym c.session.ensures)
    (subst (λ (n : ℕ). EndsAt y.game n x.agent c.answered.result st m it) (sym c.frame.ensures)
    (subst (λ (n : ℕ). EndsAt y.game y.frame x.agent n st m it) (sym c.answered.ensures.value)
    (subst (λ (z : ThinkOf). EndsAt y.game y.frame z.agent y.answered st m it) (sym c.self.view_is)
    (subst (λ (l : List ℕ). EndsAt y.game y.frame y.agent y.answered st l it) (sym c.in_ok-memory-in-Ended.ensures)
    (ends_at y.game y.frame y.agent y.answered st c.in-Ended.memory it t)))))

pub parked-requires : goal.parked-requires
parked-requires g c =
    let y : ThinkOf = c.args.self.now in
    let t = thinks_same y.game y.frame y.agent y.answered c.in-Asks.is c.requires.thinks in
    let stands = stands_at y.game y.frame y.agent y.answered c.in-Asks.place c.in-Asks.pending c.requires.there t in
    let same = c.in_ok-pending-in-Asks.ensures in
    stands_copied y.game y.frame y.agent y.answered c.in-Asks.pending c.in_ok-pending-in-Asks.pending same.means same.place same.tree stands

pub returns-in_ok-memory-in-Ended : goal.returns-in_ok-memory-in-Ended
returns-in_ok-memory-in-Ended g c =
    let x = c.self.inside in
    let y : ThinkOf = c.args.self.now in
    let t = thinks_same y.game y.frame y.agent y.answered c.in-Ended.is c.requires.thinks in (
      ended_all y.game y.frame y.agent y.answered c.in-Ended.status c.in-Ended.memory c.in-Ended.intent t,
      c.at_end.ensures ∙ ap (λ (h : Game). part_of h c.frame.result x.agent) c.session.ensures
          ∙ ap (λ (n : ℕ). part_of y.game n x.agent) c.frame.ensures ∙ ap (λ (z : ThinkOf). part_of y.game y.frame z.agent) c.self.view_is,
    )

pub returns-in_ok-parked-in-Asks : goal.returns-in_ok-parked-in-Asks
returns-in_ok-parked-in-Asks g c =
    let y : ThinkOf = c.args.self.now in
    let t = thinks_same y.game y.frame y.agent y.answered c.in-Asks.is c.requires.thinks in
    let stands = stands_at y.game y.frame y.agent y.answered c.in-Asks.place c.in-Asks.pending c.requires.there t in
    ((asks_for y.game y.frame y.agent y.answered c.in-Asks.pending stands).asks, c.in_ok-parked-in-Asks.ensures)
