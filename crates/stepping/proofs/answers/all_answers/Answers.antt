use Rattle.std.proofs.Common.{◌∙◌, ap, subst, arith, ℕ, List, Bool}
use Rattle.std.specs.declared.alloc.Global.{Global}
use Rattle.grid_world.specs.Grid.{Point}
use Rattle.grid_world.specs.World.{point}
use Rattle.grid_world.specs.Way.{way}
use Rattle.bt_nodes.specs.Trees.{plain_of}
use Rattle.game_rules.specs.View.{cell_of}
use Rattle.game_rules.proofs.Ground.{way_stays}
use Rattle.bt_tick.specs.Thinking.{Thinking}
use Rattle.bt_tick.specs.Views.{view_of}
use Rattle.bt_tick.specs.Outcome.{place_of}
use Rattle.bt_tick.specs.declared.tick.Outcome.{Outcome}
use Rattle.bt_tick.specs.declared.tick.Outcome.TheVariants.{Asks}
use Rattle.stepping.proofs.Asked.{no_more, one_more, all_answered}
use Rattle.stepping.proofs.answers.all_answers.Goals as goal

pub returns-in-Ended : goal.returns-in-Ended
returns-in-Ended c =
    let v = view_of c.args.view.now in
    let p = plain_of c.args.tree.now in
    all_answered v p c.args.memory.now c.asked._asked c.in-Ended._status c.in-Ended._memory c.in-Ended._intent c.asked.answers.items
    (subst (λ (o : Outcome Global Global). Thinking v p c.args.memory.now c.asked._asked o) c.in-Ended.is c.asked.invariant.thinks) c.asked.invariant.answers

pub asked-preserved : goal.asked-preserved
asked-preserved c =
    let v = view_of c.args.view.now in
    let p = plain_of c.args.tree.now in
    let m = c.args.memory.now in
    let i = c.asked._asked in
    let q = c.in-Asks.pending in
    let at : Point = point c.cell_on-cell.result.0 c.cell_on-cell.result.1 in
    let stands = subst (λ (o : Outcome Global Global). Thinking v p m i o) c.in-Asks.is c.asked.invariant.thinks in
    let asks = subst (λ (n : ℕ). Thinking {T = Global} {A = Global} v p m i (Asks n q)) stands.comes.0 stands in
    let is =
    c.in_ok-answer-in-Asks.ensures.way
    ∙ way_stays c.args.known.now.ground v.world c.requires.ground c.args.known.now.signals at c.place.result
    ∙ ap (λ (on : List Bool). way v.world on at c.place.result) c.requires.signals
    ∙ ap (λ (a : Point). way v.world v.signals a c.place.result) c.cell_on-cell.ensures.cell
    ∙ ap (λ (n : ℕ). way v.world v.signals (cell_of v) n) c.place.ensures in
    record {
      thinks = c.in_ok-outcome-in-Asks.ensures p m i asks is;
      answers = c.in_ok-push-in-Asks.ensures.items ∙ one_more v p m i (place_of q) q c.in_ok-answer-in-Asks.answer c.asked.answers.items asks is c.asked.invariant.answers;
    }

pub unreachable-requires : goal.unreachable-requires
unreachable-requires c =
    no_more (view_of c.args.view.now) (plain_of c.args.tree.now) c.args.memory.now c.asked._asked c.asked.outcome c.asked.invariant.thinks
    (omega (arith, c.asked-test.false, c.size-asked-end.ensures.value))
