use Rattle.std.proofs.Common.{◌≢◌, ◌∙◌, ◌≤◌, ℕ, List, Option, None, length, get_or, ap, arith, below_more, inl, inr}
use Rattle.stepping.specs.Played.{Played}
use Rattle.btworld_c.specs.Many.{held_at, cells_in, agents_in}
use Rattle.btworld_c.proofs.Looks.{left_more, not_enough, enough}
use Rattle.btworld_c.proofs.look_reading.room_for.Goals as goal

pub returns-then-cells_left-more_cells-clause-short : goal.returns-then-cells_left-more_cells-clause-short
returns-then-cells_left-more_cells-clause-short c = λ _.
    inl (not_enough cells_in c.args.games.now c.games.games c.games.number c.games.cells_left c.in-Some.counts.0 c.args.cells c.games.invariant.kept c.games-test.true c.games.invariant.cells
    c.in-Some.ensures.cells c.if-cells_left-more_cells.true)

pub returns-then-agents_left-more_agents-clause-short : goal.returns-then-agents_left-more_agents-clause-short
returns-then-agents_left-more_agents-clause-short c = λ _.
    inr (not_enough agents_in c.args.games.now c.games.games c.games.number c.games.agents_left c.in-Some.counts.1 c.args.agents c.games.invariant.kept c.games-test.true c.games.invariant.agents
    c.in-Some.ensures.agents c.if-agents_left-more_agents.true)

pub games-preserved : goal.games-preserved
games-preserved c =
    let first = c.args.games.now in let now = c.games.games in let i = c.games.number in let so_far = c.games.invariant in let inside = c.games-test.true in
    let here : held_at first i ≢ None = λ e. c.in-Some.ensures.open (ap (λ (l : List (Option Played)). get_or l i None) so_far.kept ∙ e) in
    record {
      kept = c.counts_at.ensures.kept ∙ so_far.kept;
      open_so_far = below_more (λ (k : ℕ). held_at first k ≢ None) i so_far.open_so_far here;
      cells = left_more cells_in first now i c.games.cells_left c.in-Some.counts.0 c.args.cells so_far.kept inside so_far.cells c.in-Some.ensures.cells c.if-cells_left-more_cells.false;
      agents = left_more agents_in first now i c.games.agents_left c.in-Some.counts.1 c.args.agents so_far.kept inside so_far.agents c.in-Some.ensures.agents c.if-agents_left-more_agents.false;
    }

pub returns-clause-cells : goal.returns-clause-cells
returns-clause-cells c = λ _.
    let over : length c.args.games.now ≤ c.games.number = omega arith in
    enough cells_in c.args.games.now c.games.number c.games.cells_left c.args.cells over c.games.invariant.cells

pub returns-clause-agents : goal.returns-clause-agents
returns-clause-agents c = λ _.
    let over : length c.args.games.now ≤ c.games.number = omega arith in
    enough agents_in c.args.games.now c.games.number c.games.agents_left c.args.agents over c.games.invariant.agents
