use Rattle.std.proofs.Common.{◌∙◌, ⊎_elim, inl, inr}
use Rattle.btworld_c.specs.Many.{cells_in, agents_in}
use Rattle.btworld_c.proofs.Looks.{looked_more, counted_more, too_long}
use Rattle.btworld_c.proofs.look_reading.write_all.Goals as goal

pub returns-in-Err-clause-short : goal.returns-in-Err-clause-short
returns-in-Err-clause-short c = λ is.
    let first = c.args.games.now in let i = c.games.number in let so_far = c.games.invariant in
    ⊎_elim
    (λ few. inl (too_long cells_in first c.games.games i c.games.cells_at c.games.cells c.args.cells.now so_far.kept c.games-test.true so_far.cells_at so_far.cells c.games.auto.cells few))
    (λ few. inr (too_long agents_in first c.games.games i c.games.agents_at c.games.agents c.args.agents.now so_far.kept c.games-test.true so_far.agents_at so_far.agents c.games.auto.agents few))
    (c.in-Err.ensures.short is)

pub games-preserved : goal.games-preserved
games-preserved c =
    let first = c.args.games.now in let now = c.games.games in let i = c.games.number in let so_far = c.games.invariant in let inside = c.games-test.true in
    record {
      kept = c.look_at.ensures.kept ∙ so_far.kept;
      cells_at = counted_more cells_in first now i c.games.cells_at c.in-Ok.counts.0 so_far.kept inside so_far.cells_at c.in-Ok.ensures.cells.0;
      agents_at = counted_more agents_in first now i c.games.agents_at c.in-Ok.counts.1 so_far.kept inside so_far.agents_at c.in-Ok.ensures.agents.0;
      cells = looked_more cells_in first now i c.games.cells_at c.in-Ok.counts.0 c.games.cells c.look_at.new.cells c.args.cells.now so_far.kept inside so_far.cells_at so_far.cells c.in-Ok.ensures.cells;
      agents = looked_more agents_in first now i c.games.agents_at c.in-Ok.counts.1 c.games.agents c.look_at.new.agents c.args.agents.now so_far.kept inside so_far.agents_at so_far.agents c.in-Ok.ensures.agents;
    }
