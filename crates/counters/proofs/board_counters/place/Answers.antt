use Rattle.std.proofs.Common.{◌≡◌, ◌-◌, ◌∙◌, sym, arith}
use Rattle.board_model.specs.Board.{has_key}
use Rattle.counters.specs.Keys.{counter_of}
use Rattle.counters.proofs.Unique.{none_behind, first_found}
use Rattle.counters.proofs.board_counters.place.Goals as goal

pub returns-then-is_for : goal.returns-then-is_for
returns-then-is_for c = first_found (counter_of c.args.key) c.args.all.now (c.rows.at - 1) _ c.requires (omega arith) c.index-all-at.is (sym c.is_for.ensures ∙ c.if-is_for.true)

pub returns : goal.returns
returns c =
    let all_looked_at : c.rows.at ≡ 0 = omega arith in
    none_behind (has_key (counter_of c.args.key)) c.args.all.now (rw all_looked_at at c.rows.invariant)
