use Rattle.std.proofs.Common.{sym, ap, subst, ◌∙◌, ◌++◌, ◌∷◌, []}
use Rattle.board_model.specs.Board.{Row}
use Rattle.counters.specs.Keys.{counter_of}
use Rattle.counters.specs.Waiting.{IsUnique}
use Rattle.counters.proofs.Unique.{unique_last}
use Rattle.counters.proofs.board_counters.BoardCounters.start_awaited.Goals as goal

pub invariant_of-self-2 : goal.invariant_of-self-2
invariant_of-self-2 c =
    let put = c.push_reserved.ensures.items ∙ ap (λ l. l ++ c.new.result ∷ []) c.reserve.ensures.items in
    subst IsUnique (sym put) (unique_last (counter_of c.args.key) _ (ap (λ (row : Row). row.key) c.new.ensures) c.self.inside.all.items (rw (← c.self.view_is) at c.requires) c.self.invariant)
