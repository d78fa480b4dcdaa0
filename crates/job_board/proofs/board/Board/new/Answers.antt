use Rattle.std.proofs.Common.{None, replicate, ap, sym, ◌∙◌, map, is_some}
use Rattle.job_board.proofs.Staying.{opens_playing, none_worked}
use Rattle.task_board.specs.Boards.{Played}
use Rattle.job_board.proofs.board.Board.new.Goals as goal

pub invariant_of-result : goal.invariant_of-result
invariant_of-result c = opens_playing c.in_ok-run.run' c.in-Ok.works.places.items (ap (λ (b : Played). b.events) c.in_ok-run.ensures) (c.in-Ok.ensures ∙ ap (λ n. replicate n None) (c.workers.ensures.value ∙ sym (ap (λ (b : Played). b.numbers.workers) c.in_ok-run.ensures)))

pub returns-clause-worked : goal.returns-clause-worked
returns-clause-worked c = ap (map is_some) (c.in-Ok.ensures ∙ ap (λ n. replicate n None) c.workers.ensures.value) ∙ none_worked c.args.settings.workers
