use Rattle.std.proofs.Common.{◌≡◌, ◌==◌, Some, None, true, find, slice_index_or, option_map, ap, sym, refl, ◌∙◌}
use Rattle.job_core.specs.declared.names.JobName.TheVariants.{Logic}
use Rattle.job_core.proofs.ByCases.{by_eq}
use Rattle.job_queues.specs.Lanes.{may_start}
use Rattle.job_queues.proofs.Fifos.{nothing_first}
use Rattle.job_queues.proofs.Places.{front_is_first}
use Rattle.job_queues.proofs.Picks.{none_given, new_given, nothing_there, first_given, first_entry, own_name}
use Rattle.job_queues.proofs.priority_queue.PriorityQueue.find.Goals as goal

pub returns-in-Some-clause-place : goal.returns-in-Some-clause-place
returns-in-Some-clause-place c = front_is_first (λ other. c.in-Some.fiber == other) c.args.self.now.ready.items c.in-Some.fiber (sym c.in-Some.ensures) (by_eq c.in-Some.fiber c.in-Some.fiber (λ b. b ≡ true) (λ e. refl) (λ n. absurd (n refl)))

pub returns-in_default-first-clause-value : goal.returns-in_default-first-clause-value
returns-in_default-first-clause-value c = sym (nothing_there (may_start c.args.free) _ _ (sym c.in_default.ensures) (sym c.in_default-first.ensures))

pub returns-then-may_start-clause-value : goal.returns-then-may_start-clause-value
returns-then-may_start-clause-value c = sym (first_given (may_start c.args.free) _ _ c.in-Some-first.job (sym c.in_default.ensures) (sym c.in-Some-first.ensures) (sym c.may_start.ensures ∙ c.if-may_start.true))

pub returns-then-may_start-clause-place : goal.returns-then-may_start-clause-place
returns-then-may_start-clause-place c = front_is_first _ c.args.self.now.fresh.items c.in-Some-first.job (sym c.in-Some-first.ensures) (own_name c.in-Some-first.job)

pub returns-in_err-at-clause-value : goal.returns-in_err-at-clause-value
returns-in_err-at-clause-value c =
    let none : find (may_start c.args.free) c.args.self.now.fresh.items ≡ None = ap (find (may_start c.args.free)) (sym c.waiting-waiting.ensures) ∙ c.in_err-at.ensures.first.value in
    ap (option_map _) c.from_residual.ensures ∙ sym (none_given (may_start c.args.free) _ _ (nothing_first _ (sym c.in_default.ensures)) none)

pub returns-clause-value : goal.returns-clause-value
returns-clause-value c =
    let job = slice_index_or c.waiting-waiting.result.now c.in_ok-at.at (Logic 0) in
    let found : find (may_start c.args.free) c.args.self.now.fresh.items ≡ Some job = ap (find (may_start c.args.free)) (sym c.waiting-waiting.ensures) ∙ c.in_ok-at.ensures.first.value (Logic 0) in
    sym (new_given (may_start c.args.free) _ _ job (nothing_first _ (sym c.in_default.ensures)) found)

pub returns-clause-place : goal.returns-clause-place
returns-clause-place c =
    let job = slice_index_or c.waiting-waiting.result.now c.in_ok-at.at (Logic 0) in
    rw (← c.waiting-waiting.ensures) (first_entry (may_start c.args.free) job c.waiting-waiting.result.now c.in_ok-at.at (c.in_ok-at.ensures.first.value (Logic 0)) c.in_ok-at.ensures.place)
