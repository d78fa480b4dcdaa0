use Rattle.std.proofs.Common.{rules, ◌≡◌, ◌∙◌, ◌<◌, length, arith, refl, sym, ne_eqb, true≢false, ◌^◌}
use Rattle.std.specs.Prelude.{slice_index}
use Rattle.std.proofs.lemmas.List.{get_or_default}
use Rattle.job_core.specs.declared.names.Event.{Event}
use Rattle.job_core.specs.declared.names.Event.TheVariants.{Start}
use Rattle.job_core.specs.declared.names.JobName.TheVariants.{Logic}
use Rattle.play_run.specs.Reports.{counts_for}
use Rattle.play_run.proofs.Tallies.{counted, few, passed_over}
use Rattle.play_run.proofs.counted.Counted.of_all.Goals as goal
use Rattle.play_run.proofs.counted.Counted.of_all.Goals.{in-Some+in-Some-get_mut, in-Some+in_default-get_mut, in_default}

abbrev some_event : Event
some_event = Start 0 (Logic 0)

pub overflow_add-number : goal.overflow_add-number
overflow_add-number c =
    let numbers = c.events.all.items in
    let worker = c.in-Some.worker in
    let within : worker < length numbers = omega (arith, c.in-Some-get_mut.ensures.variant.0 refl, c.events.all.ok.0) in
    let now : c.in-Some-get_mut.number.now ≡ slice_index numbers worker = c.in-Some-get_mut.ensures.value ∙ get_or_default numbers worker c.in-Some-get_mut.number.now 0 within in
    let low = few (counts_for c.args.self) c.args.workers c.args.events.now c.events.event-index some_event numbers c.events-test.true c.events.invariant worker within in
    let bound : length c.args.events.now < 2 ^ 63 = search rules in
    grind (arith, now, low, bound, c.events-test.true)

pub events-preserved : goal.events-preserved
events-preserved c =
    let counts = counts_for c.args.self in
    let workers = c.args.workers in
    let events = c.args.events.now in
    let n = c.events.event-index in
    let numbers = c.events.all.items in
    elim c.match-counts.branch [
      | in-Some+in-Some-get_mut w ↦
          let worker = w.in-Some.worker in
          let within : worker < length numbers = omega (arith, w.in-Some-get_mut.ensures.variant.0 refl, c.events.all.ok.0) in
          let now : w.in-Some-get_mut.number.now ≡ slice_index numbers worker = w.in-Some-get_mut.ensures.value ∙ get_or_default numbers worker w.in-Some-get_mut.number.now 0 within in
          rw (w.all-is, now) (counted counts workers events n some_event numbers c.events-test.true c.events.invariant worker within w.in-Some.ensures.some)
      | in-Some+in_default-get_mut w ↦
          rw w.all-is (passed_over counts workers events n some_event numbers c.events-test.true c.events.invariant
          (λ k low. w.in-Some.ensures.some k
          ∙ ne_eqb w.in-Some.worker k (λ same. true≢false (sym (w.in_default-get_mut.ensures.variant.1 (omega (arith, same, low, c.events.invariant.0, c.events.all.ok.0)))))))
      | in_default w ↦ rw w.all-is (passed_over counts workers events n some_event numbers c.events-test.true c.events.invariant (λ k low. w.in_default.ensures.none refl k))
    ]
