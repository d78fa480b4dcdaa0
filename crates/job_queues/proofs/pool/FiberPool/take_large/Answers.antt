use Rattle.std.proofs.Common.{◌≡◌, ◌<◌, ◌+◌, ℕ, Bool, List, Some, not, true, length, length-take, length-drop, position, slice_set, take, drop, refl, sym, ap, ◌∙◌, subst, arith}
use Rattle.board_model.specs.Lists.{tally, write}
use Rattle.job_queues.proofs.Pools.{front_write, none_passes, first_found, one_less, take_write_past, drop_write}
use Rattle.job_queues.proofs.pool.FiberPool.take_large.Goals as goal

-- where a free large fiber was found, in the table of all
module _ (taken : List Bool) (count small behind : ℕ) (found : Some behind ≡ position not (drop small (take count taken))) (bound : behind < length (drop small (take count taken))) where
  below : small + behind < count
  below = omega (arith, bound, length-drop small (take count taken), length-take count taken)

  now : take count (slice_set taken (small + behind) true) ≡ write (take count taken) (small + behind) true
  now = front_write count taken (small + behind) true below

  one_large_less : tally not (drop small (take count taken)) ≡ 1 + tally not (drop small (take count (slice_set taken (small + behind) true)))
  one_large_less =
      let less = one_less (drop small (take count taken)) behind found bound in
      let same : tally not (drop small (take count (slice_set taken (small + behind) true))) ≡ tally not (write (drop small (take count taken)) behind true) = ap (λ l. tally not (drop small l)) now ∙ ap (tally not) (drop_write small (take count taken) behind (small + behind) true refl) in
      omega (arith, less, same)

  same_small : tally not (take small (take count (slice_set taken (small + behind) true))) ≡ tally not (take small (take count taken))
  same_small = ap (λ l. tally not (take small l)) now ∙ ap (tally not) (take_write_past small (take count taken) (small + behind) true (omega arith))

pub returns-in_default-clause-none_free : goal.returns-in_default-clause-none_free
returns-in_default-clause-none_free c = rw (← c.self.view_is) (none_passes not _ (c.in_default.ensures.value ∙ ap (position not) c.split_at.ensures.back))

pub overflow_sub-self : goal.overflow_sub-self
overflow_sub-self c =
    let found = c.in-Some.ensures.value ∙ ap (position not) c.split_at.ensures.back in
    let bound = subst (λ l. c.in-Some.behind < length l) c.split_at.ensures.back c.in-Some.ensures.bound in
    let less = one_large_less c.self.inside.taken c.self.inside.count c.self.inside.small c.in-Some.behind found bound in
    omega (arith, less, c.self.invariant.3)

pub invariant_of-self : goal.invariant_of-self
invariant_of-self c =
    let found = c.in-Some.ensures.value ∙ ap (position not) c.split_at.ensures.back in
    let bound = subst (λ l. c.in-Some.behind < length l) c.split_at.ensures.back c.in-Some.ensures.bound in
    let less = one_large_less c.self.inside.taken c.self.inside.count c.self.inside.small c.in-Some.behind found bound in
    let same = same_small c.self.inside.taken c.self.inside.count c.self.inside.small c.in-Some.behind found bound in
    (c.self.invariant.0, c.self.invariant.1, c.self.invariant.2 ∙ sym same, omega (arith, less, c.self.invariant.3))

pub returns-clause-lowest : goal.returns-clause-lowest
returns-clause-lowest c =
    let found = c.in-Some.ensures.value ∙ ap (position not) c.split_at.ensures.back in
    rw (← c.self.view_is) (ap (λ i. c.self.inside.small + i) (first_found not (drop c.self.inside.small (take c.self.inside.count c.self.inside.taken)) c.in-Some.behind found))

pub returns-clause-taken : goal.returns-clause-taken
returns-clause-taken c =
    let found = c.in-Some.ensures.value ∙ ap (position not) c.split_at.ensures.back in
    let bound = subst (λ l. c.in-Some.behind < length l) c.split_at.ensures.back c.in-Some.ensures.bound in
    rw (← c.self.view_is) (ap (λ l. record { small = c.self.inside.small; taken = l }) (now c.self.inside.taken c.self.inside.count c.self.inside.small c.in-Some.behind found bound))
