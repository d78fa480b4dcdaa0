use Rattle.std.proofs.Common.{◌≡◌, ◌<◌, ◌+◌, ℕ, Bool, List, Some, not, true, length, length-take, position, slice_set, take, drop, sym, ap, ◌∙◌, subst, arith}
use Rattle.board_model.specs.Lists.{tally, write}
use Rattle.job_queues.proofs.Pools.{front_write, none_passes, first_found, one_less, take_write, drop_write_before}
use Rattle.job_queues.proofs.pool.FiberPool.take_small.Goals as goal

-- where a free small fiber was found, in the table of all
module _ (taken : List Bool) (count small at : ℕ) (found : Some at ≡ position not (take small (take count taken))) (bound : at < length (take small (take count taken))) where
  is_small : at < small
  is_small = omega (arith, bound, length-take small (take count taken))

  below : at < count
  below = omega (arith, bound, length-take small (take count taken), length-take count taken)

  now : take count (slice_set taken at true) ≡ write (take count taken) at true
  now = front_write count taken at true below

  one_small_less : tally not (take small (take count taken)) ≡ 1 + tally not (take small (take count (slice_set taken at true)))
  one_small_less =
      let less = one_less (take small (take count taken)) at found bound in
      let same : tally not (take small (take count (slice_set taken at true))) ≡ tally not (write (take small (take count taken)) at true) = ap (λ l. tally not (take small l)) now ∙ ap (tally not) (take_write small (take count taken) at true is_small) in
      omega (arith, less, same)

  same_large : tally not (drop small (take count (slice_set taken at true))) ≡ tally not (drop small (take count taken))
  same_large = ap (λ l. tally not (drop small l)) now ∙ ap (tally not) (drop_write_before small (take count taken) at true is_small)

pub returns-in_default-clause-none_free : goal.returns-in_default-clause-none_free
returns-in_default-clause-none_free c = rw (← c.self.view_is) (none_passes not _ (c.in_default.ensures.value ∙ ap (position not) c.split_at.ensures.front))

pub overflow_sub-self : goal.overflow_sub-self
overflow_sub-self c =
    let found = c.in-Some.ensures.value ∙ ap (position not) c.split_at.ensures.front in
    let bound = subst (λ l. c.in-Some.at < length l) c.split_at.ensures.front c.in-Some.ensures.bound in
    let less = one_small_less c.self.inside.taken c.self.inside.count c.self.inside.small c.in-Some.at found bound in
    omega (arith, less, c.self.invariant.2)

pub invariant_of-self : goal.invariant_of-self
invariant_of-self c =
    let found = c.in-Some.ensures.value ∙ ap (position not) c.split_at.ensures.front in
    let bound = subst (λ l. c.in-Some.at < length l) c.split_at.ensures.front c.in-Some.ensures.bound in
    let less = one_small_less c.self.inside.taken c.self.inside.count c.self.inside.small c.in-Some.at found bound in
    let same = same_large c.self.inside.taken c.self.inside.count c.self.inside.small c.in-Some.at found bound in
    (c.self.invariant.0, c.self.invariant.1, omega (arith, less, c.self.invariant.2), c.self.invariant.3 ∙ sym same)

pub returns-clause-lowest : goal.returns-clause-lowest
returns-clause-lowest c =
    let found = c.in-Some.ensures.value ∙ ap (position not) c.split_at.ensures.front in
    rw (← c.self.view_is) (first_found not (take c.self.inside.small (take c.self.inside.count c.self.inside.taken)) c.in-Some.at found)

pub returns-clause-taken : goal.returns-clause-taken
returns-clause-taken c =
    let found = c.in-Some.ensures.value ∙ ap (position not) c.split_at.ensures.front in
    let bound = subst (λ l. c.in-Some.at < length l) c.split_at.ensures.front c.in-Some.ensures.bound in
    rw (← c.self.view_is) (ap (λ l. record { small = c.self.inside.small; taken = l }) (now c.self.inside.taken c.self.inside.count c.self.inside.small c.in-Some.at found bound))
