use Rattle.std.proofs.Common.{◌≡◌, ◌≤◌, ◌<◌, ◌+◌, ◌-◌, ℕ, Bool, List, not, true, false, Some, length, length-take, length-drop, slice_get, slice_index_or, slice_set, take, drop, sym, ap, ◌∙◌, arith}
use Rattle.board_model.specs.Lists.{tally, write}
use Rattle.job_queues.proofs.Pools.{front_write, front_get, few_pass, one_more, take_write, take_write_past, drop_write, drop_write_before, get_in_front, get_behind}
use Rattle.job_queues.proofs.pool.FiberPool.give.Goals as goal

-- a taken fiber, in the table of all
module _ (taken : List Bool) (count small at : ℕ) (some : count ≤ length taken) (below : at < count) (is : slice_index_or taken at false ≡ true) where
  was : slice_get (take count taken) at ≡ Some true
  was = front_get count taken at false below (omega arith) ∙ ap Some is

  now : take count (slice_set taken at false) ≡ write (take count taken) at false
  now = front_write count taken at false below

  module _ (h : at < small) where
    one_small_more : tally not (take small (take count (slice_set taken at false))) ≡ 1 + tally not (take small (take count taken))
    one_small_more =
        let more = one_more (take small (take count taken)) at (get_in_front small (take count taken) at h ∙ was) in
        let same : tally not (take small (take count (slice_set taken at false))) ≡ tally not (write (take small (take count taken)) at false) = ap (λ l. tally not (take small l)) now ∙ ap (tally not) (take_write small (take count taken) at false h) in
        omega (arith, more, same)

    same_large : tally not (drop small (take count (slice_set taken at false))) ≡ tally not (drop small (take count taken))
    same_large = ap (λ l. tally not (drop small l)) now ∙ ap (tally not) (drop_write_before small (take count taken) at false h)

  module _ (h : small ≤ at) where
    behind : at ≡ small + (at - small)
    behind = omega (arith, h)

    one_large_more : tally not (drop small (take count (slice_set taken at false))) ≡ 1 + tally not (drop small (take count taken))
    one_large_more =
        let more = one_more (drop small (take count taken)) (at - small) (get_behind small (take count taken) (at - small) at behind ∙ was) in
        let same : tally not (drop small (take count (slice_set taken at false))) ≡ tally not (write (drop small (take count taken)) (at - small) false) = ap (λ l. tally not (drop small l)) now ∙ ap (tally not) (drop_write small (take count taken) (at - small) at false behind) in
        omega (arith, more, same)

    same_small : tally not (take small (take count (slice_set taken at false))) ≡ tally not (take small (take count taken))
    same_small = ap (λ l. tally not (take small l)) now ∙ ap (tally not) (take_write_past small (take count taken) at false h)

few_small : (taken : List Bool) (count small : ℕ) → tally not (take small (take count taken)) ≤ small
few_small taken count small = let few = few_pass not (take small (take count taken)) in omega (arith, few, length-take small (take count taken))

few_large : (taken : List Bool) (count small : ℕ) → tally not (drop small (take count taken)) ≤ count
few_large taken count small = let few = few_pass not (drop small (take count taken)) in omega (arith, few, length-drop small (take count taken), length-take count taken)

pub overflow_add-self : goal.overflow_add-self
overflow_add-self c = omega (arith, few_small c.self.inside.taken c.self.inside.count c.self.inside.small, c.self.invariant.0, c.self.invariant.1, c.self.invariant.2)

pub invariant_of-self : goal.invariant_of-self
invariant_of-self c =
    let v = c.self.inside in
    let at = c.fiber.inside.0 in
    let some : v.count ≤ length v.taken = omega (arith, c.self.told, c.self.invariant.0) in
    let more = one_small_more v.taken v.count v.small at some c.if-at-self.false c.if-not-self-at.false c.if-at-self-2.true in
    let same = same_large v.taken v.count v.small at some c.if-at-self.false c.if-not-self-at.false c.if-at-self-2.true in
    (c.self.invariant.0, c.self.invariant.1, omega (arith, more, c.self.invariant.2), c.self.invariant.3 ∙ sym same)

pub overflow_add-self-else-at-self-2 : goal.overflow_add-self-else-at-self-2
overflow_add-self-else-at-self-2 c = omega (arith, few_large c.self.inside.taken c.self.inside.count c.self.inside.small, c.self.invariant.0, c.self.invariant.3)

pub invariant_of-self-else-at-self-2 : goal.invariant_of-self-else-at-self-2
invariant_of-self-else-at-self-2 c =
    let v = c.self.inside in
    let at = c.fiber.inside.0 in
    let some : v.count ≤ length v.taken = omega (arith, c.self.told, c.self.invariant.0) in
    let more = one_large_more v.taken v.count v.small at some c.if-at-self.false c.if-not-self-at.false c.if-at-self-2.false in
    let same = same_small v.taken v.count v.small at some c.if-at-self.false c.if-not-self-at.false c.if-at-self-2.false in
    (c.self.invariant.0, c.self.invariant.1, c.self.invariant.2 ∙ sym same, omega (arith, more, c.self.invariant.3))

pub returns-then-at-self-2-clause-was_taken : goal.returns-then-at-self-2-clause-was_taken
returns-then-at-self-2-clause-was_taken c =
    let v = c.self.inside in
    let at = c.fiber.inside.0 in
    let some : v.count ≤ length v.taken = omega (arith, c.self.told, c.self.invariant.0) in
    rw (← c.self.view_is) (ap (slice_get (take v.count v.taken)) (sym c.fiber.view_is) ∙ was v.taken v.count v.small at some c.if-at-self.false c.if-not-self-at.false)

pub returns-then-at-self-2-clause-freed : goal.returns-then-at-self-2-clause-freed
returns-then-at-self-2-clause-freed c =
    let v = c.self.inside in
    let at = c.fiber.inside.0 in
    let some : v.count ≤ length v.taken = omega (arith, c.self.told, c.self.invariant.0) in
    rw (← c.self.view_is) (ap (λ l. record { small = v.small; taken = l }) (now v.taken v.count v.small at some c.if-at-self.false c.if-not-self-at.false ∙ ap (λ fiber. write (take v.count v.taken) fiber false) c.fiber.view_is))

pub returns-else-at-self-2-clause-was_taken : goal.returns-else-at-self-2-clause-was_taken
returns-else-at-self-2-clause-was_taken c =
    let v = c.self.inside in
    let at = c.fiber.inside.0 in
    let some : v.count ≤ length v.taken = omega (arith, c.self.told, c.self.invariant.0) in
    rw (← c.self.view_is) (ap (slice_get (take v.count v.taken)) (sym c.fiber.view_is) ∙ was v.taken v.count v.small at some c.if-at-self.false c.if-not-self-at.false)

pub returns-else-at-self-2-clause-freed : goal.returns-else-at-self-2-clause-freed
returns-else-at-self-2-clause-freed c =
    let v = c.self.inside in
    let at = c.fiber.inside.0 in
    let some : v.count ≤ length v.taken = omega (arith, c.self.told, c.self.invariant.0) in
    rw (← c.self.view_is) (ap (λ l. record { small = v.small; taken = l }) (now v.taken v.count v.small at some c.if-at-self.false c.if-not-self-at.false ∙ ap (λ fiber. write (take v.count v.taken) fiber false) c.fiber.view_is))
