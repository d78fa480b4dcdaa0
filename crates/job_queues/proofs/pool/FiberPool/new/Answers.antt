use Rattle.std.proofs.Common.{◌≡◌, ◌+◌, false, not, take, drop, replicate, sym, ap, ◌∙◌, arith}
use Rattle.board_model.specs.Lists.{tally}
use Rattle.job_queues.proofs.Pools.{front_replicate, all_free_small, all_free_large}
use Rattle.job_queues.proofs.pool.FiberPool.new.Goals as goal

pub invariant_of-result : goal.invariant_of-result
invariant_of-result c =
    let front : take (c.args.small + c.args.large) (replicate 128 false) ≡ replicate (c.args.small + c.args.large) false = front_replicate (c.args.small + c.args.large) 128 false c.requires in
    (c.requires, omega arith, sym (ap (λ l. tally not (take c.args.small l)) front ∙ all_free_small c.args.small c.args.large), sym (ap (λ l. tally not (drop c.args.small l)) front ∙ all_free_large c.args.small c.args.large))

pub returns : goal.returns
returns c = ap (λ l. record { small = c.args.small; taken = l }) (front_replicate (c.args.small + c.args.large) 128 false c.requires)
