use Rattle.std.proofs.Common.{◌≡◌, ◌+◌, ◌++◌, true, List, length, map, vec_len, vec_items}
use Rattle.std.specs.Prelude.{vec_capacity}
use Rattle.crossbeam_queue.specs.Passes.{view, IsSamePass}
use Rattle.band_mail.specs.Relay.{log}
use Rattle.band_mail.proofs.queue.drain.Given as goal

abbrev pub invariant-loop-i : goal.invariant-loop-i
invariant-loop-i g l =
    IsSamePass l.fn.pass l.pass × (vec_capacity l.into ≡ vec_capacity l.initial.into) × (vec_len l.into ≡ vec_len l.initial.into + l._i)
    × ((rest : List _) × (view l.pass ≡ log true true (view l.fn.puts).put ((view l.fn.pass).taken ++ rest)) × (length rest ≡ l._i)
    × (vec_items l.into ≡ vec_items l.initial.into ++ map (λ x. (l.worker, x)) rest))
