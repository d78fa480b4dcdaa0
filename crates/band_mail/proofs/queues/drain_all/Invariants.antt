use Rattle.std.proofs.Common.{◌≡◌, ◌+◌, ◌*◌, ◌≤◌, ◌++◌, All, List, vec_len, vec_items}
use Rattle.std.specs.Prelude.{vec_capacity}
use Rattle.band_mail.specs.Mails.{Putting}
use Rattle.band_mail.specs.Queues.{pass_names, all_taken}
use Rattle.band_mail.specs.Relay.{MayTake}
use Rattle.band_mail.proofs.AnyOrder.{AreDrained}
use Rattle.band_mail.proofs.queues.drain_all.Given as goal

abbrev pub invariant-loop-putter : goal.invariant-loop-putter
invariant-loop-putter g l = record {
  names : pass_names (vec_items l.passes) ≡ pass_names (vec_items l.fn.passes);
  may : All MayTake (vec_items l.passes);
  room : vec_len l.into + vec_len l.putters * l.capacity ≤ vec_capacity l.into;
  drained : (gone : List (Putting _)) × (vec_items l.fn.putters ≡ vec_items l.putters ++ gone)
      × AreDrained (all_taken (vec_items l.fn.passes)) (all_taken (vec_items l.passes)) gone (vec_items l.into);
}

abbrev pub decreases-loop-putter : goal.decreases-loop-putter
decreases-loop-putter g l = vec_len l.putters
