use Rattle.std.proofs.Common.{◌≡◌, All, vec_items}
use Rattle.band_mail.specs.Queues.{pass_names, all_taken}
use Rattle.band_mail.specs.Relay.{MayTake}
use Rattle.band_mail.proofs.queues.take_first.Given as goal

abbrev pub invariant-loop-i : goal.invariant-loop-i
invariant-loop-i g l = record {
  names : pass_names (vec_items l.passes) ≡ pass_names (vec_items l.initial.passes);
  may : All MayTake (vec_items l.passes);
  taken : all_taken (vec_items l.passes) ≡ all_taken (vec_items l.initial.passes);
}
