use Rattle.std.proofs.Common.{ℕ, ◌<◌, get_or, length, ◌≡◌, [], All, replicate, vec_len, vec_items}
use Rattle.band_mail.specs.Mails.{all_queues, all_put}
use Rattle.band_mail.specs.Queues.{queue_names, pass_names, all_taken, HaveCapacity}
use Rattle.band_mail.specs.Relay.{MayTake}
use Rattle.band_mail.proofs.mail.BandMail.new.Given as goal

abbrev pub invariant-loop-worker : goal.invariant-loop-worker
invariant-loop-worker g l = record {
  queues : vec_len l.queues ≡ l.worker;
  putters : all_queues (vec_items l.putters) ≡ queue_names (vec_items l.queues);
  passes : pass_names (vec_items l.passes) ≡ queue_names (vec_items l.queues);
  order : (k : ℕ) (p : _) → k < length (vec_items l.putters) → (get_or (vec_items l.putters) k p).worker ≡ k;
  may : All MayTake (vec_items l.passes);
  capacity : HaveCapacity (vec_items l.queues) l.capacity;
  put : all_put (vec_items l.putters) ≡ replicate l.worker [];
  taken : all_taken (vec_items l.passes) ≡ replicate l.worker [];
}
