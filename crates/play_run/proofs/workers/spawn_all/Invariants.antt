use Rattle.std.proofs.Common.{◌≡◌, ◌+◌, ◌<◌, ◌≤◌, ℕ, get_or, vec_len, vec_items}
use Rattle.std.specs.Prelude.{vec_capacity}
use Rattle.band_mail.specs.Mails.{ArePuttersOf}
use Rattle.play_run.specs.Puts.{bands_put}
use Rattle.play_run.proofs.workers.spawn_all.Given as goal

abbrev pub invariant-loop-putter : goal.invariant-loop-putter
invariant-loop-putter g l = record {
  many : vec_len l.putters + vec_len l.handles ≡ vec_len l.initial.putters;
  room : (vec_len l.initial.putters ≤ vec_capacity l.handles) × (vec_capacity l.putters ≡ vec_capacity l.initial.putters);
  parts : (l.all.parts ≡ vec_len l.putters + 1) × (l.draws.parts ≡ vec_len l.putters + 1);
  nothing_put : bands_put (vec_items l.putters) ≡ 0;
  putters : ArePuttersOf l.shared.mail (vec_items l.putters);
  handles : (k : ℕ) (h : _) → k < vec_len l.handles → ((get_or (vec_items l.handles) k h).promise.mail.now ≡ l.shared.mail) × ((get_or (vec_items l.handles) k h).promise.worker + k + 1 ≡ vec_len l.initial.putters);
}

abbrev pub decreases-loop-putter : goal.decreases-loop-putter
decreases-loop-putter g l = vec_len l.putters
