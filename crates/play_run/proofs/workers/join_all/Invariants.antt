use Rattle.std.proofs.Common.{None, ◌≡◌, ◌+◌, ◌<◌, ◌≤◌, ℕ, get_or, vec_len, vec_items}
use Rattle.std.specs.Prelude.{vec_capacity}
use Rattle.band_mail.specs.Mails.{ArePuttersOf}
use Rattle.play_run.specs.Puts.{bands_put}
use Rattle.play_run.proofs.workers.join_all.Given as goal

abbrev pub invariant-loop-handle : goal.invariant-loop-handle
invariant-loop-handle g l = record {
  many : vec_len l.putters + vec_len l.handles ≡ vec_len l.initial.handles;
  room : vec_len l.initial.handles ≤ vec_capacity l.putters;
  parts : (l.all.parts + vec_len l.handles ≡ l.initial.all.parts + vec_len l.initial.handles) × (l.draws.parts + vec_len l.handles ≡ l.initial.draws.parts + vec_len l.initial.handles);
  told : l.cause ≡ None → bands_put (vec_items l.putters) ≤ l.draws.amount;
  putters : ArePuttersOf l.mail (vec_items l.putters);
  handles : (k : ℕ) (h : _) → k < vec_len l.handles → ((get_or (vec_items l.handles) k h).promise.mail.now ≡ l.mail) × ((get_or (vec_items l.handles) k h).promise.worker + k + 1 ≡ vec_len l.initial.handles);
}

abbrev pub decreases-loop-handle : goal.decreases-loop-handle
decreases-loop-handle g l = vec_len l.handles
