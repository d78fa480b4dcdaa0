use Rattle.std.proofs.Common.{◌≡◌, ◌+◌, ◌<◌, ◌≤◌, ℕ, get_or, vec_len, vec_items}
use Rattle.std.specs.Prelude.{vec_capacity}
use Rattle.band_mail.specs.Mails.{ArePuttersOf}
use Rattle.play_tests.proofs.tests.mail_crew.hire.Given as goal

abbrev pub invariant-loop-putter : goal.invariant-loop-putter
invariant-loop-putter g l = record {
  many : vec_len l.putters + vec_len l.crew ≡ vec_len l.initial.putters;
  room : (vec_len l.initial.putters ≤ vec_capacity l.crew) × (vec_capacity l.putters ≡ vec_capacity l.initial.putters);
  putters : ArePuttersOf l.mail (vec_items l.putters);
  crew : (k : ℕ) (h : _) → k < vec_len l.crew → ((get_or (vec_items l.crew) k h).promise.mail.now ≡ l.mail) × ((get_or (vec_items l.crew) k h).promise.worker + k + 1 ≡ vec_len l.initial.putters);
}

abbrev pub decreases-loop-putter : goal.decreases-loop-putter
decreases-loop-putter g l = vec_len l.putters
