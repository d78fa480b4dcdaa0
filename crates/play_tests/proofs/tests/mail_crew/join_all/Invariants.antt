use Rattle.std.proofs.Common.{◌≡◌, ◌+◌, ◌<◌, ◌≤◌, ℕ, get_or, vec_len, vec_items}
use Rattle.std.specs.Prelude.{vec_capacity}
use Rattle.band_mail.specs.Mails.{ArePuttersOf}
use Rattle.play_tests.proofs.tests.mail_crew.join_all.Given as goal

abbrev pub invariant-loop-handle : goal.invariant-loop-handle
invariant-loop-handle g l = record {
  many : vec_len l.putters + vec_len l.crew ≡ vec_len l.initial.crew;
  room : vec_len l.initial.crew ≤ vec_capacity l.putters;
  putters : ArePuttersOf l.mail (vec_items l.putters);
  crew : (k : ℕ) (h : _) → k < vec_len l.crew → ((get_or (vec_items l.crew) k h).promise.mail.now ≡ l.mail) × ((get_or (vec_items l.crew) k h).promise.worker + k + 1 ≡ vec_len l.initial.crew);
}

abbrev pub decreases-loop-handle : goal.decreases-loop-handle
decreases-loop-handle g l = vec_len l.crew
