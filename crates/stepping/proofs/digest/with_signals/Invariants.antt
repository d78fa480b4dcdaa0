use Rattle.std.proofs.Common.{◌≡◌, map, drop}
use Rattle.stepping.specs.Digest.{fnv_all, bit}
use Rattle.stepping.proofs.digest.with_signals.Given as goal

abbrev pub invariant-signals : goal.invariant-signals
invariant-signals l = fnv_all l.so_far (map bit (drop l.number l.signals)) ≡ fnv_all l.hash (map bit l.signals)
