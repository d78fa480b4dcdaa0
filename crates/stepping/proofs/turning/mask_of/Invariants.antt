use Rattle.std.proofs.Common.{◌≡◌, ◌<◌, ◌-◌, ◌^◌, drop}
use Rattle.stepping.specs.Played.{bits}
use Rattle.stepping.proofs.turning.mask_of.Given as goal

abbrev pub invariant-signals : goal.invariant-signals
invariant-signals l = record {
  signals : bits l.behind l.mask ≡ drop (26 - l.behind) l.fn.signals;
  below : l.mask < 2 ^ l.behind;
}
