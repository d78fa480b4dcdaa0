use Rattle.std.proofs.Common.{◌≡◌, ◌++◌, ◌-◌, take, length}
use Rattle.stepping.specs.Played.{bits}
use Rattle.stepping.proofs.turning.signals_of.Given as goal

abbrev pub invariant-signals : goal.invariant-signals
invariant-signals l = record {
  many : length l.on ≡ 26;
  signals : take l.number l.on ++ bits (26 - l.number) l.rest ≡ bits 26 l.fn.mask;
}
