use Rattle.std.proofs.Common.{◌≡◌, ◌+◌, ◌%◌, ◌∙◌, ap, arith, take, length, List, Bool}
use Rattle.std.specs.Prelude.{◌==◌, slice_set}
use Rattle.std.proofs.lemmas.List.{length-set}
use Rattle.stepping.specs.Played.{bits}
use Rattle.stepping.proofs.Playing.{bit_more, bit_set, bits_last}
use Rattle.stepping.proofs.turning.signals_of.Goals as goal

pub returns : goal.returns
returns c =
    let h = c.signals-test.false in
    let n = c.signals.invariant.many in
    bits_last c.signals.on c.signals.number c.signals.rest (bits 26 c.args.mask) (omega (arith, h, n)) (omega (arith, h)) c.signals.invariant.signals

pub signals-preserved : goal.signals-preserved
signals-preserved c =
    let l = c.signals.on in
    let k = c.signals.number in
    let n = c.signals.rest in
    let h = c.signals-test.true in
    let many = c.signals.invariant.many in
    let set : c.set.new.self ≡ slice_set l k (n % 2 == 1) = c.set.ensures ∙ ap (λ i. slice_set l i (n % 2 == 1)) c.in-Some.ensures.some in
    record {
      many = ap (λ (x : List Bool). length x) set ∙ length-set l k (n % 2 == 1) ∙ many;
      signals = bit_more l c.set.new.self k n (bits 26 c.args.mask) (omega (arith, h))
          (ap (λ (x : List Bool). take (k + 1) x) set ∙ bit_set l k (n % 2 == 1) (omega (arith, h, many)))
          c.signals.invariant.signals;
    }
