use Rattle.std.proofs.Common.{◌≡◌, ◌+◌, ◌-◌, ◌*◌, ◌∙◌, ℕ, List, Bool, true, false, refl, if◌then◌else◌, length, get_or, sym, ap, arith}
use mir.Val.{bool_byte}
use Rattle.stepping.specs.Played.{bits}
use Rattle.stepping.proofs.Playing.{bit_below, none_below, below_more}
use Rattle.stepping.proofs.turning.mask_of.Goals as goal

byte_is : (v : Bool) → bool_byte v ≡ (if v then 1 else 0)
byte_is true = refl
byte_is false = refl

pub signals-init : goal.signals-init
signals-init c = let many : length c.args.signals ≡ 26 = search in record { signals = none_below c.args.signals many; below = omega arith }

pub signals-preserved : goal.signals-preserved
signals-preserved c =
    let on : List Bool = c.args.signals in
    let k : ℕ = c.signals.behind in
    let m : ℕ = c.signals.mask in
    let v : Bool = c.is_on.result in
    let many : length on ≡ 26 = search in
    let bit : c.from.result ≡ (if v then 1 else 0) = c.from.ensures ∙ byte_is v in
    let at : get_or on (25 - k) false ≡ v = ap (λ (i : ℕ). get_or on i false) (sym c.in-Some.ensures.some) ∙ sym c.is_on.ensures in
    record {
      signals = ap (λ (b : ℕ). bits (k + 1) (2 * m + b)) bit ∙ bit_below on k m v many c.signals-test.true at c.signals.invariant.signals;
      below = rw bit (below_more k m v c.signals.invariant.below);
    }
