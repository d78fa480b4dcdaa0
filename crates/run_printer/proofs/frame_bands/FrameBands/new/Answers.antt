use Rattle.std.proofs.Common.{◌≡◌, ap, arith, replicate, None, ◌∙◌}
use Rattle.run_printer.proofs.Places.{each, each-none, none_numbered}
use Rattle.run_printer.proofs.frame_bands.FrameBands.new.Goals as goal

pub invariant_of-result : goal.invariant_of-result
invariant_of-result g c =
    none_numbered _ c.loop-number._number (ap (λ l. each (λ kept. kept.band.number) l) c.loop-number.invariant ∙ each-none (λ kept. kept.band.number) c.loop-number._number)

pub returns : goal.returns
returns g c =
    let all : c.loop-number._number ≡ c.args.bands = omega (arith, c.loop-number-test.false, c.loop-number.auto._number-end) in
    ap (λ l. each (λ kept. kept.band.frame) l) c.loop-number.invariant ∙ each-none (λ kept. kept.band.frame) c.loop-number._number ∙ ap (λ n. replicate n None) all
