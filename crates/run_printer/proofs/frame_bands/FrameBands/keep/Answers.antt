use Rattle.std.proofs.Common.{rules, ◌≤◌, length, vec_len, arith, Some}
use Rattle.run_printer.proofs.Places.{filled_is, filled_numbered, unwritten_is}
use Rattle.run_printer.proofs.frame_bands.FrameBands.keep.Goals.{in-Some+in-Some-1, in-Some+in-None-1, in_default}
use Rattle.run_printer.proofs.frame_bands.FrameBands.keep.Goals as goal

pub invariant_of-self : goal.invariant_of-self
invariant_of-self g c =
    let filled = filled_numbered (λ kept. kept.band.number) c.self.inside.places.items c.number-number.result c.args.band c.number-number.ensures c.self.invariant in
    elim c.match-get_mut.branch [
      | in-Some+in-Some-1 w ↦ rw w.self-inside-is filled
      | in-Some+in-None-1 w ↦ rw w.self-inside-is filled
      | in_default w ↦ rw w.self-inside-is c.self.invariant
    ]

pub returns : goal.returns
returns g c =
    let band = c.args.band.band in
    let places = c.self.inside.places in
    let n = c.number-number.result in
    let filled = filled_is (λ kept. kept.band.frame) places.items n band.number c.args.band c.args.self.now c.self.view_is c.number-number.ensures in
    elim c.match-get_mut.branch [
      | in-Some+in-Some-1 w ↦ rw w.self-inside-is filled
      | in-Some+in-None-1 w ↦ rw w.self-inside-is filled
      | in_default w ↦
          let none : vec_len places ≤ n = search rules in
          let past : length places.items ≤ n = omega (arith, none, places.ok.0) in
          rw w.self-inside-is (unwritten_is (λ kept. kept.band.frame) places.items n band.number (Some band.frame) c.args.self.now c.self.view_is c.number-number.ensures past)
    ]
