use Rattle.std.proofs.Common.{rules, ◌≡◌, ◌<◌, ◌≤◌, refl, ap, length, option_map, Some, None, set, ◌∙◌, sym, arith, vec_len}
use Rattle.run_printer.proofs.Taking.{another_there}
use Rattle.run_printer.proofs.Places.{each, each-at, emptied_is, emptied_numbered, unwritten_is}
use Rattle.run_printer.proofs.frame_bands.FrameBands.take_band.Goals.{in_default-via-in-None-1, in_default-via-in-Some+in-None-1}
use Rattle.run_printer.proofs.frame_bands.FrameBands.take_band.Goals as goal

pub returns-in_default-clause-emptied : goal.returns-in_default-clause-emptied
returns-in_default-clause-emptied g c =
    let places = c.self.inside.places in
    let n = c.args.number in
    elim c.in_default.branch [
      | in_default-via-in-None-1 w ↦
          let none : vec_len places ≤ n = search rules in
          let past : length places.items ≤ n = omega (arith, none, places.ok.0) in
          w.self-is ∙ unwritten_is (λ kept. kept.band.frame) places.items n n None c.args.self.now c.self.view_is refl past
      | in_default-via-in-Some+in-None-1 w ↦
          w.self-is ∙ emptied_is (λ kept. kept.band.frame) places.items n w.take.new.self w.take.ensures.after ∙ ap (λ row. set row n None) c.self.view_is
    ]

pub invariant_of-self-2 : goal.invariant_of-self-2
invariant_of-self-2 g c =
    emptied_numbered (λ kept. kept.band.number) c.self.inside.places.items c.args.number c.take.new.self c.take.ensures.after c.self.invariant

pub returns-in-Some-take-clause-another : goal.returns-in-Some-take-clause-another
returns-in-Some-take-clause-another g c =
    let places = c.self.inside.places in
    let n = c.args.number in
    let some : n < vec_len places = search rules in
    let below : n < length places.items = omega (arith, some, places.ok.0) in
    let there : c.in-Some.place.now ≡ Some c.in-Some-take.band = sym c.take.ensures.value ∙ c.in-Some-take.is in
    let frame = each-at (λ kept. kept.band.frame) places.items n c.in-Some.place.now below c.in-Some.ensures.value ∙ ap (λ o. option_map (λ kept. kept.band.frame) o) there in
    let number = each-at (λ kept. kept.band.number) places.items n c.in-Some.place.now below c.in-Some.ensures.value ∙ ap (λ o. option_map (λ kept. kept.band.number) o) there in
    another_there c.held_at.result c.args.self.now (each (λ kept. kept.band.frame) places.items) (each (λ kept. kept.band.number) places.items) c.args.frame n
    c.in-Some-take.band.band.frame c.in-Some-take.band.band.number c.self.view_is c.self.invariant frame number c.held_at.ensures.another

pub returns-in-Some-take-clause-emptied : goal.returns-in-Some-take-clause-emptied
returns-in-Some-take-clause-emptied g c =
    emptied_is (λ kept. kept.band.frame) c.self.inside.places.items c.args.number c.take.new.self c.take.ensures.after ∙ ap (λ row. set row c.args.number None) c.self.view_is
