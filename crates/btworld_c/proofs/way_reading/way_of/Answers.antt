use Rattle.std.proofs.Common.{◌≡◌, ◌∙◌, ℕ, false, ap, inr, subst, sym}
use Rattle.std.specs.Prelude.{is_some}
use Rattle.grid_world.specs.Grid.{Grid, place_of}
use Rattle.stepping.specs.Played.{bits, way_under}
use Rattle.btworld_c.specs.Ways.{way_told}
use Rattle.btworld_c.proofs.way_reading.way_of.Goals as goal

pub returns-in-Ok-clause-way : goal.returns-in-Ok-clause-way
returns-in-Ok-clause-way c =
    c.in-Ok.ensures ∙ ap (λ (n : ℕ). way_told (way_under c.args.held.now (bits 26 c.args.mask) c.args.agent n)) c.in-Some.ensures.some

pub returns-clause-nowhere : goal.returns-clause-nowhere
returns-clause-nowhere c = λ _.
    let there = c.in-Some.there in
    inr (subst (λ (n : ℕ). is_some (place_of c.args.held.now.position.world n) ≡ false) c.in-Some.ensures.some
    (subst (λ (w : Grid). is_some (place_of w there) ≡ false) c.world.ensures.value (sym c.has_place.ensures ∙ c.if-has_place.false)))
