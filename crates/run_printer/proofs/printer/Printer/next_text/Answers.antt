use Rattle.std.proofs.Common.{◌≡◌, ℕ, ◌+◌, ◌<◌, Some, length, map, subst, sym, ap, ◌∙◌, arith}
use Rattle.grid_world.specs.Map.{count_up}
use Rattle.game_rules.specs.Text.{frame_text}
use Rattle.frame_state.specs.Contents.{band_in, bands_in}
use Rattle.run_printer.specs.Tables.{AreFirstBands}
use Rattle.run_printer.proofs.Drawn.{same_game, written_is}
use Rattle.run_printer.proofs.printer.Printer.next_text.Goals as goal

pub show-requires-clause-drawn : goal.show-requires-clause-drawn
show-requires-clause-drawn g c = λ game own.
    let next = c.gather.new.self.next in
    let many : length next.items ≡ bands_in c.args.session.now = omega (arith, next.ok.0, c.in_ok-gather.ensures.all, c.bands_of.ensures) in (
      subst (λ (k : ℕ). AreFirstBands game k next.items) c.requires.frame (c.in_ok-gather.ensures.first game own),
      many ∙ ap bands_in (same_game c.args.session.now game (sym c.requires.run ∙ own)),
    )

pub returns-in-Ok-clause-text : goal.returns-in-Ok-clause-text
returns-in-Ok-clause-text g c =
    let game = c.args.session.now in
    let frame = c.args.frame in
    let turn = c.into_turn-turn.result in
    let next = c.gather.new.self.next in
    let own : turn.game ≡ game = ap (λ t. t.game) c.into_turn-turn.ensures ∙ same_game c.in_ok-show.field-0.game game (sym c.in_ok-show.ensures.game ∙ c.requires.run) in
    let number : turn.frame ≡ frame = ap (λ t. t.frame) c.into_turn-turn.ensures ∙ c.in_ok-show.ensures.next ∙ sym c.requires.frame in
    let later : 0 < turn.frame = omega (arith, number, c.requires.frame) in
    let many : length next.items ≡ bands_in game = omega (arith, next.ok.0, c.in_ok-gather.ensures.all, c.bands_of.ensures) in
    let drawn : c.deref.result.now ≡ map (band_in game frame) (count_up 0 (bands_in turn.game)) =
    c.deref.ensures.value ∙ c.in_ok-gather.ensures.first game c.requires.run ∙ ap (λ k. map (band_in game frame) (count_up 0 k)) (many ∙ ap bands_in (sym own)) in
    written_is game turn.game turn.frame frame c.deref.result.now c.world.result.now c.statuses.result.now c.in-Ok.text.items own later (sym number) drawn c.world.ensures.value
    c.statuses.ensures.value c.in-Ok.ensures.drawn
    ∙ ap (frame_text game) number
