use Rattle.std.proofs.Common.{◌∙◌, sym, ap, refl}
use Rattle.level_text.specs.Scripts.{change_from, frame_of, switch_of, letter_of}
use Rattle.level_text.proofs.ThreeWords.{no_space, one_space, two_spaces, change_from-no_switch, change_from-no_letter}
use Rattle.level_text.proofs.script_file.change_of.Goals as goal

pub returns-in_err-frame : goal.returns-in_err-frame
returns-in_err-frame c = c.from_residual.ensures ∙ sym (no_space c.args.line.now c.in_err-frame.ensures.none)

pub returns-in_err-switch : goal.returns-in_err-switch
returns-in_err-switch c =
    c.from_residual-in_err-switch.ensures
    ∙ sym (one_space c.args.line.now c.in_ok-frame.frame.now c.in_ok-frame.rest.now c.in_ok-frame.ensures.parts c.in_ok-frame.ensures.first c.in_err-switch.ensures.none)

pub returns-in_err-frame_of : goal.returns-in_err-frame_of
returns-in_err-frame_of c =
    c.from_residual-in_err-frame_of.ensures
    ∙ sym (two_spaces c.args.line.now c.in_ok-frame.frame.now c.in_ok-frame.rest.now c.in_ok-switch.switch.now c.in_ok-switch.letter.now
    c.in_ok-frame.ensures.parts c.in_ok-frame.ensures.first c.in_ok-switch.ensures.parts c.in_ok-switch.ensures.first
    ∙ ap (λ frame. change_from frame (switch_of c.in_ok-switch.switch.now) (letter_of c.in_ok-switch.letter.now)) (sym c.in_err-frame_of.ensures))

pub returns-in_err-switch_of : goal.returns-in_err-switch_of
returns-in_err-switch_of c =
    c.from_residual-in_err-switch_of.ensures
    ∙ sym (two_spaces c.args.line.now c.in_ok-frame.frame.now c.in_ok-frame.rest.now c.in_ok-switch.switch.now c.in_ok-switch.letter.now
    c.in_ok-frame.ensures.parts c.in_ok-frame.ensures.first c.in_ok-switch.ensures.parts c.in_ok-switch.ensures.first
    ∙ ap (λ on. change_from (frame_of c.in_ok-frame.frame.now) on (letter_of c.in_ok-switch.letter.now)) (sym c.in_err-switch_of.ensures)
    ∙ change_from-no_switch (frame_of c.in_ok-frame.frame.now) (letter_of c.in_ok-switch.letter.now))

pub returns-in_err-letter_of : goal.returns-in_err-letter_of
returns-in_err-letter_of c =
    c.from_residual-in_err-letter_of.ensures
    ∙ sym (two_spaces c.args.line.now c.in_ok-frame.frame.now c.in_ok-frame.rest.now c.in_ok-switch.switch.now c.in_ok-switch.letter.now
    c.in_ok-frame.ensures.parts c.in_ok-frame.ensures.first c.in_ok-switch.ensures.parts c.in_ok-switch.ensures.first
    ∙ ap (change_from (frame_of c.in_ok-frame.frame.now) (switch_of c.in_ok-switch.switch.now)) (sym c.in_err-letter_of.ensures)
    ∙ change_from-no_letter (frame_of c.in_ok-frame.frame.now) (switch_of c.in_ok-switch.switch.now))

pub returns : goal.returns
returns c =
    sym (two_spaces c.args.line.now c.in_ok-frame.frame.now c.in_ok-frame.rest.now c.in_ok-switch.switch.now c.in_ok-switch.letter.now
    c.in_ok-frame.ensures.parts c.in_ok-frame.ensures.first c.in_ok-switch.ensures.parts c.in_ok-switch.ensures.first
    ∙ rw (← c.in_ok-frame_of.ensures, ← c.in_ok-switch_of.ensures, ← c.in_ok-letter_of.ensures) refl)
