use Rattle.std.proofs.Common.{◌≡◌, ◌∙◌, [], ap, refl, sym}
use Rattle.std.proofs.lemmas.Result.{err_from_is_err_and}
use Rattle.game_rules.specs.Game.{Game}
use Rattle.game_session.specs.Levels.{value_of}
use Rattle.game_session.specs.Sessions.{game_of}
use Rattle.stepping.specs.StateReading.{told_in}
use Rattle.stepping.specs.StateText.{state_text}
use Rattle.stepping.proofs.Loaded.{not_read, not_placed, not_written, level_fails, level_reads}
use Rattle.stepping.proofs.ToldApart.{told_apart}
use Rattle.stepping.proofs.played.Stepping.load.Goals as goal

pub returns-clause-state : goal.returns-clause-state
returns-clause-state c p is level same =
    let shown : state_text c.in_ok-game.game ≡ c.args.text.now = sym c.in_ok-own.ensures.text ∙ sym c.deref.ensures.value ∙ c.if-not-are_same_bytes.ensures.same refl in
    told_apart c.in_ok-game.game p c.in_ok-own.ensures.state is level (shown ∙ sym same)

pub returns-in_err-told-clause-complete : goal.returns-in_err-told-clause-complete
returns-in_err-told-clause-complete c =
    let g : Game = game_of (value_of c.args.level) [] in
    let p = err_from_is_err_and c.from_residual.result c.from_residual.ensures.1 in
    rw (p.1, p.2) (not_read g c.args.text.now c.in_err-told.field-0.0 (level_fails g c.args.text.now c.level_digest.result c.in_err-told.field-0.0 c.level_digest.ensures c.in_err-told.ensures))

pub returns-in_err-game-clause-complete : goal.returns-in_err-game-clause-complete
returns-in_err-game-clause-complete c =
    let g : Game = game_of (value_of c.args.level) [] in
    let p = err_from_is_err_and c.from_residual-in_err-game.result c.from_residual-in_err-game.ensures.1 in
    rw (p.1, p.2) (λ other. not_placed g c.args.text.now (told_in c.in_ok-told.told) (level_reads g c.args.text.now c.level_digest.result _ c.level_digest.ensures c.in_ok-told.ensures) (c.in_err-game.ensures.refused other))

pub returns-then-not-are_same_bytes-clause-complete : goal.returns-then-not-are_same_bytes-clause-complete
returns-then-not-are_same_bytes-clause-complete c other =
    let g : Game = game_of (value_of c.args.level) [] in
    let s = c.in_ok-game.game in
    not_written g c.args.text.now (told_in c.in_ok-told.told) (level_reads g c.args.text.now c.level_digest.result _ c.level_digest.ensures c.in_ok-told.ensures)
    s c.in_ok-own.ensures.state (record { world = ap (λ (h : Game). h.world) c.in_ok-game.ensures.level; trees = ap (λ (h : Game). h.trees) c.in_ok-game.ensures.level })
    c.in_ok-game.ensures.told
    (λ same. c.if-not-are_same_bytes.ensures.differs refl (c.deref.ensures.value ∙ c.in_ok-own.ensures.text ∙ same))
