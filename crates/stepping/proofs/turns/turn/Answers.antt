use Rattle.std.proofs.Common.{◌≡◌, ◌<◌, ◌∙◌, ◌++◌, ◌∷◌, [], sym, ap, subst, refl, arith, replicate, false, length, List, take, ◌+◌}
use Rattle.std.proofs.lemmas.Grind.{common_steps}
use Rattle.game_rules.specs.declared.change.Change.{Change}
use Rattle.game_rules.specs.Game.{signals}
use Rattle.stepping.specs.Played.{IsTurnedBy}
use Rattle.stepping.proofs.Playing.{turned_by, turned_long, not_due, bit_kept, bit_set}
use Rattle.stepping.proofs.turns.turn.Goals as goal

pub returns-then-is_on-on-clause-signal : goal.returns-then-is_on-on-clause-signal
returns-then-is_on-on-clause-signal c =
    let long = turned_long c.args.frame c.args.changes.now.items c.args.now.now c.requires.now in
    let inside : c.args.signal < length c.args.now.now = omega (arith, long, c.requires.small) in
    bit_kept c.args.now.now c.args.signal c.args.on inside (grind (arith, common_steps))

pub returns-clause-now : goal.returns-clause-now
returns-clause-now c =
    let change : Change = record { frame = c.args.frame; signal = c.args.signal; on = c.args.on } in
    let is = turned_by c.args.frame c.args.changes.now.items c.args.now.now c.requires.now change c.requires.some refl in
    subst (λ (cs : List Change). IsTurnedBy c.args.frame cs c.set.new.self) (sym c.in_ok-push.ensures.items)
    (subst (λ on. IsTurnedBy c.args.frame (c.args.changes.now.items ++ change ∷ []) on) (sym c.set.ensures) is)

pub returns-clause-signal : goal.returns-clause-signal
returns-clause-signal c =
    let long = turned_long c.args.frame c.args.changes.now.items c.args.now.now c.requires.now in
    let inside : c.args.signal < length c.args.now.now = omega (arith, long, c.requires.small) in
    subst (λ l. take (c.args.signal + 1) l ≡ take c.args.signal c.args.now.now ++ c.args.on ∷ []) (sym c.set.ensures)
    (bit_set c.args.now.now c.args.signal c.args.on inside)

pub returns-clause-before : goal.returns-clause-before
returns-clause-before c k h =
    let change : Change = record { frame = c.args.frame; signal = c.args.signal; on = c.args.on } in
    ap (λ (cs : List Change). signals cs k) c.in_ok-push.ensures.items ∙ not_due c.args.changes.now.items change k (replicate 26 false) h
