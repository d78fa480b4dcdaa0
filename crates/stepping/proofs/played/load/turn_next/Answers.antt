use Rattle.std.proofs.Common.{◌≡◌, ◌+◌, ℕ, subst, arith}
use Rattle.std.proofs.lemmas.Grind.{common_steps}
use Rattle.stepping.specs.Played.{IsTurnedBy}
use Rattle.stepping.proofs.Playing.{turned_on}
use Rattle.stepping.proofs.played.load.turn_next.Goals as goal

pub returns-then-are_same_signals-clause-next : goal.returns-then-are_same_signals-clause-next
returns-then-are_same_signals-clause-next c =
    subst (IsTurnedBy (c.args.frame + 1) c.args.changes.now.items) (c.are_same_signals.ensures.same c.if-are_same_signals.true)
    (turned_on c.args.frame c.args.changes.now.items c.args.shown c.requires)

pub turn_all-requires-clause-now : goal.turn_all-requires-clause-now
turn_all-requires-clause-now c =
    let following : c.args.frame + 1 ≡ c.in-Some.following = grind (arith, common_steps) in
    subst (λ (k : ℕ). IsTurnedBy k c.args.changes.now.items c.args.shown) following (turned_on c.args.frame c.args.changes.now.items c.args.shown c.requires)
