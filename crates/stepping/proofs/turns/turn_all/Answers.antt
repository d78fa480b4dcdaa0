use Rattle.std.proofs.Common.{◌≡◌, ◌∙◌, ◌+◌, ◌++◌, ◌∷◌, [], ℕ, sym, subst, arith, take, length}
use Rattle.grid_world.specs.Open.{is_on}
use Rattle.stepping.specs.Played.{IsTurnedBy}
use Rattle.stepping.proofs.Playing.{turned_long, wanted_more, all_wanted}
use Rattle.stepping.proofs.turns.turn_all.Goals as goal

pub signals-preserved : goal.signals-preserved
signals-preserved c =
    let on = c.is_on.result in
    let s = c.in-Some.ensures.some in
    let h = c.signals-test.true in
    let many : length c.args.wanted ≡ 26 = search in
    record {
      turned = c.in_ok-turn.ensures.now;
      same = wanted_more c.signals.now c.turn.new.now c.args.wanted c.signals.number on (omega (arith, h, many))
          (subst (λ (i : ℕ). is_on c.args.wanted i ≡ on) s (sym c.is_on.ensures))
          (subst (λ i. take (i + 1) c.turn.new.now ≡ take i c.signals.now ++ on ∷ []) s c.in_ok-turn.ensures.signal)
          c.signals.invariant.same;
      earlier = λ k l. c.in_ok-turn.ensures.before k l ∙ c.signals.invariant.earlier k l;
    }

pub returns-clause-now : goal.returns-clause-now
returns-clause-now c =
    let h = c.signals-test.false in
    let n = turned_long c.args.frame c.signals.changes.items c.signals.now c.signals.invariant.turned in
    let many : length c.args.wanted ≡ 26 = search in
    subst (IsTurnedBy c.args.frame c.signals.changes.items)
    (all_wanted c.signals.now c.args.wanted c.signals.number (omega (arith, h, n)) (omega (arith, h, many)) c.signals.invariant.same) c.signals.invariant.turned
