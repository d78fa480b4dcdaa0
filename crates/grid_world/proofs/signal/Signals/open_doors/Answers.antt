use Rattle.std.proofs.Common.{map, ap, ◌∙◌, sym, ◌≡◌, ◌+◌, ◌==◌, arith, if◌then◌else◌, true, false, get_or, length}
use Rattle.grid_world.specs.Open.{is_on}
use Rattle.grid_world.specs.Rows.{opened}
use Rattle.grid_world.proofs.Lined.{opened_below, opened_below-none, opened_below-more, opened_below-off, opened_below-all, map-each, map-after, map-same}
use Rattle.grid_world.proofs.signal.Signals.open_doors.Goals as goal
use Rattle.grid_world.proofs.signal.Signals.open_doors.Goals.{then-self-number, else-self-number}

pub letters-init : goal.letters-init
letters-init c = sym (map-same (opened_below 0 c.args.self.now) (opened_below-none c.args.self.now) c.args.text.now)

pub letters-preserved : goal.letters-preserved
letters-preserved c =
    let on = c.args.self.now in
    let k = c.letters.number in
    elim c.if-self-number.branch [
      | then-self-number w ↦ let shows : is_on on k ≡ true = ap (λ l. get_or l k false) (sym c.self.view_is) ∙ w.if-self-number.true in
          w.text-is ∙ w.replace.ensures
          ∙ ap (map (λ n. if n == 97 + k then 47 else n)) c.letters.invariant
          ∙ map-after (λ n. if n == 97 + k then 47 else n) (opened_below k on) c.args.text.now
          ∙ map-each (λ n. if opened_below k on n == 97 + k then 47 else opened_below k on n) (opened_below (k + 1) on)
          (λ n. opened_below-more on k n shows) c.args.text.now
      | else-self-number w ↦ let hides : is_on on k ≡ false = ap (λ l. get_or l k false) (sym c.self.view_is) ∙ w.if-self-number.false in
          w.text-is ∙ c.letters.invariant
          ∙ map-each (opened_below k on) (opened_below (k + 1) on) (λ n. opened_below-off on k n hides) c.args.text.now
    ]

pub returns : goal.returns
returns c =
    let on = c.args.self.now in
    let full : length on ≡ 26 = ap length (sym c.self.view_is) ∙ c.self.told in
    let all : c.letters.number ≡ 26 = omega (arith, c.letters-test.false, c.letters.auto.number-end) in
    c.letters.invariant ∙ ap (λ k. map (opened_below k on) c.args.text.now) all
    ∙ map-each (opened_below 26 on) (opened on) (λ n. opened_below-all on n full) c.args.text.now
