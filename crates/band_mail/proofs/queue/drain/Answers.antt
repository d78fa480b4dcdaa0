use Rattle.std.proofs.Common.{ap, ◌≡◌, ◌++◌, List, [], ◌∷◌, length, arith, subst, ◌∙◌, length-append}
use Rattle.std.proofs.lemmas.List.{append-nil}
use Rattle.crossbeam_queue.specs.Passes.{view}
use Rattle.band_mail.specs.declared.relay.PassLog.{PassLog}
use Rattle.band_mail.proofs.Relays.{gets, merges, totals}
use Rattle.band_mail.proofs.queue.drain.Goals as goal

pub absorb-requires-clause-rule : goal.absorb-requires-clause-rule
absorb-requires-clause-rule g c = merges _ _ _ _ c.requires.may.0 c.requires.may.1

pub len_as-count-requires-clause-rule : goal.len_as-count-requires-clause-rule
len_as-count-requires-clause-rule g c = totals _ _ (ap (λ (v : PassLog _). v.puts) c.absorb.ensures.rule) (ap (λ (v : PassLog _). v.takes) c.absorb.ensures.rule)

pub pop_as-requires-clause-rule : goal.pop_as-requires-clause-rule
pop_as-requires-clause-rule g c =
    let is = c.loop-i.invariant.3.1 in
    (gets _ _ (ap (λ (v : PassLog _). v.takes) is), totals _ _ (ap (λ (v : PassLog _). v.puts) is) (ap (λ (v : PassLog _). v.takes) is))

pub learn_as-requires-clause-rule : goal.learn_as-requires-clause-rule
learn_as-requires-clause-rule g c =
    let is = c.loop-i.invariant.3.1 in
    totals _ _ (ap (λ (v : PassLog _). v.puts) is) (ap (λ (v : PassLog _). v.takes) is)

nothing_left : {T : Type 0} (put taken rest items : List T) → put ≡ (taken ++ rest) ++ items → length items ≡ 0 → put ≡ taken ++ rest
nothing_left put taken rest [] e none = e ∙ append-nil (taken ++ rest)
nothing_left put taken rest (x ∷ items) e none = absurd (omega arith)

pub returns-in-None-clause-left : goal.returns-in-None-clause-left
returns-in-None-clause-left g c =
    let inv = c.loop-i.invariant.3 in
    let held = c.in-None.ensures.rule.1 in
    (inv.0, inv.3, nothing_left _ _ inv.0 held.0 (subst (λ (v : PassLog _). v.put ≡ v.taken ++ held.0) inv.1 held.2) held.1)

pub returns-clause-left : goal.returns-clause-left
returns-clause-left g c =
    let inv = c.loop-i.invariant.3 in
    let first = c.len_as-count.ensures.rule.1 in
    let last = c.learn_as.ensures.rule in
    let put = (view c.args.puts).put in
    let taken = (view c.args.pass.now).taken in
    let all : put ≡ taken ++ first.0 = subst (λ (v : PassLog _). v.put ≡ v.taken ++ first.0) c.absorb.ensures.rule first.2 in
    let now : put ≡ (taken ++ inv.0) ++ last.0 = subst (λ (v : PassLog _). v.put ≡ v.taken ++ last.0) inv.1 last.1 in
    let none : length last.0 ≡ 0 =
    omega (arith, ap length all, length-append taken first.0, ap length now, length-append (taken ++ inv.0) last.0, length-append taken inv.0, first.1, inv.2, c.loop-i-test.false, c.loop-i.auto) in
    (inv.0, inv.3, nothing_left _ _ inv.0 last.0 now none)
