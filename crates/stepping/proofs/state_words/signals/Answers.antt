use Rattle.std.proofs.Common.{◌≡◌, ◌<◌, ◌+◌, get_or, arith}
use Rattle.std.proofs.lemmas.Grind.{common_steps}
use Rattle.stepping.proofs.ReadOn.{letter_more}
use Rattle.stepping.proofs.state_words.signals.Goals as goal

pub letters-preserved : goal.letters-preserved
letters-preserved c =
    let space : get_or c.letters.rest.now 0 0 ≡ 32 = grind (arith, common_steps) in
    let letter : get_or c.letters.rest.now 1 0 ≡ 97 + c.in-Some-new.signal = grind (arith, common_steps) in
    let small : c.in-Some-new.signal < 26 = grind (arith, common_steps) in
    letter_more c.letters.on c.set.new.self c.letters.rest.now c.in-Some-new.signal _ c.in-len2-up.len_at_least space letter small c.set.ensures c.letters.invariant
