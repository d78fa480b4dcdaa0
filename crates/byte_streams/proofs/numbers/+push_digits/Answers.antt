use Rattle.std.proofs.Common.{arith}
use Rattle.byte_streams.proofs.Digits.{none_pushed, one_pushed}
use Rattle.byte_streams.proofs.numbers.+push_digits.Goals as goal

pub returns-then-digits-eq0 : goal.returns-then-digits-eq0
returns-then-digits-eq0 t c = none_pushed c.args.text.now.items c.args.digits c.args.number (omega (arith, c.if-digits-eq0.true))

pub returns : goal.returns
returns t c =
    one_pushed c.args.text.now.items c.push_digits.new.text.items c.push.new.self.items c.args.digits c.args.number c.hex_digit.result
    (omega (arith, c.if-digits-eq0.false)) (c.in_ok-push_digits.ensures) c.hex_digit.ensures c.in_ok-push.ensures.items
