use Rattle.std.proofs.Common.{◌≡◌, ◌<◌, ◌++◌, OnOk, ℕ, ◌+◌, ◌-◌, ◌*◌, ◌≤◌, length}
use Rattle.byte_streams.specs.Hex.{hex, hex_digit}
use Rattle.byte_streams.proofs.numbers.+push_digits.Given as goal

-- proposed from what the function passes where it calls itself
abbrev pub decreases-push_digits : goal.decreases-push_digits
decreases-push_digits l = l.digits
