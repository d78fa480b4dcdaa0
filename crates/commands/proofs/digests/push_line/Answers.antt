use Rattle.std.proofs.Common.{codes, decimal}
use Rattle.byte_streams.specs.Hex.{hex}
use Rattle.byte_streams.proofs.Joined.{parts_joined}
use Rattle.commands.proofs.digests.push_line.Goals as goal

pub returns : goal.returns
returns c =
    parts_joined c.extend_from_slice.result c.args.text.now.items (codes "") (decimal c.args.frame) (codes " ") (hex 16 c.args.digest) (codes "\n")
    c.push_number.new.text.items c.push_hex.new.text.items c.extend_from_slice.new.self.items c.in_ok-push_number.ensures c.in_ok-push_hex.ensures c.extend_from_slice.ensures.items
