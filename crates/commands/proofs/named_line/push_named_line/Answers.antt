use Rattle.std.proofs.Common.{codes}
use Rattle.byte_streams.specs.Hex.{hex}
use Rattle.byte_streams.proofs.Joined.{parts_joined}
use Rattle.commands.proofs.named_line.push_named_line.Goals as goal

pub returns : goal.returns
returns c =
    parts_joined c.extend_from_slice.result c.args.text.now.items c.args.words.now (hex 16 c.args.level) (codes " script ") (hex 16 c.args.script) (codes "\n")
    c.push_hex.new.text.items c.push_hex-2.new.text.items c.extend_from_slice.new.self.items c.in_ok-push_hex.ensures c.in_ok-push_hex-2.ensures c.extend_from_slice.ensures.items
