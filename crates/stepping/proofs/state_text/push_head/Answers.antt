use Rattle.std.proofs.Common.{codes, decimal}
use Rattle.byte_streams.specs.Hex.{hex}
use Rattle.byte_streams.proofs.Joined.{parts_joined}
use Rattle.stepping.proofs.state_text.push_head.Goals as goal

pub returns : goal.returns
returns c =
    parts_joined c.extend_from_slice.result c.args.text.now.items (codes "btworld state 1 level ") (hex 16 c.args.digest) (codes " frame ") (decimal c.args.frame) (codes "\n")
    c.push_hex.new.text.items c.push_number.new.text.items c.extend_from_slice.new.self.items c.in_ok-push_hex.ensures c.in_ok-push_number.ensures c.extend_from_slice.ensures.items
