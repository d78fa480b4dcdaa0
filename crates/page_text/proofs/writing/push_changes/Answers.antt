use Rattle.std.proofs.Common.{◌+◌, ◌≤◌, arith, length}
use Rattle.page_text.proofs.Pieces.{further, is_equal, passed}
use Rattle.page_text.proofs.writing.push_changes.Goals as goal

pub pieces-preserved-in_ok-push_piece : goal.pieces-preserved-in_ok-push_piece
pieces-preserved-in_ok-push_piece c =
    let within : c.pieces.place + c.min.result ≤ length c.args.new.now = omega (arith, c.min.ensures, c.pieces-test.true, c.pieces.invariant.1) in (
      further c.args.old.now c.args.new.now c.pieces.place c.min.result c.requires.same within c.pieces.text.items _ c.pieces.invariant.0
          c.push_piece.new.text.items c.in_ok-push_piece.ensures,
      within,
    )

pub pieces-preserved : goal.pieces-preserved
pieces-preserved c =
    let within : c.pieces.place + c.min.result ≤ length c.args.new.now = omega (arith, c.min.ensures, c.pieces-test.true, c.pieces.invariant.1) in (
      passed c.args.old.now c.args.new.now c.pieces.place c.min.result c.requires.same within c.pieces.text.items _ c.pieces.invariant.0
          (is_equal _ c.if-ne.ensures),
      within,
    )
