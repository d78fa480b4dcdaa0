use Rattle.std.proofs.Common.{◌≡◌, vec_items}
use Rattle.std.specs.Prelude.{IsTrue}
use Rattle.std.specs.Io.KnownBytes.{Appends}
use Rattle.game_rules.specs.Text.{texts}
use Rattle.log_text.specs.Text.{events_text}
use Rattle.run_printer.specs.Journals.{AreShownIn}
use Rattle.run_printer.proofs.printer.print.Given as goal

abbrev pub invariant-loop-done : goal.invariant-loop-done
invariant-loop-done g l =
    (l.printer.inbox.taker.mail ≡ l.shared.mail) × (l.emits.parts ≡ l.initial.emits.parts) × (l.emits.amount ≡ l.done)
    × Appends (g.W.Write.contents l.initial.out) (g.W.Write.contents l.out) (texts l.session l.done)
    × Appends (g.J.Journal.contents l.initial.journal) (g.J.Journal.contents l.journal) (events_text (vec_items l.noted))
    × (g.J.Journal.is_follower l.journal ≡ g.J.Journal.is_follower l.initial.journal)
    × (IsTrue (g.J.Journal.is_follower l.initial.journal) → AreShownIn (vec_items l.noted) l.done)
