use Rattle.std.proofs.Common.{◌≡◌, ◌≤◌, Some, vec_len, vec_items}
use Rattle.game_rules.specs.Game.{Game}
use Rattle.run_printer.specs.Tables.{AreFirstBands}
use Rattle.run_printer.proofs.printer.Printer.gather.Given as goal

abbrev pub invariant-loop : goal.invariant-loop
invariant-loop g l =
    (l.self.inbox.taker.mail ≡ l.shared.mail) × (vec_len l.self.next ≤ l.bands)
    × ((game : Game) → g.L.RunLedger.game ≡ Some game → AreFirstBands game l.frame (vec_items l.self.next))
