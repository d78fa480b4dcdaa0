use Rattle.std.proofs.Common.{rules}
use Rattle.game_session.proofs.Rising.{kept_push}
use Rattle.game_session.proofs.script.Script.push.Goals as goal

pub invariant_of-self-2 : goal.invariant_of-self-2
invariant_of-self-2 c =
    kept_push c.self.inside.changes.items _ c.self.inside.after.items _ c.args.change c.last_signals-signals.result c.self.invariant
    (rw c.self.view_is c.requires) (rw c.self.view_is c.last_signals-signals.ensures) (search rules) (search rules)
