use Rattle.btworld_c.proofs.Many.{stays_held}
use Rattle.btworld_c.proofs.look_reading.look_at.Goals as goal

pub returns-clause-kept : goal.returns-clause-kept
returns-clause-kept c = stays_held c.args.games.now c.args.number c.index-games-number.result c.look.new.game c.look.ensures.kept
