use Rattle.btworld_c.proofs.Intents.{first_more}
use Rattle.btworld_c.proofs.intent_reading.first_intents.Goals as goal

pub intents-preserved : goal.intents-preserved
intents-preserved c =
    first_more c.args.count c.args.intents.now c.intents.them.items c.push.new.self.items c.intents.number c.among_first.result c.in_ok-push.ensures.items c.among_first.ensures c.intents.invariant
