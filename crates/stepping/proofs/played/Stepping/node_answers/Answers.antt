use Rattle.stepping.proofs.GroundUnder.{ground_under}
use Rattle.stepping.proofs.played.Stepping.node_answers.Goals as goal

pub node_answers-requires-clause-ground : goal.node_answers-requires-clause-ground
node_answers-requires-clause-ground c =
    ground_under _ c.in_ok-known.known c.self.inside.known c.args.signals c.in_ok-known.ensures c.self.invariant.1 c.self.inside.world c.self.invariant.0.ground
