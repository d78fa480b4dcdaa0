use Rattle.std.proofs.Common.{◌≡◌, ◌+◌, ◌*◌, ◌++◌, drop}
use Rattle.bt_nodes.specs.Plain.{plain, plains}
use Rattle.bt_nodes.specs.Sizes.{size, sizes}
use Rattle.btworld_c.specs.Intents.{actors_in}
use Rattle.btworld_c.proofs.intent_reading.+actors.Given as goal

abbrev pub decreases-push_actors : goal.decreases-push_actors
decreases-push_actors l = 2 * size (plain l.node.now)

abbrev pub decreases-push_all_actors : goal.decreases-push_all_actors
decreases-push_all_actors l = 2 * sizes (plains l.nodes.now) + 1

abbrev pub invariant-push_all_actors-nodes : goal.invariant-push_all_actors-nodes
invariant-push_all_actors-nodes l = l.them.items ++ actors_in (plains (drop l.node-index l.nodes)) ≡ l.initial.them.items ++ actors_in (plains l.nodes)
