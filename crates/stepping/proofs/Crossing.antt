-- A game may be handed to another thread.
use denote.Param.Send.{IsSend, IsSync, sendable}
use Rattle.std.proofs.Crossing.{crosses}
use Rattle.bt_nodes.proofs.node.Node.TheLaws.TheKnot.{both_send-Node, both_sync-Node, send-Node, sync-Node}
use Rattle.grid_world.proofs.world.World.TheSendSync.{the_send as world_send, the_sync as world_sync}
use Rattle.grid_world.proofs.signal.Signals.TheSendSync.{the_send as signals_send, the_sync as signals_sync}
use Rattle.game_session.proofs.script.Script.TheSendSync.{the_send as script_send, the_sync as script_sync}
use Rattle.bt_tick.proofs.memory.Memory.TheSendSync.{the_send as memory_send, the_sync as memory_sync}
use Rattle.frame_parts.proofs.distance_cache.DistanceCache.TheSendSync.{the_send as known_send, the_sync as known_sync}
use Rattle.game_session.specs.contracts.level.Level as Level
use Rattle.stepping.specs.contracts.played.Stepping as Stepping

ruleset of_parts = (world_send, world_sync, signals_send, signals_sync, script_send, script_sync, memory_send, memory_sync, known_send, known_sync)

ruleset of_knots = (both_send-Node, both_sync-Node, send-Node, sync-Node)

level_send : IsSend Level.the_row
level_send = search (of_parts, of_knots, sendable, crosses) depth 40

level_sync : IsSync Level.the_row
level_sync = search (of_parts, of_knots, sendable, crosses) depth 40

pub game_send : IsSend Stepping.the_row
game_send = search (level_send, level_sync, of_parts, sendable, crosses) depth 60 fits 20000
