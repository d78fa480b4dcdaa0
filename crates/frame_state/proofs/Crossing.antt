-- Which parameters, results and tasks of frames cross threads: one lemma a type, so that no search opens the types below.
use denote.Ref.{NamedLft}
use denote.Param.Send.{IsSend, IsSync, sendable}
use Rattle.std.proofs.Crossing.{crosses}
use Rattle.bt_nodes.proofs.node.Node.TheLaws.TheKnot.{both_send-Node, both_sync-Node, send-Node, sync-Node}
use Rattle.grid_world.proofs.world.World.TheSendSync.{the_send as world_send, the_sync as world_sync}
use Rattle.grid_world.proofs.cell.Answer.TheSendSync.{the_send as answer_send, the_sync as answer_sync}
use Rattle.grid_world.proofs.cell.Intent.TheSendSync.{the_send as intent_send, the_sync as intent_sync}
use Rattle.grid_world.proofs.place.Place.TheSendSync.{the_send as place_send, the_sync as place_sync}
use Rattle.grid_world.proofs.signal.Signals.TheSendSync.{the_send as signals_send, the_sync as signals_sync}
use Rattle.game_session.proofs.script.Script.TheSendSync.{the_send as script_send, the_sync as script_sync}
use Rattle.bt_tick.proofs.memory.Memory.TheSendSync.{the_send as memory_send, the_sync as memory_sync}
use Rattle.frame_state.proofs.kept_memory.KeptMemory.TheSendSync.{the_send as kept_send, the_sync as kept_sync}
use Rattle.frame_parts.proofs.distance_field.DistanceField.TheSendSync.{the_send as kept_distances_send, the_sync as kept_distances_sync}
use Rattle.frame_parts.proofs.distance_cache.DistanceCache.TheSendSync.{the_send as known_send, the_sync as known_sync}
use Rattle.game_session.specs.contracts.session.Session as Session
use Rattle.frame_state.specs.contracts.frame_start.FrameStart as FrameStart
use Rattle.frame_state.specs.contracts.gathering.Gathering as Gathering
use Rattle.frame_state.specs.contracts.next_frame.NextFrame as NextFrame
use Rattle.frame_state.specs.contracts.way.Way as Way
use Rattle.frame_state.specs.contracts.thought.Thought as Thought
use Rattle.frame_state.specs.contracts.turn.Turn as Turn
use Rattle.frame_state.specs.contracts.band_out.BandOut as BandOut
use Rattle.frame_state.specs.contracts.band_mark.BandMark as BandMark
use Rattle.frame_state.specs.contracts.draw_task.DrawTask as DrawTask
use Rattle.frame_state.specs.contracts.logic_task.Spread as Spread
use Rattle.frame_state.specs.contracts.logic_task.LogicTask as LogicTask
use Rattle.frame_state.specs.contracts.params.FrameParams as FrameParams
use Rattle.frame_state.specs.contracts.slots.Slots as Slots

ruleset of_parts = (world_send, world_sync, answer_send, answer_sync, intent_send, intent_sync, place_send, place_sync, signals_send, signals_sync, script_send, script_sync, memory_send, memory_sync, kept_send, kept_sync, kept_distances_send, kept_distances_sync, known_send, known_sync)

ruleset of_knots = (both_send-Node, both_sync-Node, send-Node, sync-Node)

pub session : IsSync Session.the_row
session = search (of_parts, of_knots, sendable, crosses) depth 40

-- ---- what tasks and results share

pub frame_start_send : (κ : NamedLft) → IsSend (FrameStart.the_row κ)
frame_start_send κ = search (session, of_parts, sendable, crosses) depth 40

pub frame_start_sync : (κ : NamedLft) → IsSync (FrameStart.the_row κ)
frame_start_sync κ = search (session, of_parts, sendable, crosses) depth 40

pub params : (κ : NamedLft) → IsSend (FrameParams.the_row κ)
params κ = search (frame_start_send, frame_start_sync, of_parts, sendable, crosses) depth 40

pub slots : (κ : NamedLft) → IsSend (Slots.the_row κ)
slots κ = search (params, sendable, crosses) depth 40

-- ---- results

pub way : (κ : NamedLft) → IsSend (Way.the_row κ)
way κ = search (session, of_parts, sendable, crosses) depth 40

pub thought : (κ : NamedLft) → IsSend (Thought.the_row κ)
thought κ = search (session, of_parts, sendable, crosses) depth 40

pub gathering : (κ : NamedLft) → IsSend (Gathering.the_row κ)
gathering κ = search (thought, of_parts, sendable, crosses) depth 40

-- as a field of another type
pub gathering_field : (κ : NamedLft) → IsSend (Gathering.the_field κ).row
gathering_field κ = search (thought, of_parts, sendable, crosses) depth 60 fits 20000

pub next_frame : (κ : NamedLft) → IsSend (NextFrame.the_row κ)
next_frame κ = search (params, gathering, gathering_field, sendable, crosses) depth 40

pub turn : (κ : NamedLft) → IsSend (Turn.the_row κ)
turn κ = search (session, next_frame, of_parts, sendable, crosses) depth 40

pub band_out : (κ : NamedLft) → IsSend (BandOut.the_row κ)
band_out κ = search (session, of_parts, sendable, crosses) depth 40

pub band_mark : (κ : NamedLft) → IsSend (BandMark.the_row κ)
band_mark κ = search (session, of_parts, sendable, crosses) depth 40

-- ---- tasks

pub draw_task : (κ : NamedLft) → IsSend (DrawTask.the_row κ)
draw_task κ = search (session, of_parts, sendable, crosses) depth 40

spread : (κ : NamedLft) → IsSend (Spread.the_row κ)
spread κ = search (frame_start_send, frame_start_sync, gathering, gathering_field, sendable, crosses) depth 40

pub logic_task : (κ : NamedLft) → IsSend (LogicTask.the_row κ)
logic_task κ = search (session, spread, sendable, crosses) depth 40
