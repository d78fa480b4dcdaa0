-- Which tasks and results cross threads: one lemma a type, so that no search opens the types below.
use denote.Ref.{NamedLft}
use denote.Param.Send.{IsSend, IsSync, sendable}
use Rattle.std.proofs.Crossing.{crosses}
use Rattle.bt_nodes.proofs.node.Node.TheLaws.TheKnot.{both_send-Node, both_sync-Node, send-Node, sync-Node}
use Rattle.fiber_stack.proofs.link.Link.TheLaws.TheKnot.{send-Link, sync-Link}
use Rattle.fiber_stack.proofs.eight.Eight.TheSendSync.{the_send as eight_send, the_sync as eight_sync}
use Rattle.grid_world.proofs.cell.Answer.TheSendSync.{the_send as answer_send, the_sync as answer_sync}
use Rattle.grid_world.proofs.cell.Intent.TheSendSync.{the_send as intent_send, the_sync as intent_sync}
use Rattle.grid_world.proofs.place.Place.TheSendSync.{the_send as place_send, the_sync as place_sync}
use Rattle.bt_tick.proofs.memory.Memory.TheSendSync.{the_send as memory_send, the_sync as memory_sync}
use Rattle.frame_state.proofs.kept_memory.KeptMemory.TheSendSync.{the_send as kept_send, the_sync as kept_sync}
use Rattle.frame_parts.proofs.distance_field.DistanceField.TheSendSync.{the_send as kept_distances_send}
use Rattle.frame_state.proofs.Crossing.{session, frame_start_send, frame_start_sync, way, thought, turn, band_out, band_mark, draw_task, logic_task}
use Rattle.std.specs.contracts.alloc.Global as Global
use Rattle.std_heap.specs.contracts.GlobalAllocator.TheImpl.{ghosts}
use Rattle.bt_tick.specs.contracts.tick.Pending as Pending
use Rattle.frame_params.specs.contracts.parked.ParkedTick as ParkedTick
use Rattle.frame_params.specs.contracts.parked.Parked as Parked
use Rattle.frame_params.specs.contracts.step.Step as Step
use Rattle.frame_params.specs.contracts.board_step.BoardStep as BoardStep
use Rattle.frame_params.specs.contracts.think_task.ThinkTask as ThinkTask
use Rattle.frame_params.specs.contracts.path_task.PathTask as PathTask
use Rattle.frame_params.specs.contracts.task.Task as Task

ruleset of_parts = (answer_send, answer_sync, intent_send, intent_sync, place_send, place_sync, memory_send, memory_sync, kept_send, kept_sync)

-- those of a tick that stands at a question
ruleset of_ticks = (both_send-Node, both_sync-Node, send-Link, sync-Link, eight_send, eight_sync, send-Node, sync-Node)

-- as a field of another type
pub pending_field_send : (κ : NamedLft) → IsSend (Pending.the_field κ Global.the_row Global.the_row ghosts ghosts).row
pending_field_send κ = search (of_parts, of_ticks, sendable, crosses) depth 60 fits 100000

pub pending_field_sync : (κ : NamedLft) → IsSync (Pending.the_field κ Global.the_row Global.the_row ghosts ghosts).row
pending_field_sync κ = search (of_parts, of_ticks, sendable, crosses) depth 60 fits 100000

pub tick_send : (κ : NamedLft) → IsSend (ParkedTick.the_row κ)
tick_send κ = search (session, pending_field_send, sendable, crosses) depth 60 fits 20000

pub tick_sync : (κ : NamedLft) → IsSync (ParkedTick.the_row κ)
tick_sync κ = search (session, pending_field_sync, sendable, crosses) depth 60 fits 20000

-- ---- results

pub parked : (κ : NamedLft) → IsSend (Parked.the_row κ)
parked κ = search (tick_send, tick_sync, sendable, crosses) depth 40

pub step : (κ : NamedLft) → IsSend (Step.the_row κ)
step κ = search (way, thought, turn, band_out, parked, sendable, crosses) depth 40

-- as a field of another type
pub step_field : (κ : NamedLft) → IsSend (Step.the_field κ).row
step_field κ = search (way, thought, turn, band_out, parked, sendable, crosses) depth 60 fits 20000

pub board_step : (κ : NamedLft) → IsSend (BoardStep.the_row κ)
board_step κ = search (way, thought, turn, band_mark, parked, sendable, crosses) depth 40

-- as a field of another type
pub board_step_field : (κ : NamedLft) → IsSend (BoardStep.the_field κ).row
board_step_field κ = search (way, thought, turn, band_mark, parked, sendable, crosses) depth 60 fits 20000

-- ---- tasks

pub think_task : (κ : NamedLft) → IsSend (ThinkTask.the_row κ)
think_task κ = search (frame_start_send, frame_start_sync, of_parts, tick_send, tick_sync, sendable, crosses) depth 40

pub path_task : (κ : NamedLft) → IsSend (PathTask.the_row κ)
path_task κ = search (frame_start_send, frame_start_sync, of_parts, kept_distances_send, sendable, crosses) depth 40

pub task : (κ : NamedLft) → IsSend (Task.the_row κ)
task κ = search (logic_task, think_task, path_task, draw_task, sendable, crosses) depth 40

-- as a field of another type
pub task_field : (κ : NamedLft) → IsSend (Task.the_field κ).row
task_field κ = search (logic_task, think_task, path_task, draw_task, sendable, crosses) depth 60 fits 20000
