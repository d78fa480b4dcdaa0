-- Which values of a frame store cross threads: one lemma a type, so that no search opens the types below.
use denote.Ref.{NamedLft}
use denote.Param.Send.{IsSend, sendable}
use Rattle.std.proofs.Crossing.{crosses}
use Rattle.frame_state.proofs.Crossing.{session, way, thought, gathering, gathering_field, turn, band_mark, params, slots}
use Rattle.frame_params.proofs.Crossing.{parked}
use Rattle.task_board.specs.contracts.done.Done as Done
use Rattle.task_board.specs.contracts.shown.Shown as Shown
use Rattle.task_board.specs.contracts.asking.Asking as Asking
use Rattle.task_board.specs.contracts.thoughts.Thoughts as Thoughts
use Rattle.task_board.specs.contracts.retired.Retired as Retired
use Rattle.task_board.specs.contracts.frame_store.FrameStore as FrameStore

pub done : (κ : NamedLft) → IsSend (Done.the_row κ)
done κ = search (way, thought, turn, band_mark, sendable, crosses) depth 40

-- as a field of another type
pub done_field : (κ : NamedLft) → IsSend (Done.the_field κ).row
done_field κ = search (way, thought, turn, band_mark, sendable, crosses) depth 60 fits 20000

pub shown : (κ : NamedLft) → IsSend (Shown.the_row κ)
shown κ = search (turn, sendable, crosses) depth 40

pub asking : (κ : NamedLft) → IsSend (Asking.the_row κ)
asking κ = search (session, parked, way, sendable, crosses) depth 40

thoughts : (κ : NamedLft) → IsSend (Thoughts.the_row κ)
thoughts κ = search (session, thought, gathering, gathering_field, sendable, crosses) depth 40

retired : (κ : NamedLft) → IsSend (Retired.the_row κ)
retired κ = search (params, parked, sendable, crosses) depth 40

-- as a field of another type
retired_field : (κ : NamedLft) → IsSend (Retired.the_field κ).row
retired_field κ = search (params, parked, sendable, crosses) depth 60 fits 20000

pub frame_store : (κ : NamedLft) → IsSend (FrameStore.the_row κ)
frame_store κ = search (session, params, slots, asking, thoughts, turn, retired, retired_field, sendable, crosses) depth 60 fits 20000
