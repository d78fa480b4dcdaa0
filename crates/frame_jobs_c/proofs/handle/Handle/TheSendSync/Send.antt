use mir.Raw.{raw}
use base.Shift.{Keyless}
use Rattle.std.specs.Prelude.{Option, Some, None}
use denote.Memory.{lone}
use denote.RawPtr.{Ptr}
use denote.Struct.Struct.{exits_of}
use denote.Struct.Owning.{shape, fields, to}
use denote.Param.Send.{IsSend, AllSend, owning_send, struct_send, sendable}
use Rattle.std.proofs.Crossing as heap
use Rattle.std_alloc.proofs.SendSync.{quiet, lies}
use Rattle.std_heap.proofs.Global.TheSendSync as allocator
use Rattle.std.specs.declared.alloc.Global.{Global}
use Rattle.std.specs.contracts.impls.GlobalAllocator.TheImpl.{ghosts}
use Rattle.frame_jobs.specs.contracts.board.FrameJobs as board
use Rattle.frame_jobs.proofs.board.FrameJobs.TheSendSync.{the_send}
use Rattle.frame_jobs_c.specs.Held.{held}
use Rattle.frame_jobs_c.specs.contracts.handle.Handle.{the_row, the_type}

-- what it owns names no key, since a board's own parts don't
held_keyless : (a : Global) (p : Ptr) (x : Option board.the_row.Denot) → Keyless (held (ghosts.dealloc_token a) board.the_row p x)
held_keyless a p None = tt
held_keyless a p (Some x) = (lies board.the_row the_send p x, heap.frees.frees a (raw (lone board.the_row.mir)) p)

pub send : IsSend the_row
send =
    let all : AllSend (fields the_type) = (search sendable, (allocator.the_field_send, tt)) in
    owning_send the_type all (λ d. held_keyless d.alloc d.at d.value)
    (λ k. quiet (to the_type) (exits_of k (fields the_type)) ((struct_send (shape the_type) all).leaving k))
