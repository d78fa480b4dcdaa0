-- What is written of a log as a trace, whole or in part.
use Rattle.std.proofs.Common.{◌≡◌, ◌∙◌, ℕ, List, [], Option, inr, ap, sym, subst, append-nil}
use Rattle.std.specs.Prelude.{Result, Ok, Err, OnOk}
use Rattle.std.specs.Io.KnownBytes.{Appends}
use Rattle.byte_streams.specs.Streams.{AppendsPart}
use Rattle.job_core.specs.declared.names.Event.{Event}
use Rattle.trace_text.specs.declared.board.Board.{Board}
use Rattle.trace_text.specs.declared.span.FrameSpan.{FrameSpan}
use Rattle.trace_text.specs.Trace.{trace_of}
use Rattle.view_commands.specs.Doing.{IsLogOn, Traces, TracesPart, TracesSome, TracesSomePart}

pub on_ok_map : {T E : Type 0} (r : Result T E) (P Q : Type 0) → (P → Q) → OnOk r P → OnOk r Q
on_ok_map (Ok x) P Q f p = f p
on_ok_map (Err e) P Q f p = tt

-- the text of the events that a log has, which were read
module _ (frames : FrameSpan) (log : List ℕ) (board : Board) (events given : List Event) (text : List ℕ) (reading : IsLogOn log board events) (are : given ≡ events)
    (is : text ≡ trace_of board given frames) (old new : Option (List ℕ)) where
  of_log : text ≡ trace_of board events frames
  of_log = is ∙ ap (λ es. trace_of board es frames) are

  pub whole_text : Appends old new text → Traces old new frames log
  whole_text wrote = (board, events, reading, subst (Appends old new) of_log wrote)

  pub first_text : AppendsPart old new text → TracesPart old new frames log
  first_text wrote = inr (board, events, reading, subst (AppendsPart old new) of_log wrote)

-- all that is written is a part
traces_part : (old new : Option (List ℕ)) (frames : FrameSpan) (log : List ℕ) → Traces old new frames log → TracesPart old new frames log
traces_part old new frames log h = inr (h.0, h.1, h.2, (trace_of h.0 h.1 frames, [], sym (append-nil (trace_of h.0 h.1 frames)), h.3))

pub traces_some_part : (old new : Option (List ℕ)) (frames : FrameSpan) → TracesSome old new frames → TracesSomePart old new frames
traces_some_part old new frames h = inr (h.0, traces_part old new frames h.0 h.1)
