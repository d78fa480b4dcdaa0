-- What the viewer has written, by its words.
use Rattle.std.proofs.Common.{◌≡◌, ℕ, List, Option}
use Rattle.std.specs.Prelude.{⊤, Result, Ok, Err, OnOk, OnErr}
use Rattle.clap.specs.Words.{Text}
use Rattle.trace_text.specs.declared.span.FrameSpan.{FrameSpan}
use Rattle.command_line.specs.declared.program_fault.Fault.{Fault}
use Rattle.command_line.specs.Faults.{status_in}
use Rattle.command_line.proofs.Statuses.{ok_at_zero}
use Rattle.view_commands.specs.declared.request.ViewWords.{ViewWords}
use Rattle.view_commands.specs.declared.request.ViewWords.TheVariants.{Trace, Page}
use Rattle.view_commands.specs.Doing.{IsDone, IsPartDone, TracesSome, TracesSomePart}
use Rattle.view_commands.specs.Paging.{PagesSome, PagesSomePart}
use Rattle.view_commands.specs.Program.{AsksForPage, AsksToTrace, IsReading}
use Rattle.view_commands.proofs.Asked.{read_as_page, read_as_trace}
use Rattle.view_commands.proofs.Paged.{pages_some_part}
use Rattle.view_commands.proofs.Traced.{traces_some_part}

done_in_part : (old new : Option (List ℕ)) (v : ViewWords) → IsDone old new v → IsPartDone old new v
done_in_part old new (Trace log frames) h = traces_some_part old new frames h
done_in_part old new (Page level log script live frames) h = pages_some_part old new frames h

-- done or not, it is a part
part_of : (r : Result (⊤) Fault) (old new : Option (List ℕ)) (v : ViewWords) → OnOk r (IsDone old new v) → OnErr r (IsPartDone old new v)
    → IsPartDone old new v
part_of (Ok x) old new v done part = done_in_part old new v done
part_of (Err f) old new v done part = part

-- by the words, and the status where all is done
module _ (old new : Option (List ℕ)) (words : List Text) (v : ViewWords) (r : Result (⊤) Fault) (frames : FrameSpan) (reading : IsReading words v) where
  pub traced : (n : ℕ) → AsksToTrace words frames → n ≡ 0 → n ≡ status_in r → OnOk r (IsDone old new v) → TracesSome old new frames
  traced n asks zero is done =
      read_as_trace words v frames (IsDone old new) (TracesSome old new) reading asks (λ log span h. h) (ok_at_zero r n _ is zero done)

  pub traced_in_part : AsksToTrace words frames → OnOk r (IsDone old new v) → OnErr r (IsPartDone old new v) → TracesSomePart old new frames
  traced_in_part asks done part =
      read_as_trace words v frames (IsPartDone old new) (TracesSomePart old new) reading asks (λ log span h. h) (part_of r old new v done part)

  pub paged : (n : ℕ) → AsksForPage words frames → n ≡ 0 → n ≡ status_in r → OnOk r (IsDone old new v) → PagesSome old new frames
  paged n asks zero is done =
      read_as_page words v frames (IsDone old new) (PagesSome old new) reading asks (λ level log script live span h. h) (ok_at_zero r n _ is zero done)

  pub paged_in_part : AsksForPage words frames → OnOk r (IsDone old new v) → OnErr r (IsPartDone old new v) → PagesSomePart old new frames
  paged_in_part asks done part =
      read_as_page words v frames (IsPartDone old new) (PagesSomePart old new) reading asks (λ level log script live span h. h) (part_of r old new v done part)
