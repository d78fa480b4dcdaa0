-- Which frames are looked at.
use Rattle.std.specs.Prelude.{ℕ, Bool, ◌&&◌, nat_le}
use Rattle.trace_text.specs.declared.span.FrameSpan.{FrameSpan}

abbrev pub has_frame : FrameSpan → ℕ → Bool
has_frame span frame = nat_le span.first frame && nat_le frame span.last
