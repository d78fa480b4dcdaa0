-- First parts of a text that was written.
use Rattle.std.proofs.Common.{ℕ, List, Option, sym, take, drop, take-append-drop}
use Rattle.std.specs.Io.KnownBytes.{Appends}
use Rattle.byte_streams.specs.Streams.{AppendsPart}

-- so many bytes of a text
pub first_bytes : (old new : Option (List ℕ)) (bytes : List ℕ) (n : ℕ) → Appends old new (take n bytes) → AppendsPart old new bytes
first_bytes old new bytes n h = (take n bytes, drop n bytes, sym (take-append-drop n bytes), h)
