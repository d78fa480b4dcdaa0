-- Words that are taken for one command, and the frames that they name.
use Rattle.std.proofs.Common.{◌≡◌, ◌<◌, ◌∙◌, ℕ, List, sym, ap, subst, length, codes, arith}
use Rattle.clap.specs.Words.{Row, Text, first_of}
use Rattle.command_line.specs.Program.{IsNumber}
use Rattle.command_line.proofs.Asked.{name_in, rows_in}
use Rattle.trace_text.specs.declared.span.FrameSpan.{FrameSpan}
use Rattle.view_commands.specs.declared.request.ViewWords.{ViewWords}
use Rattle.view_commands.specs.declared.request.ViewWords.TheVariants.{Trace, Page}
use Rattle.view_commands.specs.Program.{AreFrames, AsksForPage, AsksToTrace, Enters, IsReading}

one_row : (words : List Text) (name : Text) (r q : List Row) → Enters words name r → Enters words name q → r ≡ q
one_row words name r q h k = ap rows_in (sym h.2 ∙ k.2)

one_length : (words : List Text) (a b : Text) (r q : List Row) → Enters words a r → Enters words b q → length a ≡ length b
one_length words a b r q h k = ap (λ found. length (name_in found)) (sym h.2 ∙ k.2)

apart : (m n : ℕ) → m ≡ n → n < m → ⊥
apart m n e l = omega arith

one_number : (name : Text) (r q : List Row) (n m : ℕ) → r ≡ q → IsNumber (first_of name r) n → IsNumber (first_of name q) m → n ≡ m
one_number name r q n m e i j = let same = sym i.1 ∙ ap (λ rows. first_of name rows) e ∙ j.1 in cc

abbrev span_of : (first last : ℕ) → FrameSpan
span_of first last = record { first = first; last = last }

one_span : (r q : List Row) (a b : FrameSpan) → r ≡ q → AreFrames r a → AreFrames q b → a ≡ b
one_span r q a b e i j =
    let first = one_number (codes "from") r q a.first b.first e i.0 j.0 in
    let last = one_number (codes "to") r q a.last b.last e i.1 j.1 in
    ap (λ f. span_of f a.last) first ∙ ap (λ l. span_of b.first l) last

-- they are read as a Trace of these frames, and as nothing else
pub read_as_trace : (words : List Text) (v : ViewWords) (frames : FrameSpan) (P : ViewWords → Type 0) (Q : FrameSpan → Type 0) → IsReading words v
    → AsksToTrace words frames → ((log : _) (span : FrameSpan) → P (Trace log span) → Q span) → P v → Q frames
read_as_trace words (Trace log span) frames P Q reading asks step done =
    subst Q (one_span reading.0 asks.0 span frames (one_row words (codes "trace") reading.0 asks.0 reading.1 asks.1) reading.3 asks.2)
    (step log span done)
read_as_trace words (Page level log script live span) frames P Q reading asks step done =
    absurd (apart 5 4 (one_length words (codes "trace") (codes "page") asks.0 reading.0 asks.1 reading.1) (omega arith))

-- and as a Page
pub read_as_page : (words : List Text) (v : ViewWords) (frames : FrameSpan) (P : ViewWords → Type 0) (Q : FrameSpan → Type 0) → IsReading words v
    → AsksForPage words frames → ((level : _) (log : _) (script : _) (live : _) (span : FrameSpan) → P (Page level log script live span) → Q span) → P v → Q frames
read_as_page words (Trace log span) frames P Q reading asks step done =
    absurd (apart 5 4 (one_length words (codes "trace") (codes "page") reading.0 asks.0 reading.1 asks.1) (omega arith))
read_as_page words (Page level log script live span) frames P Q reading asks step done =
    subst Q (one_span reading.0 asks.0 span frames (one_row words (codes "page") reading.0 asks.0 reading.1 asks.1) reading.6 asks.2)
    (step level log script live span done)
