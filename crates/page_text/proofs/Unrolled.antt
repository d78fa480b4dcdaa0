-- A film is read as its frames.
use Rattle.std.proofs.Common.{◌≡◌, ◌≢◌, ◌<◌, ◌≤◌, ◌^◌, ◌+◌, ◌∙◌, ◌==◌, ℕ, suc, Bool, true, false, if◌then◌else◌, List, [], ◌∷◌, ◌++◌, length, take, drop, None, refl, sym, ap, subst, arith, append_assoc, eqb-true}
use Rattle.std.specs.List.{All}
use Rattle.std.proofs.lemmas.Bool.{true≢false, eq-eqb}
use Rattle.std.proofs.lemmas.List.{take_at, drop_at}
use Rattle.std.proofs.lemmas.List.Elements.{All-nil, All-cons}
use Rattle.page_text.specs.declared.byte_change.ByteChange.{ByteChange}
use Rattle.page_text.specs.Changes.{changed, changes_from, changes_text}
use Rattle.page_text.specs.Films.{Frame, IsFrameOf, as_frame, feeds_of, film_after, film_of, frames_after, frames_in, kept_rows, lines_of}
use Rattle.page_text.specs.Reading.{read, IsReadable}
use Rattle.page_text.proofs.Given.{given}
use Rattle.page_text.proofs.ReadBack.{read_back}

-- ---- line feeds

pub feeds_length : (text : List ℕ) → length (feeds_of text) ≡ length text
feeds_length [] = refl
feeds_length (c ∷ text) = ap suc (feeds_length text)

abbrev first_feed : List Bool → Bool
first_feed [] = false
first_feed (b ∷ feeds) = b

abbrev more_feeds : List Bool → List Bool
more_feeds [] = []
more_feeds (b ∷ feeds) = feeds

-- a byte that changed is no line feed
no_feed : (o n : ℕ) → (n == o) ≡ false → (o == 10) ≡ (n == 10) → n ≢ 10
no_feed o n other feeds e = true≢false (sym (eq-eqb n o (e ∙ sym (eqb-true o 10 (feeds ∙ eq-eqb n 10 e)))) ∙ other)

by_same : (at o n : ℕ) (same : Bool) (changes : List ByteChange) → (n == o) ≡ same → (o == 10) ≡ (n == 10) → at < 2 ^ 64 → All IsReadable changes
    → All IsReadable (if same then changes else record { place = at; glyph = n } ∷ changes)
by_same at o n true changes e feeds small all = all
by_same at o n false changes e feeds small all = All-cons IsReadable (record { place = at; glyph = n }) changes (no_feed o n e feeds, small) all

readable : (at : ℕ) (old new : List ℕ) → feeds_of old ≡ feeds_of new → at + length old ≤ 16512 → All IsReadable (changes_from at old new)
readable at [] new feeds few = All-nil IsReadable
readable at (o ∷ old) [] feeds few = All-nil IsReadable
readable at (o ∷ old) (n ∷ new) feeds few =
    by_same at o n (n == o) (changes_from (suc at) old new) refl (ap first_feed feeds) (omega (arith, few))
    (readable (suc at) old new (ap more_feeds feeds) (omega (arith, few)))

-- ---- further frames

abbrev lines_read : (agents n : ℕ) (rows : List ℕ) → List ℕ × List ℕ → List Frame
lines_read agents n rows parts = as_frame rows parts.0 ∷ frames_after agents n rows parts.1

abbrev rows_read : (agents n : ℕ) (old : List ℕ) → List ByteChange × List ℕ → List Frame
rows_read agents n old parts = lines_read agents n (changed old parts.0) (lines_of agents parts.1)

kept_read : (c : ℕ) (old new rest : List ℕ) → feeds_of (c ∷ old) ≡ feeds_of new → length (c ∷ old) ≤ 16512
    → read None (kept_rows (c ∷ old) new ++ rest) ≡ (changes_from 0 (c ∷ old) new, rest)
kept_read c old new rest feeds few =
    ap (read None) (append_assoc (changes_text (changes_from 0 (c ∷ old) new)) (10 ∷ []) rest)
    ∙ read_back (changes_from 0 (c ∷ old) new) rest (readable 0 (c ∷ old) new feeds (omega (arith, few)))

frame_read : (feeds : List Bool) (agents n c : ℕ) (old rest : List ℕ) (frame : Frame) → feeds_of (c ∷ old) ≡ feeds → length (c ∷ old) ≤ 16512
    → IsFrameOf feeds agents frame
    → rows_read agents n (c ∷ old) (read None ((kept_rows (c ∷ old) frame.rows ++ frame.lines) ++ rest)) ≡ frame ∷ frames_after agents n frame.rows rest
frame_read feeds agents n c old rest frame before few is =
    let same : feeds_of (c ∷ old) ≡ feeds_of frame.rows = before ∙ sym is.rows in
    let long : length (c ∷ old) ≡ length frame.rows = sym (feeds_length (c ∷ old)) ∙ ap length same ∙ feeds_length frame.rows in
    ap (λ text. rows_read agents n (c ∷ old) (read None text)) (append_assoc (kept_rows (c ∷ old) frame.rows) frame.lines rest)
    ∙ ap (rows_read agents n (c ∷ old)) (kept_read c old frame.rows (frame.lines ++ rest) same few)
    ∙ ap (λ rows. lines_read agents n rows (lines_of agents (frame.lines ++ rest))) (given [] (c ∷ old) frame.rows 0 refl long)
    ∙ ap (lines_read agents n frame.rows) (is.lines rest)

pub after : (feeds : List Bool) (agents : ℕ) (old : List ℕ) (frames : List Frame) → feeds ≢ [] → length feeds ≤ 16512 → feeds_of old ≡ feeds
    → All (IsFrameOf feeds agents) frames → frames_after agents (length frames) old (film_after old frames) ≡ frames
after feeds agents old [] some few before are = refl
after feeds agents [] (frame ∷ frames) some few before are = absurd (some (sym before))
after feeds agents (c ∷ old) (frame ∷ frames) some few before are =
    let is = are 0 frame (omega arith) in
    let long : length (c ∷ old) ≤ 16512 = subst (λ n. n ≤ 16512) (sym (ap length before) ∙ feeds_length (c ∷ old)) few in
    frame_read feeds agents (length frames) c old (film_after frame.rows frames) frame before long is
    ∙ ap (λ more. frame ∷ more) (after feeds agents frame.rows frames some few is.rows (λ k d l. are (suc k) d (omega (arith, l))))

-- ---- all frames

abbrev first_read : (agents n : ℕ) → List ℕ → List ℕ → List Frame
first_read agents n rows text = lines_read agents n rows (lines_of agents text)

pub back : (feeds : List Bool) (agents : ℕ) (frames : List Frame) → feeds ≢ [] → length feeds ≤ 16512 → All (IsFrameOf feeds agents) frames
    → frames_in (length feeds) agents (length frames) (film_of frames) ≡ frames
back feeds agents [] some few are = refl
back feeds agents (frame ∷ frames) some few are =
    let is = are 0 frame (omega arith) in
    let size : length feeds ≡ length frame.rows = ap length (sym is.rows) ∙ feeds_length frame.rows in
    let rest = film_after frame.rows frames in
    let text = (frame.rows ++ frame.lines) ++ rest in
    let parts = append_assoc frame.rows frame.lines rest in
    ap (λ rows. first_read agents (length frames) rows (drop (length feeds) text)) (ap (take (length feeds)) parts ∙ take_at frame.rows (frame.lines ++ rest) (length feeds) (sym size))
    ∙ ap (first_read agents (length frames) frame.rows) (ap (drop (length feeds)) parts ∙ drop_at frame.rows (frame.lines ++ rest) (length feeds) (sym size))
    ∙ ap (lines_read agents (length frames) frame.rows) (is.lines rest)
    ∙ ap (λ more. frame ∷ more) (after feeds agents frame.rows frames some few is.rows (λ k d l. are (suc k) d (omega (arith, l))))
