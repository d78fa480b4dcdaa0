-- The film of a game: it grows frame by frame, and unrolls to the game's text.
use Rattle.std.proofs.Common.{◌≡◌, ◌≢◌, ◌≤◌, ◌+◌, ◌*◌, ◌∙◌, ◌⊎◌, ℕ, zero, suc, List, [], ◌∷◌, ◌++◌, length, inl, inr, refl, sym, ap, ap₂, subst, arith, append_assoc, append-nil}
use Rattle.std.specs.List.{All}
use Rattle.std.proofs.Math.Nat.{mul-le-mul}
use Rattle.std.proofs.lemmas.List.{length-append}
use Rattle.std.proofs.lemmas.List.Elements.{All-nil, All-cons, All-append}
use Rattle.grid_world.specs.Rows.{lines}
use Rattle.grid_world.specs.World.{IsSized}
use Rattle.grid_world.proofs.Lined.{length-lines}
use Rattle.game_rules.specs.Game.{Game}
use Rattle.game_rules.specs.Text.{texts}
use Rattle.page_text.specs.Films.{Frame, HasNoMark, IsFrameOf, IsWithoutMark, film_after, film_of, frames_in, kept_frame}
use Rattle.page_text.proofs.Unrolled.{back, feeds_length}
use Rattle.page_text.proofs.NoMark.{no_mark}
use Rattle.page_text.specs.Frames.{IsPlayable, frame_at, frames_to, last_rows, rows_at, size_of, texts_from, told}
use Rattle.page_text.proofs.Lines.{lines_are, lines_unmarked}
use Rattle.page_text.proofs.Rows.{feeds_for, length-rows, rows_fed, rows_unmarked}

-- ---- one frame more

film_more : (old : List ℕ) (frames : List Frame) (frame : Frame)
    → film_after old (frames ++ frame ∷ []) ≡ film_after old frames ++ kept_frame (last_rows old frames) frame
film_more old [] frame = append-nil (kept_frame old frame)
film_more old (first ∷ frames) frame =
    ap (λ l. kept_frame old first ++ l) (film_more first.rows frames frame)
    ∙ sym (append_assoc (kept_frame old first) (film_after first.rows frames) (kept_frame (last_rows first.rows frames) frame))

last_more : (old : List ℕ) (frames : List Frame) (frame : Frame) → last_rows old (frames ++ frame ∷ []) ≡ frame.rows
last_more old [] frame = refl
last_more old (first ∷ frames) frame = last_more first.rows frames frame

pub films_grow : (g : Game) (n : ℕ) (text rows longer : List ℕ) → text ≡ film_of (frames_to g n) → rows ≡ last_rows [] (frames_to g n)
    → longer ≡ text ++ kept_frame rows (frame_at g (suc n)) → longer ≡ film_of (frames_to g (suc n))
films_grow g n text rows longer film last more =
    more ∙ ap₂ (λ t r. t ++ kept_frame r (frame_at g (suc n))) film last ∙ sym (film_more [] (frames_to g n) (frame_at g (suc n)))

pub rows_now : (g : Game) (n : ℕ) → last_rows [] (frames_to g (suc n)) ≡ rows_at g (suc n)
rows_now g n = last_more [] (frames_to g n) (frame_at g (suc n))

-- the rows that are at hand are as long as those of the next frame
pub rows_fit : (g : Game) (n : ℕ) (rows : List ℕ) → rows ≡ last_rows [] (frames_to g n) → (rows ≡ []) ⊎ (length rows ≡ size_of g)
rows_fit g zero rows e = inl e
rows_fit g (suc n) rows e = inr (ap length (e ∙ rows_now g n) ∙ length-rows g (suc n))

-- ---- all frames are of one map

frame_is : (g : Game) (f : ℕ) → IsPlayable g → IsFrameOf (feeds_for g) (length g.trees) (frame_at g (suc f))
frame_is g f can = record { rows = rows_fed g (suc f) can; lines = lines_are g f can }

frame_unmarked : (g : Game) (f : ℕ) → IsPlayable g → IsWithoutMark (frame_at g (suc f))
frame_unmarked g f can = record { rows = rows_unmarked g (suc f) can; lines = lines_unmarked g f }

frames_are : (g : Game) (n : ℕ) → IsPlayable g → All (IsFrameOf (feeds_for g) (length g.trees)) (frames_to g n)
frames_are g zero can = All-nil (IsFrameOf (feeds_for g) (length g.trees))
frames_are g (suc n) can =
    All-append (IsFrameOf (feeds_for g) (length g.trees)) (frames_to g n) (frame_at g (suc n) ∷ []) (frames_are g n can)
    (All-cons (IsFrameOf (feeds_for g) (length g.trees)) (frame_at g (suc n)) [] (frame_is g n can) (All-nil (IsFrameOf (feeds_for g) (length g.trees))))

frames_unmarked : (g : Game) (n : ℕ) → IsPlayable g → All IsWithoutMark (frames_to g n)
frames_unmarked g zero can = All-nil IsWithoutMark
frames_unmarked g (suc n) can =
    All-append IsWithoutMark (frames_to g n) (frame_at g (suc n) ∷ []) (frames_unmarked g n can)
    (All-cons IsWithoutMark (frame_at g (suc n)) [] (frame_unmarked g n can) (All-nil IsWithoutMark))

-- ---- the size of their rows

feeds_size : (g : Game) → length (feeds_for g) ≡ size_of g
feeds_size g = feeds_length (lines g.world [] 0 g.world.height) ∙ length-lines g.world [] 0 g.world.height

pub product : (h w : ℕ) → h ≤ 128 → w ≤ 128 → h * (w + 1) ≤ 16512
product h w high wide = let more : w + 1 ≤ 129 = omega (arith, wide) in mul-le-mul high more

pub few_bytes : (g : Game) → IsSized g.world → size_of g ≤ 16512
few_bytes g sized = product g.world.height g.world.width sized.most_rows sized.most_columns

some_bytes : (h w : ℕ) → 1 ≤ h → 1 ≤ h * (w + 1)
some_bytes zero w some = absurd (omega (arith, some))
some_bytes (suc h) w some = omega arith

no_feeds : (g : Game) → IsPlayable g → feeds_for g ≢ []
no_feeds g can none = omega (arith, some_bytes g.world.height g.world.width can.sized.some_rows, feeds_size g, ap length none)

-- ---- the laws

count : (g : Game) (n : ℕ) → length (frames_to g n) ≡ n
count g zero = refl
count g (suc n) = length-append (frames_to g n) (frame_at g (suc n) ∷ []) ∙ ap (λ k. k + 1) (count g n) ∙ omega arith

texts_more : (f : ℕ) (frames : List Frame) (frame : Frame) → texts_from f (frames ++ frame ∷ []) ≡ texts_from f frames ++ told (f + length frames) frame
texts_more f [] frame = let e : f ≡ f + 0 = omega arith in append-nil (told f frame) ∙ ap (λ k. told k frame) e
texts_more f (first ∷ frames) frame =
    let e : suc f + length frames ≡ f + suc (length frames) = omega arith in
    ap (λ l. told f first ++ l) (texts_more (suc f) frames frame ∙ ap (λ k. texts_from (suc f) frames ++ told k frame) e)
    ∙ sym (append_assoc (told f first) (texts_from (suc f) frames) (told (f + suc (length frames)) frame))

frames_tell : (g : Game) (n : ℕ) → texts_from 1 (frames_to g n) ≡ texts g n
frames_tell g zero = refl
frames_tell g (suc n) =
    let e : 1 + length (frames_to g n) ≡ suc n = omega (arith, count g n) in
    texts_more 1 (frames_to g n) (frame_at g (suc n))
    ∙ ap₂ (λ l k. l ++ told k (frame_at g (suc n))) (frames_tell g n) e

pub unrolls : (g : Game) (n : ℕ) → IsPlayable g
    → texts_from 1 (frames_in (size_of g) (length g.trees) n (film_of (frames_to g n))) ≡ texts g n
unrolls g n can =
    let few : length (feeds_for g) ≤ 16512 = subst (λ k. k ≤ 16512) (sym (feeds_size g)) (few_bytes g can.sized) in
    ap₂ (λ size k. texts_from 1 (frames_in size (length g.trees) k (film_of (frames_to g n)))) (sym (feeds_size g)) (sym (count g n))
    ∙ ap (texts_from 1) (back (feeds_for g) (length g.trees) (frames_to g n) (no_feeds g can) few (frames_are g n can))
    ∙ frames_tell g n

pub unmarked_film : (g : Game) (n : ℕ) → IsPlayable g → HasNoMark (film_of (frames_to g n))
unmarked_film g n can =
    no_mark (feeds_for g) (length g.trees) (frames_to g n) (subst (λ k. k ≤ 16512) (sym (feeds_size g)) (few_bytes g can.sized))
    (frames_are g n can) (frames_unmarked g n can)
