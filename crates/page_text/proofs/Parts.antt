-- The rows and the lines of a frame's text.
use Rattle.std.proofs.Common.{◌≡◌, ◌<◌, ◌≤◌, ◌+◌, ◌*◌, ◌∙◌, ◌⊎◌, inl, inr, ℕ, zero, suc, List, [], ◌++◌, length, take, drop, sym, ap, ap₂, arith, append_assoc, codes, decimal}
use Rattle.std.proofs.Math.Nat.{mul_comm}
use Rattle.std.proofs.lemmas.List.{length-append, take_at, drop_at}
use Rattle.grid_world.specs.Grid.{Grid}
use Rattle.game_rules.specs.Game.{Game}
use Rattle.game_rules.specs.Text.{frame_text}
use Rattle.frame_state.specs.Contents.{world_after}
use Rattle.game_rules.proofs.Ground.{play_ground}
use Rattle.page_text.specs.Frames.{lines_at, rows_at, size_of}
use Rattle.page_text.proofs.Rows.{length-rows}

abbrev head_line : ℕ → List ℕ
head_line f = codes "frame " ++ decimal f ++ codes "\n"

-- the head line, the rows and the lines
in_parts : (g : Game) (f : ℕ) → 0 < f → frame_text g f ≡ head_line f ++ (rows_at g f ++ lines_at g f)
in_parts g zero later = absurd (omega (arith, later))
in_parts g (suc f) later = append_assoc (head_line (suc f)) (rows_at g (suc f)) (lines_at g (suc f))

length_head : (f : ℕ) → length (head_line f) ≡ 7 + length (decimal f)
length_head f = let e = length-append (decimal f) (codes "\n") in omega (arith, e)

-- the size of the rows of a world of the game
pub size_is : (g : Game) (f : ℕ) (world : Grid) → world ≡ world_after g f → (world.width + 1) * world.height ≡ size_of g
unfolding world_after
size_is g f world is =
    ap (λ (w : Grid). (w.width + 1) * w.height) is ∙ ap₂ (λ w h. (w + 1) * h) (play_ground g f).width (play_ground g f).height
    ∙ mul_comm (g.world.width + 1) g.world.height

module _ (g : Game) (f : ℕ) (later : 0 < f) (text : List ℕ) (is : text ≡ frame_text g f) (head size : ℕ) (front : head ≡ 7 + length (decimal f)) (rows : size ≡ size_of g) where
  whole : text ≡ head_line f ++ (rows_at g f ++ lines_at g f)
  whole = is ∙ in_parts g f later

  pub behind : drop head text ≡ rows_at g f ++ lines_at g f
  behind = ap (drop head) whole ∙ drop_at (head_line f) (rows_at g f ++ lines_at g f) head (sym (front ∙ sym (length_head f)))

  pub rows_are : take size (drop head text) ≡ rows_at g f
  rows_are = ap (take size) behind ∙ take_at (rows_at g f) (lines_at g f) size (sym (rows ∙ sym (length-rows g f)))

  pub lines_are : drop size (drop head text) ≡ lines_at g f
  lines_are = ap (drop size) behind ∙ drop_at (rows_at g f) (lines_at g f) size (sym (rows ∙ sym (length-rows g f)))

  pub inside : head + size ≤ length text
  inside =
      let all = ap length whole ∙ length-append (head_line f) (rows_at g f ++ lines_at g f) in
      omega (arith, all, front, rows, length_head f, length-append (rows_at g f) (lines_at g f), length-rows g f)

-- rows are as long as those at hand
pub same_size : (g : Game) (f : ℕ) (before rows : List ℕ) → (before ≡ []) ⊎ (length before ≡ size_of g) → rows ≡ rows_at g f
    → (before ≡ []) ⊎ (length before ≡ length rows)
same_size g f before rows (inl none) is = inl none
same_size g f before rows (inr same) is = inr (same ∙ sym (length-rows g f) ∙ sym (ap length is))
