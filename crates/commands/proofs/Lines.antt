-- One digest more.
use Rattle.std.proofs.Common.{◌≡◌, ◌∙◌, ◌<◌, ◌≤◌, ◌+◌, ◌-◌, ◌++◌, ℕ, List, ap, arith}
use Rattle.std.specs.List.{flat_map}
use Rattle.grid_world.specs.Map.{count_up}
use Rattle.draw_list.proofs.Counting.{pieces_more, pieces_end}
use Rattle.game_rules.specs.Game.{Game}
use Rattle.stepping.specs.Digest.{digest_of}
use Rattle.stepping.specs.Played.{Played, state_of}
use Rattle.commands.specs.Opening.{IsSteppedTo}
use Rattle.commands.specs.Texts.{state_after, digest_line, digest_lines}
use Rattle.commands.proofs.Stepped.{state_is}

abbrev line_of : Game → ℕ → List ℕ
line_of g f = digest_line f (digest_of (state_after g f))

module _ (g : Game) (frames : ℕ) where
  pub lines_begun : (text : List ℕ) (n : ℕ) → n ≡ 0 → text ++ flat_map (line_of g) (count_up (n + 1) (frames + 1 - (n + 1))) ≡ text ++ digest_lines g frames
  lines_begun text n e =
      let first : n + 1 ≡ 1 = omega (arith, e) in
      let many : frames + 1 - (n + 1) ≡ frames = omega (arith, e) in
      ap (λ k. text ++ flat_map (line_of g) (count_up k (frames + 1 - (n + 1)))) first ∙ ap (λ k. text ++ flat_map (line_of g) (count_up 1 k)) many

  pub lines_more : (n : ℕ) (q : Played) (digest : ℕ) (done after whole : List ℕ) → n < frames → q.frame ≡ n + 1 → IsSteppedTo g (n + 1) q → digest ≡ digest_of (state_of q)
      → after ≡ done ++ digest_line q.frame digest
      → done ++ flat_map (line_of g) (count_up (n + 1) (frames + 1 - (n + 1))) ≡ whole
      → after ++ flat_map (line_of g) (count_up (q.frame + 1) (frames + 1 - (q.frame + 1))) ≡ whole
  lines_more n q digest done after whole less frame stepped is written so_far =
      let same : digest ≡ digest_of (state_after g (n + 1)) = is ∙ ap digest_of (state_is g q n stepped) in
      let line : after ≡ done ++ line_of g (n + 1) = written ∙ ap (λ d. done ++ digest_line q.frame d) same ∙ ap (λ k. done ++ digest_line k (digest_of (state_after g (n + 1)))) frame in
      let inside : n + 1 < frames + 1 = omega (arith, less) in
      ap (λ k. after ++ flat_map (line_of g) (count_up (k + 1) (frames + 1 - (k + 1)))) frame
      ∙ pieces_more (line_of g) done after whole (n + 1) (frames + 1) inside line so_far

  pub lines_ended : (n : ℕ) (text whole : List ℕ) → frames ≤ n → text ++ flat_map (line_of g) (count_up (n + 1) (frames + 1 - (n + 1))) ≡ whole → text ≡ whole
  lines_ended n text whole le so_far =
      let over : frames + 1 ≤ n + 1 = omega (arith, le) in
      pieces_end (line_of g) text whole (n + 1) (frames + 1) over so_far
