use Rattle.std.proofs.Common.{◌≡◌, ◌++◌, map, drop, length}
use Rattle.game_jobs.specs.Instance.{tree_of}
use Rattle.frame_state.specs.Contents.{thought_for}
use Rattle.frame_parts.proofs.Fitting.{FitSoFar}
use Rattle.frame_state.proofs.gathered.memories_of.Given as goal

abbrev pub invariant-thoughts : goal.invariant-thoughts
invariant-thoughts l = record {
  rest : l.memories.items ++ map (λ p. (thought_for p).memory) (drop l.thought-index l.thoughts) ≡ map (λ p. (thought_for p).memory) l.thoughts;
  count : length l.memories.items ≡ l.thought-index;
  fit : FitSoFar (λ p. tree_of p.game p.number) l.thoughts l.memories.items l.thought-index;
}
