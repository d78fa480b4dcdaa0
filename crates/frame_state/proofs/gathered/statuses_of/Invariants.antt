use Rattle.std.proofs.Common.{◌≡◌, ◌++◌, map, drop}
use Rattle.frame_state.specs.Contents.{thought_for}
use Rattle.frame_state.proofs.gathered.statuses_of.Given as goal

abbrev pub invariant-thoughts : goal.invariant-thoughts
invariant-thoughts l =
    l.statuses.items ++ map (λ p. (thought_for p).status) (drop l.thought-index l.thoughts) ≡ map (λ p. (thought_for p).status) l.thoughts
