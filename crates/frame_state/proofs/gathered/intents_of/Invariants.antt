use Rattle.std.proofs.Common.{◌≡◌, ◌++◌, map, drop}
use Rattle.frame_state.specs.Contents.{thought_for}
use Rattle.frame_state.proofs.gathered.intents_of.Given as goal

abbrev pub invariant-thoughts : goal.invariant-thoughts
invariant-thoughts l =
    l.intents.items ++ map (λ p. (thought_for p).intent) (drop l.thought-index l.thoughts) ≡ map (λ p. (thought_for p).intent) l.thoughts
