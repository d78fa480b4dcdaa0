use Rattle.std.proofs.Common.{◌≡◌, ◌++◌, drop}
use Rattle.frame_state.proofs.logic_task.shared_thoughts.Given as goal

abbrev pub invariant-thoughts : goal.invariant-thoughts
invariant-thoughts l = l.them.items ++ drop l.thought-index l.thoughts ≡ l.thoughts
