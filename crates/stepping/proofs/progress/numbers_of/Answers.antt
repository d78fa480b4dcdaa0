use Rattle.std.proofs.Common.{◌∙◌, ◌<◌, ◌++◌, ◌∷◌, [], ℕ, List, length, take, ap, sym, arith}
use Rattle.std.proofs.lemmas.List.{take_more}
use Rattle.std.proofs.lemmas.Option.{get_or_from_slice_get}
use Rattle.stepping.proofs.progress.numbers_of.Goals as goal

pub nodes-preserved : goal.nodes-preserved
nodes-preserved c =
    let m = c.args.memory.now in
    let i = c.nodes.node in
    let h : i < length m = let t = c.nodes-test.true in let r = c.requires in omega (arith, t, r) in
    c.in_ok-push-in-Some.ensures.items ∙ ap (λ (l : List ℕ). l ++ c.in-Some.number ∷ []) c.nodes.invariant
    ∙ ap (λ (n : ℕ). take i m ++ n ∷ []) (sym (get_or_from_slice_get m i c.in-Some.number 0 (sym c.in-Some.ensures)))
    ∙ sym (take_more m i 0 h)
