-- A text that grows by what each element of a list is written as.
use Rattle.std.proofs.Common.{◌≡◌, ◌<◌, ℕ, ◌+◌, List, ◌++◌, length, get_or, drop, sym, ap, ◌∙◌, append_assoc}
use Rattle.std.specs.List.{flat_map}
use Rattle.std.proofs.lemmas.List.{drop_more}

pub written_more : {X : Type 0} (of : X → List ℕ) (xs : List X) (i : ℕ) (done after whole : List ℕ) (d x : X) → i < length xs → get_or xs i d ≡ x → after ≡ done ++ of x
    → done ++ flat_map of (drop i xs) ≡ whole → after ++ flat_map of (drop (i + 1) xs) ≡ whole
written_more of xs i done after whole d x lt is e w =
    let rest : List ℕ = flat_map of (drop (i + 1) xs) in
    ap (λ l. l ++ rest) (e ∙ ap (λ y. done ++ of y) (sym is))
    ∙ append_assoc done (of (get_or xs i d)) rest
    ∙ ap (λ l. done ++ flat_map of l) (sym (drop_more xs i d lt))
    ∙ w
