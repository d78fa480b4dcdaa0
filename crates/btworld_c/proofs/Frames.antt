-- Frames in a row, and one more.
use Rattle.std.proofs.Common.{ℕ, ◌+◌, ◌<◌, List, [], ◌∷◌, ◌++◌, length, take, get_or, refl, sym, subst}
use Rattle.std.proofs.lemmas.List.{take_more}
use Rattle.stepping.specs.Played.{Played, bits, IsStepped}
use Rattle.btworld_c.specs.Frames.{AreSteps}

pub steps_more : (masks : List ℕ) (mask : ℕ) (before last after : Played) → AreSteps masks before last → IsStepped (bits 26 mask) last after
    → AreSteps (masks ++ mask ∷ []) before after
steps_more [] mask before last after are is = (after, subst (λ (p : Played). IsStepped (bits 26 mask) p after) are is, refl)
steps_more (m ∷ masks) mask before last after are is = (are.0, are.1, steps_more masks mask are.0 last after are.2 is)

pub steps_taken : (masks : List ℕ) (i : ℕ) (before last after : Played) → i < length masks → AreSteps (take i masks) before last
    → IsStepped (bits 26 (get_or masks i 0)) last after → AreSteps (take (i + 1) masks) before after
steps_taken masks i before last after inside are is =
    subst (λ (l : List ℕ). AreSteps l before after) (sym (take_more masks i 0 inside)) (steps_more (take i masks) (get_or masks i 0) before last after are is)
