-- A test is true exactly where what it asks holds.
use Rattle.std.proofs.Common.{◌≡◌, ◌≤◌, ◌<◌, ◌∙◌, ℕ, Bool, true, false, refl, sym, lt_of_not-le}
use Rattle.std.specs.Prelude.{◌↔◌, IsTrue}

pub passes : (P : Type 0) → P → IsTrue true ↔ P
passes P p = (λ _. p, λ _. refl)

pub fails : (P : Type 0) → (P → ⊥) → IsTrue false ↔ P
fails P never = (λ h. let wrong : false ≡ true = h in cc, λ p. absurd (never p))

-- where it is false
pub is_not : (b : Bool) (P : Type 0) → IsTrue b ↔ P → b ≡ false → P → ⊥
is_not b P test off p = let wrong : true ≡ false = sym (test.1 p) ∙ off in cc

pub is_above : (b : Bool) (x y : ℕ) → IsTrue b ↔ (x ≤ y) → b ≡ false → y < x
is_above b x y test off = lt_of_not-le (is_not b (x ≤ y) test off)
