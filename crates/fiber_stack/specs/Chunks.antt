-- Chunks of eight values.
use Rattle.std.specs.Prelude.{ℕ, List, [], ◌∷◌, ◌++◌, drop}
use Rattle.fiber_stack.specs.declared.eight.Two.{Two}
use Rattle.fiber_stack.specs.declared.eight.Four.{Four}
use Rattle.fiber_stack.specs.declared.eight.Eight.{Eight}

abbrev pub two : {F : Type 0} → Two F → List F
two s = s.a ∷ s.b ∷ []

abbrev pub four : {F : Type 0} → Four F → List F
four s = two s.low ++ two s.high

abbrev pub eight : {F : Type 0} → Eight F → List F
eight s = four s.low ++ four s.high

-- all values of all chunks, the first chunk's first
abbrev pub all_values : {F : Type 0} → List (Eight F) → List F
all_values [] = []
all_values (c ∷ cs) = eight c ++ all_values cs

-- so many places of the first chunk are free: the first ones
abbrev pub values : {F : Type 0} → ℕ → List (Eight F) → List F
values free chunks = drop free (all_values chunks)
