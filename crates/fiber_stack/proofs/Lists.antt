-- How many values chunks have.
use Rattle.std.proofs.Common.{◌≡◌, ℕ, ◌+◌, ◌*◌, ◌%◌, List, [], ◌∷◌, length, arith, refl, length-drop}
use Rattle.fiber_stack.specs.Chunks.{all_values, values}
use Rattle.fiber_stack.specs.declared.eight.Eight.{Eight}

length-all : {F : Type 0} (cs : List (Eight F)) → length (all_values cs) ≡ 8 * length cs
length-all [] = refl
length-all (c ∷ cs) = omega (arith, length-all cs)

pub long_as : {F : Type 0} (depth free : ℕ) (cs : List (Eight F)) → depth + free ≡ 8 * length cs → depth ≡ length (values free cs)
long_as depth free cs all = omega (arith, all, length-drop free (all_values cs), length-all cs)

-- where no place is free, their number is a multiple of eight
pub no_room : {F : Type 0} (depth free : ℕ) (cs : List (Eight F)) → depth + free ≡ 8 * length cs → free ≡ 0 → depth % 8 ≡ 0
no_room depth free cs all none = omega (arith, all, none)
