-- Numbers beside their bounds.
use Rattle.std.specs.Prelude.{ℕ, suc, nat_lt, if◌then◌else◌, List, [], ◌∷◌, Option, Some, None}
use Rattle.bt_nodes.specs.Plain.{Plain, Star, Tries, Ticks, Wait}
use Rattle.bt_nodes.specs.Sizes.{count}

-- the numbers that are left behind those with these bounds, where each of them is below its bound
abbrev pub behind : List ℕ → List ℕ → Option (List ℕ)
behind [] numbers = Some numbers
behind (b ∷ bs) [] = None
behind (b ∷ bs) (n ∷ numbers) = if nat_lt n b then behind bs numbers else None

-- the bound of the root's own number
abbrev pub root_bound : Plain → ℕ
root_bound (Star kind children) = count children
root_bound (Tries n child) = suc n
root_bound (Ticks n child) = suc n
root_bound (Wait n) = suc n
root_bound _ = 1
