-- What a walk over a tree answers, from what it answers below the root: at a decorator's one child, or at the children
-- that a root lists, which are none at a leaf.
use Rattle.std.proofs.Common.{◌≡◌, Bool, true, false, ◌&&◌, suc, ◌∷◌, None, Some, refl, ap}
use Rattle.bt_nodes.specs.Plain.{Plain, Composite, Star, Par, Not, Tries, Ticks}
use Rattle.bt_nodes.specs.Sizes.{size, sizes, subtree_sizes, subtree_sizes_all, depth, deepest}
use Rattle.bt_nodes.specs.Heads.{listed, decorated}
use Rattle.bt_nodes.specs.Limits.{keeps_alone, keeps, all_keep}
use Rattle.bt_nodes.specs.declared.limits.Limit.{Limit}

pub size-listed : (p : Plain) → None ≡ decorated p → size p ≡ suc (sizes (listed p))
size-listed (Not c) e = absurd (cc)
size-listed (Tries n c) e = absurd (cc)
size-listed (Ticks n c) e = absurd (cc)
size-listed _ e = refl

pub size-decorated : (p c : Plain) → Some c ≡ decorated p → size p ≡ suc (size c)
size-decorated (Not d) c e = let s : d ≡ c = cc in ap (λ c. suc (size c)) s
size-decorated (Tries n d) c e = let s : d ≡ c = cc in ap (λ c. suc (size c)) s
size-decorated (Ticks n d) c e = let s : d ≡ c = cc in ap (λ c. suc (size c)) s
size-decorated _ c e = absurd (cc)

pub subtree_sizes-listed : (p : Plain) → None ≡ decorated p → subtree_sizes p ≡ size p ∷ subtree_sizes_all (listed p)
subtree_sizes-listed (Not c) e = absurd (cc)
subtree_sizes-listed (Tries n c) e = absurd (cc)
subtree_sizes-listed (Ticks n c) e = absurd (cc)
subtree_sizes-listed _ e = refl

pub subtree_sizes-decorated : (p c : Plain) → Some c ≡ decorated p → subtree_sizes p ≡ size p ∷ subtree_sizes c
subtree_sizes-decorated (Not d) c e = let s : d ≡ c = cc in ap (λ c. suc (size d) ∷ subtree_sizes c) s
subtree_sizes-decorated (Tries n d) c e = let s : d ≡ c = cc in ap (λ c. suc (size d) ∷ subtree_sizes c) s
subtree_sizes-decorated (Ticks n d) c e = let s : d ≡ c = cc in ap (λ c. suc (size d) ∷ subtree_sizes c) s
subtree_sizes-decorated _ c e = absurd (cc)

pub depth-listed : (p : Plain) → None ≡ decorated p → depth p ≡ suc (deepest (listed p))
depth-listed (Not c) e = absurd (cc)
depth-listed (Tries n c) e = absurd (cc)
depth-listed (Ticks n c) e = absurd (cc)
depth-listed _ e = refl

pub depth-decorated : (p c : Plain) → Some c ≡ decorated p → depth p ≡ suc (depth c)
depth-decorated (Not d) c e = let s : d ≡ c = cc in ap (λ c. suc (depth c)) s
depth-decorated (Tries n d) c e = let s : d ≡ c = cc in ap (λ c. suc (depth c)) s
depth-decorated (Ticks n d) c e = let s : d ≡ c = cc in ap (λ c. suc (depth c)) s
depth-decorated _ c e = absurd (cc)

and_true : (b : Bool) → b ≡ (b && true)
and_true true = refl
and_true false = refl

module _ (limit : Limit) where
  pub keeps-listed : (p : Plain) → None ≡ decorated p → keeps limit p ≡ (keeps_alone limit p && all_keep limit (listed p))
  keeps-listed (Composite kind cs) e = refl
  keeps-listed (Star kind cs) e = refl
  keeps-listed (Par m cs) e = refl
  keeps-listed (Not c) e = absurd (cc)
  keeps-listed (Tries n c) e = absurd (cc)
  keeps-listed (Ticks n c) e = absurd (cc)
  keeps-listed leaf e = and_true (keeps_alone limit leaf)

  pub keeps-decorated : (p c : Plain) → Some c ≡ decorated p → keeps limit p ≡ (keeps_alone limit p && keeps limit c)
  keeps-decorated (Not d) c e = let s : d ≡ c = cc in ap (λ c. keeps_alone limit (Not d) && keeps limit c) s
  keeps-decorated (Tries n d) c e = let s : d ≡ c = cc in ap (λ c. keeps_alone limit (Tries n d) && keeps limit c) s
  keeps-decorated (Ticks n d) c e = let s : d ≡ c = cc in ap (λ c. keeps_alone limit (Ticks n d) && keeps limit c) s
  keeps-decorated _ c e = absurd (cc)
