-- The bytes of a tree, from those of its root and of what stands below it.
use Rattle.std.proofs.Common.{◌≡◌, ◌++◌, ◌∙◌, ℕ, None, Some, refl, sym, ap, append-nil}
use Rattle.bt_nodes.specs.Plain.{Plain, Composite, Star, Par, Not, Tries, Ticks, Wait, Move, Does, Forest}
use Rattle.bt_nodes.specs.Heads.{listed, decorated}
use Rattle.bt_nodes.specs.Sizes.{count}
use Rattle.stepping.specs.Digest.{fnv_all}
use Rattle.stepping.specs.LevelDigest.{node_bytes, tree_bytes, forest_bytes}
use Rattle.stepping.proofs.Fnv.{part_in}

tree_bytes-decorated : (p c : Plain) → Some c ≡ decorated p → tree_bytes p ≡ node_bytes p 1 ++ tree_bytes c
tree_bytes-decorated (Not d) c e = let s : d ≡ c = cc in ap (λ c. node_bytes (Not d) 1 ++ tree_bytes c) s
tree_bytes-decorated (Tries n d) c e = let s : d ≡ c = cc in ap (λ c. node_bytes (Tries n d) 1 ++ tree_bytes c) s
tree_bytes-decorated (Ticks n d) c e = let s : d ≡ c = cc in ap (λ c. node_bytes (Ticks n d) 1 ++ tree_bytes c) s
tree_bytes-decorated _ c e = absurd (cc)

tree_bytes-listed : (p : Plain) → None ≡ decorated p → tree_bytes p ≡ node_bytes p (count (listed p)) ++ forest_bytes (listed p)
tree_bytes-listed (Composite kind children) e = refl
tree_bytes-listed (Star kind children) e = refl
tree_bytes-listed (Par m children) e = refl
tree_bytes-listed (Wait n) e = sym (append-nil (node_bytes (Wait n) 0))
tree_bytes-listed (Move q) e = sym (append-nil (node_bytes (Move q) 0))
tree_bytes-listed (Does leaf) e = sym (append-nil (node_bytes (Does leaf) 0))
tree_bytes-listed _ e = absurd (cc)

module _ (h root r : ℕ) (p : Plain) where
  pub decorated_in : (c : Plain) → Some c ≡ decorated p → root ≡ fnv_all h (node_bytes p 1) → r ≡ fnv_all root (tree_bytes c) → r ≡ fnv_all h (tree_bytes p)
  decorated_in c e begun rest = part_in h (node_bytes p 1) (tree_bytes c) root r begun rest ∙ sym (ap (fnv_all h) (tree_bytes-decorated p c e))

  pub listed_in : (cs : Forest) (n : ℕ) → None ≡ decorated p → cs ≡ listed p → n ≡ count cs → root ≡ fnv_all h (node_bytes p n) → r ≡ fnv_all root (forest_bytes cs)
      → r ≡ fnv_all h (tree_bytes p)
  listed_in cs n e same counted begun rest =
      part_in h (node_bytes p (count (listed p))) (forest_bytes (listed p)) root r
      (begun ∙ ap (λ k. fnv_all h (node_bytes p k)) (counted ∙ ap count same)) (rest ∙ ap (λ l. fnv_all root (forest_bytes l)) same)
      ∙ sym (ap (fnv_all h) (tree_bytes-listed p e))
