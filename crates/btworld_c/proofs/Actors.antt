-- The nodes of a tree that act, from its root and those below it.
use Rattle.std.proofs.Common.{◌≡◌, ◌∙◌, ◌++◌, ◌∷◌, [], Bool, List, sym, ap, refl, arith, length, length-append, append_assoc}
use Rattle.std.specs.Prelude.{None, Some}
use Rattle.bt_nodes.specs.Plain.{Plain, Composite, Star, Par, Not, Tries, Ticks, Wait, Move, Does, Forest, none, tree}
use Rattle.bt_nodes.specs.Heads.{listed, decorated}
use Rattle.bt_nodes.specs.Sizes.{size, sizes}
use Rattle.btworld_c.specs.Intents.{acts, actors, actors_in}

actors-decorated : (p c : Plain) → Some c ≡ decorated p → actors p ≡ acts p ∷ actors c
actors-decorated (Not d) c e = let s : d ≡ c = cc in ap (λ c. acts (Not d) ∷ actors c) s
actors-decorated (Tries k d) c e = let s : d ≡ c = cc in ap (λ c. acts (Tries k d) ∷ actors c) s
actors-decorated (Ticks k d) c e = let s : d ≡ c = cc in ap (λ c. acts (Ticks k d) ∷ actors c) s
actors-decorated _ c e = absurd (cc)

actors-listed : (p : Plain) → None ≡ decorated p → actors p ≡ acts p ∷ actors_in (listed p)
actors-listed (Composite kind children) e = refl
actors-listed (Star kind children) e = refl
actors-listed (Par m children) e = refl
actors-listed (Wait k) e = refl
actors-listed (Move q) e = refl
actors-listed (Does leaf) e = refl
actors-listed _ e = absurd (cc)

module _ (p : Plain) (them one all : List Bool) (root : one ≡ them ++ acts p ∷ []) where
  pub decorated_met : (c : Plain) → Some c ≡ decorated p → all ≡ one ++ actors c → all ≡ them ++ actors p
  decorated_met c e rest =
      rest ∙ ap (λ l. l ++ actors c) root ∙ append_assoc them (acts p ∷ []) (actors c) ∙ ap (λ l. them ++ l) (sym (actors-decorated p c e))

  pub listed_met : (cs : Forest) → None ≡ decorated p → cs ≡ listed p → all ≡ one ++ actors_in cs → all ≡ them ++ actors p
  listed_met cs e same rest =
      rest ∙ ap (λ f. one ++ actors_in f) same ∙ ap (λ l. l ++ actors_in (listed p)) root ∙ append_assoc them (acts p ∷ []) (actors_in (listed p))
      ∙ ap (λ l. them ++ l) (sym (actors-listed p e))

-- one tree of a forest more
pub tree_met : (p : Plain) (rest forest : Forest) (them more whole : List Bool) → forest ≡ tree p rest → more ≡ them ++ actors p
    → them ++ actors_in forest ≡ whole → more ++ actors_in rest ≡ whole
tree_met p rest forest them more whole begins one all =
    ap (λ l. l ++ actors_in rest) one ∙ append_assoc them (actors p) (actors_in rest) ∙ ap (λ f. them ++ actors_in f) (sym begins) ∙ all

-- one for each node
mutual
  pub length-actors : (p : Plain) → length (actors p) ≡ size p
  length-actors (Composite kind children) = let h = length-actors_in children in omega (arith, h)
  length-actors (Star kind children) = let h = length-actors_in children in omega (arith, h)
  length-actors (Par m children) = let h = length-actors_in children in omega (arith, h)
  length-actors (Not child) = let h = length-actors child in omega (arith, h)
  length-actors (Tries k child) = let h = length-actors child in omega (arith, h)
  length-actors (Ticks k child) = let h = length-actors child in omega (arith, h)
  length-actors (Wait k) = omega arith
  length-actors (Move p) = omega arith
  length-actors (Does leaf) = omega arith

  length-actors_in : (f : Forest) → length (actors_in f) ≡ sizes f
  length-actors_in none = omega arith
  length-actors_in (tree p ps) =
      let h = length-actors p in let more = length-actors_in ps in omega (arith, h, more, length-append (actors p) (actors_in ps))
