-- How the logic stores a tree: as a list of pairs of numbers, one pair for each node and for each child, last things first.
use Rattle.std.specs.Prelude.{◌≡◌, ℕ, ◌+◌, ◌-◌, ◌==◌, unwrap_or, if◌then◌else◌, List, [], ◌∷◌, refl}
use Rattle.std.proofs.Common.{ap, ◌∙◌}
use Rattle.std.specs.Coded.{Coded, code_by, coded×, coded_ℕ, coded_list}
use Rattle.bt_nodes.specs.Heads.{leaf_code, leaf_number, leaf_by}
use Rattle.bt_nodes.specs.declared.leaf.Leaf.{Leaf}
use Rattle.bt_nodes.specs.declared.leaf.Leaf.TheVariants.{Take, Carrying}
use Rattle.bt_nodes.specs.Plain.{Kind, Seq, Fallback, Plain, Composite, Star, Par, Not, Tries, Ticks, Wait, Move, Does, Forest, none, tree}

abbrev Token : Type 0
Token = ℕ × ℕ

-- ---- written

abbrev composite_token : Kind → Token
composite_token Seq = (0, 0)
composite_token Fallback = (1, 0)

abbrev star_token : Kind → Token
star_token Seq = (2, 0)
star_token Fallback = (3, 0)

-- behind those of all other nodes and lists
abbrev leaf_token : Leaf → Token
leaf_token leaf = (20 + leaf_code leaf, unwrap_or (leaf_number leaf) 0)

-- in front of what follows
abbrev mutual
  written : Plain → List Token → List Token
  written (Composite kind cs) rest = written_all cs (composite_token kind ∷ rest)
  written (Star kind cs) rest = written_all cs (star_token kind ∷ rest)
  written (Par m cs) rest = written_all cs ((4, m) ∷ rest)
  written (Not c) rest = written c ((5, 0) ∷ rest)
  written (Tries n c) rest = written c ((6, n) ∷ rest)
  written (Ticks n c) rest = written c ((7, n) ∷ rest)
  written (Wait n) rest = (8, n) ∷ rest
  written (Move p) rest = (9, p) ∷ rest
  written (Does leaf) rest = leaf_token leaf ∷ rest

  written_all : Forest → List Token → List Token
  written_all none rest = (17, 0) ∷ rest
  written_all (tree c cs) rest = written_all cs (written c ((18, 0) ∷ rest))

-- ---- read

-- trees and lists of children that wait for their parents
record Waiting : Type 0 where
  trees : List Plain
  lists : List Forest

abbrev with_tree : Plain → Waiting → Waiting
with_tree p s = record s { trees = p ∷ s.trees }

-- a parent of the last list
abbrev over_list : (Forest → Plain) → List Forest → Waiting → Waiting
over_list parent [] s = s
over_list parent (cs ∷ more) s = record { trees = parent cs ∷ s.trees; lists = more }

-- a parent of the last tree
abbrev over_tree : (Plain → Plain) → List Plain → Waiting → Waiting
over_tree parent [] s = s
over_tree parent (p ∷ more) s = record s { trees = parent p ∷ more }

-- the last tree becomes the first child of the last list
abbrev child : List Plain → List Forest → Waiting → Waiting
child [] lists s = s
child (p ∷ trees) [] s = s
child (p ∷ trees) (cs ∷ lists) s = record { trees = trees; lists = tree p cs ∷ lists }

abbrev after_token : ℕ → ℕ → Waiting → Waiting
after_token t n s =
    if t == 0 then over_list (Composite Seq) s.lists s else (if t == 1 then over_list (Composite Fallback) s.lists s else
    (if t == 2 then over_list (Star Seq) s.lists s else (if t == 3 then over_list (Star Fallback) s.lists s else
    (if t == 4 then over_list (Par n) s.lists s else (if t == 5 then over_tree Not s.trees s else
    (if t == 6 then over_tree (Tries n) s.trees s else (if t == 7 then over_tree (Ticks n) s.trees s else
    (if t == 8 then with_tree (Wait n) s else (if t == 9 then with_tree (Move n) s else
    (if t == 17 then record s { lists = none ∷ s.lists } else (if t == 18 then child s.trees s.lists s else
    with_tree (Does (leaf_by (t - 20) n)) s)))))))))))

abbrev read : List Token → Waiting → Waiting
read [] s = s
read (t ∷ ts) s = read ts (after_token t.0 t.1 s)

abbrev first_tree : List Plain → Plain
first_tree [] = Does Carrying
first_tree (p ∷ ps) = p

-- ---- what was written is read

leaf_again : (leaf : Leaf) (rest : List Token) (s : Waiting) → read (leaf_token leaf ∷ rest) s ≡ read rest (with_tree (Does leaf) s)
leaf_again Take rest s = refl
leaf_again _ rest s = refl

mutual
  read-written : (p : Plain) (rest : List Token) (s : Waiting) → read (written p rest) s ≡ read rest (with_tree p s)
  read-written (Composite Seq cs) rest s = read-written_all cs ((0, 0) ∷ rest) s
  read-written (Composite Fallback cs) rest s = read-written_all cs ((1, 0) ∷ rest) s
  read-written (Star Seq cs) rest s = read-written_all cs ((2, 0) ∷ rest) s
  read-written (Star Fallback cs) rest s = read-written_all cs ((3, 0) ∷ rest) s
  read-written (Par m cs) rest s = read-written_all cs ((4, m) ∷ rest) s
  read-written (Not c) rest s = read-written c ((5, 0) ∷ rest) s
  read-written (Tries n c) rest s = read-written c ((6, n) ∷ rest) s
  read-written (Ticks n c) rest s = read-written c ((7, n) ∷ rest) s
  read-written (Wait n) rest s = refl
  read-written (Move p) rest s = refl
  read-written (Does leaf) rest s = leaf_again leaf rest s

  read-written_all : (cs : Forest) (rest : List Token) (s : Waiting) → read (written_all cs rest) s ≡ read rest (record s { lists = cs ∷ s.lists })
  read-written_all none rest s = refl
  read-written_all (tree c cs) rest s =
      read-written_all cs (written c ((18, 0) ∷ rest)) s ∙ read-written c ((18, 0) ∷ rest) (record s { lists = cs ∷ s.lists })

abbrev nothing : Waiting
nothing = record { trees = []; lists = [] }

pub again : (p : Plain) → first_tree (read (written p []) nothing).trees ≡ p
again p = ap (λ s. first_tree s.trees) (read-written p [] nothing)

abbrev pub plain_code : Coded Plain
plain_code = code_by (List Token) (coded_list (coded× coded_ℕ coded_ℕ)) (λ p. written p []) (λ ts. first_tree (read ts nothing).trees) again
