-- A tree is settled by its root's kind, the number that stands in it, and what stands below it.
use Rattle.std.proofs.Common.{◌≡◌, ◌≢◌, map, take, ℕ, zero, suc, ◌+◌, ◌<◌, ◌≤◌, List, [], ◌∷◌, length, get_or, Option, Some, None, refl, sym, ap, ◌∙◌, arith, unwrap_or}
use Rattle.bt_nodes.specs.declared.leaf.Leaf.TheVariants.{Carrying}
use Rattle.bt_nodes.specs.Plain.{Seq, Fallback, Plain, Composite, Star, Par, Not, Tries, Ticks, Wait, Move, Does, Forest, none, forest_of, plain, plains}
use Rattle.std.proofs.lemmas.List.{take_more, take_all}
use Rattle.bt_nodes.specs.Sizes.{size, sizes, count}
use Rattle.bt_nodes.specs.Heads.{kind_of, number_of, listed, decorated}
use Rattle.bt_nodes.specs.declared.node.Node.{Node}
use Rattle.bt_nodes.proofs.Forests.{count-plains, copied_more}
use Rattle.bt_nodes.specs.declared.head.NodeKind.{NodeKind}
use Rattle.bt_nodes.specs.declared.head.NodeKind.TheVariants as kind

abbrev built : NodeKind → Option ℕ → Forest → Option Plain → Plain
built kind.Seq n cs c = Composite Seq cs
built kind.Fallback n cs c = Composite Fallback cs
built kind.Par n cs c = Par (unwrap_or n 0) cs
built kind.SeqStar n cs c = Star Seq cs
built kind.FallbackStar n cs c = Star Fallback cs
built kind.Not n cs c = Not (unwrap_or c (Does Carrying))
built kind.Tries n cs c = Tries (unwrap_or n 0) (unwrap_or c (Does Carrying))
built kind.Ticks n cs c = Ticks (unwrap_or n 0) (unwrap_or c (Does Carrying))
built kind.Wait n cs c = Wait (unwrap_or n 0)
built kind.Move n cs c = Move (unwrap_or n 0)
built (kind.Does leaf) n cs c = Does leaf

again : (p : Plain) → built (kind_of p) (number_of p) (listed p) (decorated p) ≡ p
again (Composite Seq cs) = refl
again (Star Seq cs) = refl
again (Does leaf) = refl
again _ = refl

pub same_tree : (p q : Plain) → kind_of p ≡ kind_of q → number_of p ≡ number_of q → listed p ≡ listed q → decorated p ≡ decorated q → p ≡ q
same_tree p q k n l d =
    sym (again p)
    ∙ ap (λ x. built x (number_of p) (listed p) (decorated p)) k
    ∙ ap (λ x. built (kind_of q) x (listed p) (decorated p)) n
    ∙ ap (λ x. built (kind_of q) (number_of q) x (decorated p)) l
    ∙ ap (built (kind_of q) (number_of q) (listed q)) d
    ∙ again q

-- a decorator lists no children
lists_none : (p c : Plain) → Some c ≡ decorated p → listed p ≡ none
lists_none (Not d) c e = refl
lists_none (Tries n d) c e = refl
lists_none (Ticks n d) c e = refl
lists_none _ c e = absurd (cc)

module _ (p q c d : Plain) where
  pub same_over_child : kind_of p ≡ kind_of q → number_of p ≡ number_of q → Some c ≡ decorated p → Some d ≡ decorated q → c ≡ d → p ≡ q
  same_over_child k n below_p below_q same =
      same_tree p q k n (lists_none p c below_p ∙ sym (lists_none q d below_q)) (sym below_p ∙ ap Some same ∙ below_q)

  pub other_child : Some c ≡ decorated p → Some d ≡ decorated q → c ≢ d → p ≢ q
  other_child below_p below_q other same =
      let e : Some c ≡ Some d = below_p ∙ ap decorated same ∙ sym below_q in
      other (cc)

pub other_below : (p q c : Plain) → Some c ≡ decorated p → None ≡ decorated q → p ≢ q
other_below p q c below_p below_q same =
    let e : Some c ≡ None = below_p ∙ ap decorated same ∙ sym below_q in
    absurd (cc)

-- what stands below a root is smaller
pub listed_smaller : (p : Plain) → sizes (listed p) < size p
listed_smaller (Composite kind cs) = omega arith
listed_smaller _ = omega arith

pub decorated_smaller : (p c : Plain) → Some c ≡ decorated p → size c < size p
decorated_smaller (Not d) c e = let s : c ≡ d = cc in omega (arith, ap size s)
decorated_smaller (Tries n d) c e = let s : c ≡ d = cc in omega (arith, ap size s)
decorated_smaller (Ticks n d) c e = let s : c ≡ d = cc in omega (arith, ap size s)
decorated_smaller _ c e = absurd (cc)

pub element_smaller : {A : Type 0} → (nodes : List (Node A)) (i : ℕ) (d : Node A) → i < length nodes → size (plain (get_or nodes i d)) ≤ sizes (plains nodes)
element_smaller [] i d h = absurd (omega arith)
element_smaller (x ∷ xs) zero d h = omega arith
element_smaller (x ∷ xs) (suc i) d h = let s = element_smaller xs i d (omega arith) in omega (arith, s)

pub item_smaller : {A : Type 0} → (nodes : List (Node A)) (i : ℕ) (node : Node A) → i < length nodes → node ≡ get_or nodes i node → size (plain node) ≤ sizes (plains nodes)
item_smaller nodes i node h is = omega (arith, element_smaller nodes i node h, ap (λ n. size (plain n)) is)

-- ---- lists of roots

same_count : {A B : Type 0} → (xs : List (Node A)) (ys : List (Node B)) → plains xs ≡ plains ys → length xs ≡ length ys
same_count xs ys e = sym (count-plains xs) ∙ ap count e ∙ count-plains ys

pub other_count : {A B : Type 0} → (xs : List (Node A)) (ys : List (Node B)) → length xs ≢ length ys → plains xs ≢ plains ys
other_count xs ys other e = other (same_count xs ys e)

same_element : {A B : Type 0} → (xs : List (Node A)) (ys : List (Node B)) (i : ℕ) (d : Node A) (e : Node B) → plains xs ≡ plains ys → i < length xs
    → plain (get_or xs i d) ≡ plain (get_or ys i e)
same_element [] ys i d e same h = absurd (omega arith)
same_element (x ∷ xs) [] i d e same h = absurd (cc)
same_element (x ∷ xs) (y ∷ ys) zero d e same h = let r : plain x ≡ plain y = cc in r
same_element (x ∷ xs) (y ∷ ys) (suc i) d e same h = let r : plains xs ≡ plains ys = cc in same_element xs ys i d e r (omega arith)

pub other_element : {A B : Type 0} → (xs : List (Node A)) (ys : List (Node B)) (i : ℕ) (x : Node A) (y : Node B) → i < length xs
    → x ≡ get_or xs i x → y ≡ get_or ys i y → plain x ≢ plain y → plains xs ≢ plains ys
other_element xs ys i x y h a b other same = other (ap plain a ∙ same_element xs ys i x y same h ∙ ap plain (sym b))

pub same_more : {A B : Type 0} → (xs : List (Node A)) (ys : List (Node B)) (i : ℕ) (x : Node A) (y : Node B) → length xs ≡ length ys → i < length xs
    → x ≡ get_or xs i x → y ≡ get_or ys i y → plain x ≡ plain y → map plain (take i xs) ≡ map plain (take i ys)
    → map plain (take (i + 1) xs) ≡ map plain (take (i + 1) ys)
same_more xs ys i x y n h a b same far =
    ap (map plain) (take_more xs i x h)
    ∙ copied_more (take i xs) (get_or xs i x) ys i y far (omega arith) (ap plain (sym a) ∙ same ∙ ap plain b)

pub same_all : {A B : Type 0} → (xs : List (Node A)) (ys : List (Node B)) (i : ℕ) → length xs ≡ length ys → length xs ≤ i
    → map plain (take i xs) ≡ map plain (take i ys) → plains xs ≡ plains ys
same_all xs ys i n h far = ap forest_of (ap (map plain) (sym (take_all i xs h)) ∙ far ∙ ap (map plain) (take_all i ys (omega arith)))
