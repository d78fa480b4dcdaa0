-- Writing the trees of a level into an object, one after another.
use Rattle.std.proofs.Common.{◌≡◌, ℕ, ◌+◌, ◌<◌, ◌≤◌, List, [], ◌∷◌, ◌++◌, length, get_or, take, drop, Bool, true, ◌&&◌, Ordering, Less, Equal, Greater, refl, sym, ap, ◌∙◌}
use Rattle.std.proofs.lemmas.Cmp.{nat_list_cmp_total}
use Rattle.std.proofs.lemmas.List.{map-append, take_more, take_all, take-append-drop}
use Rattle.std.specs.Cmp.Lexicographic.{slice_cmp}
use Rattle.std.specs.List.{list_all}
use Rattle.std.specs.Ordering.{nat_cmp, is_lt, ordering_reverse}
use Rattle.serde_json.specs.Data.{put, member}
use Rattle.game_session.specs.Parts.{NamedPlain}
use Rattle.game_session.specs.Kept.{tree_view, trees_view}
use Rattle.game_session.specs.Names.{is_before, is_in_order, names_of}
use Rattle.level_text.specs.Written.{node_data, trees_data}
use Rattle.game_session.specs.declared.named_tree.NamedTree.{NamedTree}
use Rattle.level_text.proofs.NodesSpelled.{both}
use Rattle.level_text.proofs.WrittenSteps.{drop-read}

less : (o : Ordering) → is_lt o ≡ true → o ≡ Less
less Less h = refl
less Equal h = cc
less Greater h = cc

is_above : (a b : List ℕ) → is_before a b ≡ true → slice_cmp nat_cmp b a ≡ Greater
is_above a b h = nat_list_cmp_total.antisymm b a ∙ ap ordering_reverse (less (slice_cmp nat_cmp a b) h)

is_before-middle : (name : List ℕ) (done : List NamedPlain) (t : NamedPlain) (more : List NamedPlain)
    → list_all (is_before name) (names_of (done ++ t ∷ more)) ≡ true → is_before name t.name ≡ true
is_before-middle name [] t more h = (both (is_before name t.name) (list_all (is_before name) (names_of more)) h).0
is_before-middle name (s ∷ done) t more h =
    is_before-middle name done t more (both (is_before name s.name) (list_all (is_before name) (names_of (done ++ t ∷ more))) h).1

-- a tree whose name is after those before it goes last
put-last : (done : List NamedPlain) (t : NamedPlain) (more : List NamedPlain) → is_in_order (names_of (done ++ t ∷ more)) ≡ true
    → put t.name (node_data t.tree) (trees_data done) ≡ trees_data (done ++ t ∷ [])
put-last [] t more h = refl
put-last (s ∷ done) t more h =
    let order : (list_all (is_before s.name) (names_of (done ++ t ∷ more)) ≡ true) × (is_in_order (names_of (done ++ t ∷ more)) ≡ true) =
    both (list_all (is_before s.name) (names_of (done ++ t ∷ more))) (is_in_order (names_of (done ++ t ∷ more))) h in
    let above : slice_cmp nat_cmp t.name s.name ≡ Greater = is_above s.name t.name (is_before-middle s.name done t more order.0) in
    rw above (ap (member s.name (node_data s.tree)) (put-last done t more order.1))

module _ (trees : List NamedTree) (i : ℕ) (t : NamedTree) (h : i < length trees) (read : t ≡ get_or trees i t) where
  split : trees_view (take i trees) ++ tree_view t ∷ trees_view (drop (i + 1) trees) ≡ trees_view trees
  split =
      sym (map-append tree_view (take i trees) (t ∷ drop (i + 1) trees)) ∙ ap (λ ts. trees_view (take i trees ++ ts)) (sym (drop-read trees i t h read))
      ∙ ap trees_view (take-append-drop i trees)

  taken : trees_view (take (i + 1) trees) ≡ trees_view (take i trees) ++ tree_view t ∷ []
  taken =
      ap trees_view (take_more trees i t h) ∙ ap (λ u. trees_view (take i trees ++ u ∷ [])) (sym read) ∙ map-append tree_view (take i trees) (t ∷ [])

  -- one more tree was put
  pub put_more : is_in_order (names_of (trees_view trees)) ≡ true
      → put (tree_view t).name (node_data (tree_view t).tree) (trees_data (trees_view (take i trees))) ≡ trees_data (trees_view (take (i + 1) trees))
  put_more order =
      put-last (trees_view (take i trees)) (tree_view t) (trees_view (drop (i + 1) trees)) (ap (λ ts. is_in_order (names_of ts)) split ∙ order)
      ∙ ap trees_data (sym taken)

  pub all_more : (p : NamedPlain → Bool) (all : Bool) → p (tree_view t) ≡ true → list_all p (trees_view (drop i trees)) ≡ all → list_all p (trees_view (drop (i + 1) trees)) ≡ all
  all_more p all here rest =
      sym (ap (λ ts. list_all p (trees_view ts)) (drop-read trees i t h read) ∙ ap (λ b. b && list_all p (trees_view (drop (i + 1) trees))) here) ∙ rest

pub put_all : (trees : List NamedTree) (i : ℕ) → length trees ≤ i → trees_data (trees_view (take i trees)) ≡ trees_data (trees_view trees)
put_all trees i h = ap (λ ts. trees_data (trees_view ts)) (take_all i trees h)
