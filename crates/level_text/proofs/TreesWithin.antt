-- Trees within the limits, one after another.
use Rattle.std.proofs.Common.{◌≡◌, List, [], ◌∷◌, ◌++◌, Option, Some, None, append_assoc, refl, ap, ◌∙◌}
use Rattle.std.proofs.lemmas.List.{map-append}
use Rattle.std.specs.Option.{option_or}
use Rattle.game_session.specs.Parts.{NamedPlain}
use Rattle.game_session.specs.Faults.{Fault, limit_fault}
use Rattle.game_session.specs.Kept.{tree_view, trees_view}
use Rattle.level_text.specs.Levels.{fault_view, NamesFirst, IsFirstOf}
use Rattle.level_text.specs.TreeFaults.{own_fault}
use Rattle.level_text.specs.declared.level_fault.LevelFault.{LevelFault}
use Rattle.game_session.specs.declared.named_tree.NamedTree.{NamedTree}

-- a tree has no fault of its own, so the first fault is that of a later one
pub fault_is_later : (t : NamedPlain) (ts : List NamedPlain) → own_fault t ≡ None → limit_fault (t ∷ ts) ≡ limit_fault ts
fault_is_later t ts none = rw none refl

pub one_more : (done : List NamedTree) (t : NamedTree) (p : NamedPlain) (left : List NamedPlain) → tree_view t ≡ p
    → trees_view (done ++ t ∷ []) ++ left ≡ trees_view done ++ p ∷ left
one_more done t p left same =
    ap (λ ts. ts ++ left) (map-append tree_view done (t ∷ [])) ∙ append_assoc (trees_view done) (tree_view t ∷ []) left ∙ ap (λ q. trees_view done ++ q ∷ left) same

named_first : (n first later : Option Fault) → NamesFirst n first → NamesFirst n (option_or first later)
named_first None first later h = tt
named_first (Some fault) first later h = rw h refl

-- a tree has a fault of its own, so that is the first
pub fault_is_first : (t : NamedPlain) (ts : List NamedPlain) (e : LevelFault) → IsFirstOf (own_fault t) e → IsFirstOf (limit_fault (t ∷ ts)) e
fault_is_first t ts e h = named_first (fault_view e) (own_fault t) (limit_fault ts) h
