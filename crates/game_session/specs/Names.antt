-- Names, and their order by bytes.
use Rattle.std.specs.Prelude.{ℕ, List, [], ◌∷◌, map, Bool, true, ◌&&◌}
use Rattle.std.specs.Ordering.{is_lt, nat_cmp}
use Rattle.std.specs.Cmp.Lexicographic.{slice_cmp}
use Rattle.std.specs.List.{list_all}
use Rattle.game_session.specs.Parts.{NamedPlain}

abbrev pub is_before : List ℕ → List ℕ → Bool
is_before a b = is_lt (slice_cmp nat_cmp a b)

-- each name is before all later ones, so none stands twice
abbrev pub is_in_order : List (List ℕ) → Bool
is_in_order [] = true
is_in_order (name ∷ names) = list_all (is_before name) names && is_in_order names

abbrev pub names_of : List NamedPlain → List (List ℕ)
names_of trees = map (λ t. t.name) trees
