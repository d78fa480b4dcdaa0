-- The parts of a level that a JSON value spells.
use Rattle.std.specs.Prelude.{ℕ, List, [], ◌∷◌, codes, ◌==◌, Bool, false, if◌then◌else◌, Option, Some, None, option_map, option_and_then}
use Rattle.serde_json.specs.Data.{Data, Items, no_items, item, Members, no_members, member}
use Rattle.serde_json.specs.Find.{get, as_str, as_array, as_object}
use Rattle.serde_json.specs.Events.{members_len}
use Rattle.game_session.specs.Parts.{Parts, NamedPlain, named}
use Rattle.level_text.specs.Nodes.{node_of}

abbrev pub texts_in : Items → Option (List (List ℕ))
texts_in no_items = Some []
texts_in (item d ds) = option_and_then (λ s. option_map (λ ss. s ∷ ss) (texts_in ds)) (as_str d)

-- a list of texts
abbrev pub texts_of : Data → Option (List (List ℕ))
texts_of d = option_and_then texts_in (as_array d)

abbrev pub trees_in : Members → Option (List NamedPlain)
trees_in no_members = Some []
trees_in (member name d ms) = option_and_then (λ p. option_map (λ ts. named name p ∷ ts) (trees_in ms)) (node_of d)

-- an object from name to node
abbrev pub trees_of : Data → Option (List NamedPlain)
trees_of d = option_and_then trees_in (as_object d)

abbrev pub parts_from : Option (List (List ℕ)) → Option (List (List ℕ)) → Option (List NamedPlain) → Option Parts
parts_from rows names trees =
    option_and_then (λ rs. option_and_then (λ ns. option_map (λ ts. record { rows = rs; names = ns; trees = ts }) trees) names) rows

abbrev pub has_three : Option ℕ → Bool
has_three None = false
has_three (Some n) = n == 3

-- an object with exactly the keys `map`, `agents` and `trees`; a key stands once in an object
abbrev pub parts_of : Data → Option Parts
parts_of d =
    if has_three (option_map members_len (as_object d))
    then parts_from (option_and_then texts_of (get (codes "map") d)) (option_and_then texts_of (get (codes "agents") d))
    (option_and_then trees_of (get (codes "trees") d))
    else None
