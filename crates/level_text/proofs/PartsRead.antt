-- The parts of an object of three members.
use Rattle.std.proofs.Common.{◌≡◌, ℕ, List, true, Some, option_map, codes, refl}
use Rattle.serde_json.specs.Data.{Data}
use Rattle.serde_json.specs.Find.{get, as_object}
use Rattle.serde_json.specs.Events.{members_len}
use Rattle.game_session.specs.Parts.{NamedPlain}
use Rattle.level_text.specs.Parts.{texts_of, trees_of, has_three, parts_of}

pub parts_found : (d a b c : Data) (r n : List (List ℕ)) (t : List NamedPlain) → has_three (option_map members_len (as_object d)) ≡ true
    → Some a ≡ get (codes "map") d → Some r ≡ texts_of a → Some b ≡ get (codes "agents") d → Some n ≡ texts_of b → Some c ≡ get (codes "trees") d → Some t ≡ trees_of c
    → Some (record { rows = r; names = n; trees = t }) ≡ parts_of d
parts_found d a b c r n t three ga ta gb tb gc tc = rw (three, ← ga, ← gb, ← gc, ← ta, ← tb, ← tc) refl
