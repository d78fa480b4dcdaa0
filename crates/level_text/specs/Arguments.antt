-- The arguments of nodes, which stand behind their heads.
use Rattle.std.specs.Prelude.{ℕ, ◌+◌, ◌-◌, List, [], ◌∷◌, Bool, true, nat_lt, if◌then◌else◌, Option, Some, None, option_and_then}
use Rattle.serde_json.specs.Data.{Data, number, unsigned, string, Items, no_items, item}
use Rattle.serde_json.specs.Find.{as_u64, as_number, as_str}
use Rattle.grid_world.specs.Map.{is_between}
use Rattle.level_text.specs.declared.argument.Argument.{Argument}
use Rattle.level_text.specs.declared.argument.Argument.TheVariants.{Count, Place, Signal, Agent}

-- ---- as they are read

abbrev pub first : Items → Option Data
first no_items = None
first (item d ds) = Some d

-- the one item, where there is one
abbrev pub only : Items → Option Data
only no_items = None
only (item d no_items) = Some d
only (item d (item e ds)) = None

-- a number that `as_u64` gives
abbrev pub count_in : Data → Option ℕ
count_in d = option_and_then as_u64 (as_number d)

-- a text of one character from `low` to `high`, as its number from 0
abbrev pub mark_of : (low high : ℕ) → List ℕ → Option ℕ
mark_of low high [] = None
mark_of low high (c ∷ []) = if is_between low high c then Some (c - low) else None
mark_of low high (c ∷ d ∷ cs) = None

-- a text of one digit
abbrev pub place_in : Data → Option ℕ
place_in d = option_and_then (mark_of 48 57) (as_str d)

-- a text of one letter `a` to `z`
abbrev pub signal_in : Data → Option ℕ
signal_in d = option_and_then (mark_of 97 122) (as_str d)

-- a text of one letter `A` to `Z`
abbrev pub agent_in : Data → Option ℕ
agent_in d = option_and_then (mark_of 65 90) (as_str d)

abbrev pub if_empty : {A : Type 0} → Items → A → Option A
if_empty no_items a = Some a
if_empty (item d ds) a = None

-- ---- as they are written

-- a text of one character
abbrev pub mark : ℕ → Data
mark c = string (c ∷ [])

abbrev pub argument_data : Argument → Data
argument_data (Count n) = number (unsigned n)
argument_data (Place p) = mark (48 + p)
argument_data (Signal a) = mark (97 + a)
argument_data (Agent b) = mark (65 + b)

-- a place is a digit, and a signal or an agent a letter
abbrev pub has_mark : Argument → Bool
has_mark (Count n) = true
has_mark (Place p) = nat_lt p 10
has_mark (Signal a) = nat_lt a 26
has_mark (Agent b) = nat_lt b 26
