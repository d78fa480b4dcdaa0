-- Changes of signals in the order of their frames, with the signals after each.
use Rattle.std.specs.Prelude.{ℕ, ◌-◌, ◌≡◌, Bool, false, List, [], ◌∷◌, length, replicate, slice_set, slice_get, option_map, unwrap_or}
use Rattle.std.specs.List.Sorted.{IsNonDecreasingBy}
use Rattle.game_rules.specs.declared.change.Change.{Change}

-- before the first change
unfoldable pub all_off : List Bool
all_off = replicate 26 false

-- the frame of the last change, or 0
abbrev pub last_frame : List Change → ℕ
last_frame changes = unwrap_or (option_map (λ c. c.frame) (slice_get changes (length changes - 1))) 0

abbrev pub changed : List Bool → Change → List Bool
changed on c = slice_set on c.signal c.on

-- the signals after all changes, from those before them
abbrev pub changed_all : List Change → List Bool → List Bool
changed_all [] on = on
changed_all (c ∷ cs) on = changed_all cs (changed on c)

-- the signals after each change
abbrev pub signals_after : List Change → List Bool → List (List Bool)
signals_after [] on = []
signals_after (c ∷ cs) on = changed on c ∷ signals_after cs (changed on c)

-- frames never fall, and beside each change stand the signals after it
pub record IsKept (changes : List Change) (after : List (List Bool)) : Type 0 where
  pub rising : IsNonDecreasingBy (λ c. c.frame) changes
  pub signals : after ≡ signals_after changes all_off
