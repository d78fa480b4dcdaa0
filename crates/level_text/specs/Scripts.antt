-- What the bytes of a script file spell, and their first fault.
use Rattle.std.specs.Prelude.{ℕ, ◌+◌, Bool, true, false, not, ◌&&◌, ◌==◌, ◌-◌, nat_lt, if◌then◌else◌, List, [], ◌∷◌, map, Option, Some, None, Result, Ok, Err, codes, slice_index}
use Rattle.std.specs.List.{slice_split, onto_first, filter_map}
use Rattle.std.specs.Str.{all_ascii_digits, bytes_eq}
use Rattle.std.specs.Str.Parse.{digits_value}
use Rattle.grid_world.specs.Map.{is_between}
use Rattle.game_rules.specs.declared.change.Change.{Change}
use Rattle.level_text.specs.declared.script_file.ScriptFault.{ScriptFault}
use Rattle.level_text.specs.declared.script_file.ScriptFault.TheVariants.{Line, Order}

-- a byte stands before the first of some lines; a line feed (10) ends a line of its own
abbrev pub before_lines : ℕ → List (List ℕ) → List (List ℕ)
before_lines c lines = if c == 10 then [] ∷ lines else onto_first c lines

-- each line ends with a line feed, which the last may lack
abbrev pub lines_of : List ℕ → List (List ℕ)
lines_of [] = []
lines_of (c ∷ cs) = before_lines c (lines_of cs)

-- parted by single spaces (32)
abbrev pub words_of : List ℕ → List (List ℕ)
words_of line = slice_split (λ b. b == 32) line

-- a decimal number from 1 to 9999 with no leading zero (48)
abbrev pub frame_of : List ℕ → Option ℕ
frame_of word =
    if all_ascii_digits word && not (slice_index word 0 == 48) && is_between 1 9999 (digits_value 10 word)
    then Some (digits_value 10 word) else None

abbrev pub switch_of : List ℕ → Option Bool
switch_of word = if bytes_eq word (codes "on") then Some true else (if bytes_eq word (codes "off") then Some false else None)

-- one letter from `a` (97) to `z`
abbrev pub letter_of : List ℕ → Option ℕ
letter_of [] = None
letter_of (c ∷ []) = if is_between 97 122 c then Some (c - 97) else None
letter_of (c ∷ d ∷ more) = None

abbrev pub change_from : Option ℕ → Option Bool → Option ℕ → Option Change
change_from (Some frame) (Some on) (Some letter) = Some (record { frame = frame; signal = letter; on = on })
change_from _ _ _ = None

-- three words: frame, switch and letter
abbrev pub change_in : List (List ℕ) → Option Change
change_in (frame ∷ switch ∷ letter ∷ []) = change_from (frame_of frame) (switch_of switch) (letter_of letter)
change_in _ = None

-- the change that a line spells
abbrev pub change_of : List ℕ → Option Change
change_of line = change_in (words_of line)

-- the first fault among the lines n, n + 1, .., seen as what they spell, after a line of frame before
abbrev pub fault_from : ℕ → ℕ → List (Option Change) → Option ScriptFault
fault_from n before [] = None
fault_from n before (None ∷ more) = Some (Line n)
fault_from n before (Some c ∷ more) = if nat_lt c.frame before then Some (Order n) else fault_from (n + 1) c.frame more

abbrev pub script_fault : List ℕ → Option ScriptFault
script_fault bytes = fault_from 1 0 (map change_of (lines_of bytes))

abbrev pub unless_fault : Option ScriptFault → List Change → Result (List Change) ScriptFault
unless_fault None changes = Ok changes
unless_fault (Some fault) changes = Err fault

-- the script of all lines, unless one has a fault
abbrev pub script_of : List ℕ → Result (List Change) ScriptFault
script_of bytes = unless_fault (script_fault bytes) (filter_map change_of (lines_of bytes))
