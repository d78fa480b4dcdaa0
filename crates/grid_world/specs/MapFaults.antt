-- The first fault of the rows of a map.
use Rattle.std.specs.Prelude.{ℕ, ◌+◌, ◌/◌, ◌%◌, Bool, not, ◌==◌, ◌&&◌, ◌||◌, nat_lt, nat_le, if◌then◌else◌, List, length, map, count_by, position, Option, Some, None, option_map, String, string_bytes}
use Rattle.std.specs.List.{list_all}
use Rattle.std.specs.Str.{chars}
use Rattle.std.specs.declared.alloc.Global.{Global}
use Rattle.grid_world.specs.declared.fault.MapFault.{MapFault}
use Rattle.grid_world.specs.declared.fault.MapFault.TheVariants.{Size, Char, Letters}
use Rattle.grid_world.specs.Map.{count_up, is_between, marks_of, width_of}

-- rows as characters, Unicode scalar values
abbrev pub rows_of : List (String Global) → List (List ℕ)
rows_of texts = map (λ text. chars (string_bytes text)) texts

-- from 1 to 128 rows of from 1 to 128 characters each, all of one length
abbrev pub has_size : List (List ℕ) → Bool
has_size rows =
    is_between 1 128 (length rows) && is_between 1 128 (width_of rows) && list_all (λ row. length row == width_of rows) rows

abbrev pub is_letter : ℕ → Bool
is_letter c = is_between 65 90 c

-- `#` `.` `*`, `a` to `z`, `0` to `9` and `A` to `Z`
abbrev pub is_mark : ℕ → Bool
is_mark c = c == 35 || c == 46 || c == 42 || is_between 97 122 c || is_between 48 57 c || is_letter c

-- letter k stands once if it is one of the first n, else nowhere
abbrev pub letter_fits : List ℕ → ℕ → ℕ → Bool
letter_fits marks n k = count_by (λ c. c == 65 + k) marks == (if nat_lt k n then 1 else 0)

abbrev pub digit_fits : List ℕ → ℕ → Bool
digit_fits marks d = nat_le (count_by (λ c. c == 48 + d) marks) 1

-- letters from A on without a gap, each once, and no digit twice
abbrev pub has_letters : List ℕ → Bool
has_letters marks = list_all (letter_fits marks (count_by is_letter marks)) (count_up 0 26) && list_all (digit_fits marks) (count_up 0 10)

abbrev pub size_fault : List (List ℕ) → Option MapFault
size_fault rows = if has_size rows then None else Some Size

-- the first character that no map has, by rows and then from the left
abbrev pub char_fault : ℕ → List ℕ → Option MapFault
char_fault width marks = option_map (λ i. Char (i % width) (i / width)) (position (λ c. not (is_mark c)) marks)

abbrev pub letters_fault : List ℕ → Option MapFault
letters_fault marks = if has_letters marks then None else Some Letters

abbrev pub first_of : Option MapFault → Option MapFault → Option MapFault
first_of None later = later
first_of (Some fault) later = Some fault

abbrev pub map_fault : List (List ℕ) → Option MapFault
map_fault rows = first_of (size_fault rows) (first_of (char_fault (width_of rows) (marks_of rows)) (letters_fault (marks_of rows)))
