-- Places for the parameters of the frames under way.
use Rattle.std.specs.Prelude.{ℕ, ◌%◌, ◌==◌, Bool, is_none, if◌then◌else◌, List, length, Option, Some, None, option_and_then, slice_index_or, slice_set, is_some}
use Rattle.std.specs.Coded.{Coded, coded_list, coded_option}
use Rattle.frame_state.specs.Names.{FrameOf, frame_code}

abbrev pub slots_code : Coded (List (Option FrameOf))
slots_code = coded_list (coded_option frame_code)

-- the place of a frame
abbrev pub slot_of : List (Option FrameOf) → ℕ → ℕ
slot_of places f = f % length places

abbrev pub in_place : List (Option FrameOf) → ℕ → Option FrameOf
in_place places f = slice_index_or places (slot_of places f) None

abbrev pub is_free : List (Option FrameOf) → ℕ → Bool
is_free places f = is_none (in_place places f)

-- what stands in the place of a frame, where it is that frame's
abbrev pub held_at : List (Option FrameOf) → ℕ → Option FrameOf
held_at places f = option_and_then (λ p. if p.frame == f then Some p else None) (in_place places f)

-- with that frame taken out
abbrev pub cleared : List (Option FrameOf) → ℕ → List (Option FrameOf)
cleared places f = if is_some (held_at places f) then slice_set places (slot_of places f) None else places
