-- A number that has grown past every frame.
use Rattle.std.proofs.Common.{◌≡◌, ◌∙◌, ℕ, ◌+◌, ◌*◌, ◌<◌, ◌≤◌, Bool, cond, List, [], ◌∷◌, length, get_or, drop, ap, sym, arith, leb, ◌&&◌, not, eqb, Some, None}
use Rattle.std.specs.Char.{digit_value}
use Rattle.std.specs.Str.{all_ascii_digits}
use Rattle.std.specs.Str.Parse.{digits_value, digits_value_after}
use Rattle.std.proofs.lemmas.List.{drop_more}
use Rattle.std.proofs.lemmas.Grind.{common_steps}
use Rattle.level_text.specs.Scripts.{frame_of}

-- further digits make no number smaller
digits_value_after-ge : (n : ℕ) (ds : List ℕ) → n ≤ digits_value_after 10 n ds
digits_value_after-ge n [] = omega arith
digits_value_after-ge n (c ∷ cs) = let more : n * 10 + digit_value c ≤ digits_value_after 10 (n * 10 + digit_value c) cs = digits_value_after-ge (n * 10 + digit_value c) cs in omega arith

beyond : (d l : Bool) (value : ℕ) → 9999 < value → cond (d && l && (leb 1 value && leb value 9999)) (Some value) None ≡ None
beyond d l value large = grind (arith, common_steps)

-- the number after one more digit is past 9999
pub frame_of_large : (word : List ℕ) (i n c : ℕ) → i < length word → c ≡ get_or word i 0
    → digits_value_after 10 n (drop i word) ≡ digits_value 10 word → 9999 < n * 10 + digit_value c → frame_of word ≡ None
frame_of_large word i n c within is rest large =
    let step : digits_value_after 10 (n * 10 + digit_value c) (drop (i + 1) word) ≡ digits_value 10 word =
    rw is (sym (ap (digits_value_after 10 n) (drop_more word i 0 within)) ∙ rest) in
    let ge : n * 10 + digit_value c ≤ digits_value_after 10 (n * 10 + digit_value c) (drop (i + 1) word) = digits_value_after-ge (n * 10 + digit_value c) (drop (i + 1) word) in
    beyond (all_ascii_digits word) (not (eqb (get_or word 0 0) 48)) (digits_value 10 word) (omega arith)
