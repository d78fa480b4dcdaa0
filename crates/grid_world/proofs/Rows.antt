-- The rows of a map: those that are left, and their size.
use Rattle.std.proofs.Common.{◌≡◌, ℕ, zero, suc, ◌+◌, ◌*◌, ◌<◌, ◌≤◌, List, [], ◌∷◌, length, get_or, drop, refl, ap, ◌∙◌, arith, Bool, true, false, ◌&&◌, ◌==◌, String, string_bytes, eqb-true, leb-true}
use Rattle.std.specs.List.{list_all}
use Rattle.std.specs.Str.{chars}
use Rattle.std.specs.declared.alloc.Global.{Global}
use Rattle.std.proofs.Math.Nat.{suc-mul, mul-le-mul}
use Rattle.std.proofs.lemmas.List.{drop_more, length-append}
use Rattle.grid_world.specs.Map.{marks_of, width_of}
use Rattle.grid_world.specs.MapFaults.{has_size, rows_of}

pub rows_of-left : (texts : List (String Global)) (i : ℕ) (d : String Global) → i < length texts
    → rows_of (drop i texts) ≡ chars (string_bytes (get_or texts i d)) ∷ rows_of (drop (i + 1) texts)
rows_of-left texts i d h = ap rows_of (drop_more texts i d h)

pub rows_of-none_left : (texts : List (String Global)) (i : ℕ) → length texts ≤ i
    → rows_of (drop i texts) ≡ []
rows_of-none_left [] zero h = refl
rows_of-none_left [] (suc i) h = refl
rows_of-none_left (text ∷ texts) zero h = absurd (omega arith)
rows_of-none_left (text ∷ texts) (suc i) h = rows_of-none_left texts i (omega arith)

pub and_parts : (a b : Bool) → (a && b) ≡ true → (a ≡ true) × (b ≡ true)
and_parts true b h = (refl, h)
and_parts false b h = absurd (cc)

pub length-marks_of : (width : ℕ) (rows : List (List ℕ)) → list_all (λ row. length row == width) rows ≡ true
    → length (marks_of rows) ≡ length rows * width
length-marks_of width [] h = grind arith
length-marks_of width (row ∷ rows) h =
    let parts = and_parts (length row == width) (list_all (λ row. length row == width) rows) h in
    length-append row (marks_of rows)
    ∙ rw (
      eqb-true (length row) width parts.0,
      length-marks_of width rows parts.1,
      suc-mul
          (length rows) width,
    ) (omega arith)

-- rows that have the size of a map
pub record IsRectangle (rows : List (List ℕ)) : Type 0 where
  pub some_rows : 1 ≤ length rows
  pub most_rows : length rows ≤ 128
  pub some_columns : 1 ≤ width_of rows
  pub most_columns : width_of rows ≤ 128
  pub all_marks : length (marks_of rows) ≡ length rows * width_of rows

pub IsRectangle-from_size : (rows : List (List ℕ)) → has_size rows ≡ true → IsRectangle rows
IsRectangle-from_size rows h =
    let lists = and_parts _ _ h in
    let sizes = and_parts _ _ lists.0 in
    let high = and_parts _ _ sizes.0 in
    let wide = and_parts _ _ sizes.1 in
    record {
      some_rows = leb-true _ _ high.0;
      most_rows = leb-true _ _ high.1;
      some_columns = leb-true _ _ wide.0;
      most_columns = leb-true _ _ wide.1;
      all_marks = length-marks_of _ _ lists.1;
    }

pub few_marks : (rows : List (List ℕ)) → IsRectangle rows → length (marks_of rows) ≤ 16384
few_marks rows size =
    let most : length rows * width_of rows ≤ 128 * 128 = mul-le-mul size.most_rows size.most_columns in omega
    (arith, size.all_marks, most)
