use Rattle.std.proofs.Common.{◌≡◌, ◌≤◌, drop}
use Rattle.std.specs.Str.{all_ascii_digits}
use Rattle.std.specs.Str.Parse.{digits_value, digits_value_after}
use Rattle.level_text.proofs.script_file.frame_of.Given as goal

-- the digits that are left give the value of all, after the number so far
abbrev pub invariant-loop-b : goal.invariant-loop-b
invariant-loop-b l = record {
  digits : all_ascii_digits (drop l.b-index l.word) ≡ all_ascii_digits l.word;
  number : digits_value_after 10 l.frame (drop l.b-index l.word) ≡ digits_value 10 l.word;
  small : l.frame ≤ 9999;
}
