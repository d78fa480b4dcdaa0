-- What the text of changes spells.
use Rattle.std.proofs.Common.{◌≡◌, ◌∙◌, ℕ, suc, ◌+◌, ◌-◌, ◌/◌, ◌%◌, ◌^◌, ◌<◌, ◌≤◌, Bool, true, false, if◌then◌else◌, not, ◌&&◌, eqb, List, [], ◌∷◌, ◌++◌, length, get_or, drop, Some, None, Ok, refl, sym, ap, subst, arith, All, append_assoc, length-append, codes, decimal, ⊎_elim}
use Rattle.std.specs.Char.{is_ascii_digit}
use Rattle.std.specs.List.{AllByRecursion}
use Rattle.std.specs.List.Sorted.{IsNonDecreasingBy}
use Rattle.std.specs.Str.{all_ascii_digits}
use Rattle.std.specs.Str.Parse.{digits_value}
use Rattle.std.proofs.lemmas.Bool.{cases_lt}
use Rattle.std.proofs.lemmas.Fmt.{decimal_by_steps, decimal_is_IsNumeral}
use Rattle.std.proofs.lemmas.Grind.{common_steps}
use Rattle.std.proofs.lemmas.List.{drop_more, get_or_append_left, get_or_default}
use Rattle.std.proofs.lemmas.List.Elements.{All-nil, All-cons, All-append}
use Rattle.grid_world.specs.Map.{is_between}
use Rattle.game_rules.specs.declared.change.Change.{Change}
use Rattle.level_text.specs.Scripts.{lines_of, frame_of, switch_of, letter_of, change_of, change_from, unless_fault, script_of}
use Rattle.level_text.proofs.FirstLines.{first_line_ends}
use Rattle.level_text.proofs.ReadLines.{fault_in, changes_in, fault_in-next, changes_in-next}
use Rattle.level_text.proofs.ThreeWords.{two_spaces}
use Rattle.stepping.specs.Played.{AreInOrder}
use Rattle.btworld_c.specs.Scripts.{change_text, changes_text, IsNameable}

-- ---- numbers

abbrev AreDigits : List ℕ → Type 0
AreDigits ds = AllByRecursion (λ b. (48 ≤ b) × (b ≤ 57)) ds

digit_more : (ds : List ℕ) (d : ℕ) → AreDigits ds → d < 10 → AreDigits (ds ++ (48 + d) ∷ [])
digit_more [] d h l = ((omega arith, omega (arith, l)), tt)
digit_more (c ∷ cs) d h l = (h.0, digit_more cs d h.1 l)

record IsNumber (n : ℕ) (ds : List ℕ) : Type 0 where
  digits : AreDigits ds
  lead : 0 < n → 48 < get_or ds 0 0
  some : 0 < length ds

one_digit : (n : ℕ) → n < 10 → IsNumber n ((48 + n) ∷ [])
one_digit n l = record { digits = ((omega arith, omega (arith, l)), tt); lead = λ h. omega (arith, h); some = omega arith }

more_digits : (n : ℕ) (ds : List ℕ) → 10 ≤ n → IsNumber (n / 10) ds → IsNumber n (ds ++ (48 + n % 10) ∷ [])
more_digits n ds l is = record {
  digits = digit_more ds (n % 10) is.digits (omega arith);
  lead = λ _. subst (λ (b : ℕ). 48 < b) (sym (get_or_append_left ds ((48 + n % 10) ∷ []) 0 0 is.some)) (is.lead (omega (arith, l)));
  some = omega (arith, is.some, length-append ds ((48 + n % 10) ∷ []));
}

number : (n : ℕ) → n < 2 ^ 64 → IsNumber n (decimal n)
number = decimal_by_steps IsNumber one_digit more_digits

all_digits : (ds : List ℕ) → AreDigits ds → all_ascii_digits ds ≡ true
all_digits [] h = refl
all_digits (c ∷ cs) h = let e : is_ascii_digit c ≡ true = grind (arith, common_steps, h.0.0, h.0.1) in rw (e, all_digits cs h.1) refl

no_mark : (mark : ℕ) (ds : List ℕ) → mark < 48 → AreDigits ds → All (λ b. eqb b mark ≡ false) ds
no_mark mark [] low h = All-nil (λ b. eqb b mark ≡ false)
no_mark mark (c ∷ cs) low h =
    let e : eqb c mark ≡ false = grind (arith, common_steps, low, h.0.0) in
    All-cons (λ b. eqb b mark ≡ false) c cs e (no_mark mark cs low h.1)

tested : (a z r : Bool) (v : ℕ) → a ≡ true → z ≡ false → r ≡ true → (if a && not z && r then Some v else None) ≡ Some v
tested a z r v ea ez er = rw (ea, ez, er) refl

frame_spelled : (n : ℕ) → 0 < n → n ≤ 9999 → frame_of (decimal n) ≡ Some n
frame_spelled n some few =
    let is = number n (omega (arith, few)) in
    let v : digits_value 10 (decimal n) ≡ n = (decimal_is_IsNumeral n (omega (arith, few))).1 in
    let lead = is.lead some in
    let z : eqb (get_or (decimal n) 0 0) 48 ≡ false = grind (arith, common_steps, lead) in
    let r : is_between 1 9999 n ≡ true = grind (arith, common_steps, some, few) in
    tested (all_ascii_digits (decimal n)) (eqb (get_or (decimal n) 0 0) 48) (is_between 1 9999 (digits_value 10 (decimal n))) (digits_value 10 (decimal n))
    (all_digits (decimal n) is.digits) z (ap (is_between 1 9999) v ∙ r)
    ∙ ap Some v

letter_spelled : (a : ℕ) → a < 26 → letter_of ((97 + a) ∷ []) ≡ Some a
letter_spelled a l =
    let r : is_between 97 122 (97 + a) ≡ true = grind (arith, common_steps, l) in
    let back : 97 + a - 97 ≡ a = omega arith in
    ap (λ b. if b then Some (97 + a - 97) else None) r ∙ ap Some back

-- ---- a line

abbrev switch : Bool → List ℕ
switch true = codes "on"
switch false = codes "off"

switch_spelled : (on : Bool) → switch_of (switch on) ≡ Some on
switch_spelled true = refl
switch_spelled false = refl

abbrev behind_frame : Change → List ℕ
behind_frame c = switch c.on ++ 32 ∷ (97 + c.signal) ∷ []

abbrev change_line : Change → List ℕ
change_line c = decimal c.frame ++ 32 ∷ behind_frame c

-- the word between spaces
spaced : (on : Bool) (more : List ℕ) → (if on then codes " on " else codes " off ") ++ more ≡ 32 ∷ (switch on ++ 32 ∷ more)
spaced true more = refl
spaced false more = refl

text_is_line : (c : Change) → change_text c ≡ change_line c ++ 10 ∷ []
text_is_line c =
    let digits : List ℕ = decimal c.frame in
    let end : List ℕ = (97 + c.signal) ∷ 10 ∷ [] in
    let joined : switch c.on ++ 32 ∷ end ≡ behind_frame c ++ 10 ∷ [] = sym (append_assoc (switch c.on) (32 ∷ (97 + c.signal) ∷ []) (10 ∷ [])) in
    append_assoc digits (if c.on then codes " on " else codes " off ") end ∙ ap (λ (l : List ℕ). digits ++ l) (spaced c.on end ∙ ap (λ (l : List ℕ). 32 ∷ l) joined)
    ∙ sym (append_assoc digits (32 ∷ behind_frame c) (10 ∷ []))

module _ (mark : ℕ) (low : mark < 48) where
  abbrev Unmarked : List ℕ → Type 0
  Unmarked = All (λ b. eqb b mark ≡ false)

  letter_more : (b : ℕ) (bs : List ℕ) → 48 ≤ b → Unmarked bs → Unmarked (b ∷ bs)
  letter_more b bs h all = let e : eqb b mark ≡ false = grind (arith, common_steps, low, h) in All-cons (λ b. eqb b mark ≡ false) b bs e all

  switch_plain : (on : Bool) → Unmarked (switch on)
  switch_plain true = letter_more 111 (110 ∷ []) (omega arith) (letter_more 110 [] (omega arith) (All-nil (λ b. eqb b mark ≡ false)))
  switch_plain false =
      letter_more 111 (102 ∷ 102 ∷ []) (omega arith) (letter_more 102 (102 ∷ []) (omega arith) (letter_more 102 [] (omega arith) (All-nil (λ b. eqb b mark ≡ false))))

module _ (c : Change) (is : IsNameable c) where
  digits_are : IsNumber c.frame (decimal c.frame)
  digits_are = number c.frame (omega (arith, is.few))

  line_spelled : change_of (change_line c) ≡ Some c
  line_spelled =
      two_spaces (change_line c) (decimal c.frame) (behind_frame c) (switch c.on) ((97 + c.signal) ∷ []) refl (no_mark 32 (decimal c.frame) (omega arith) digits_are.digits)
      refl (switch_plain 32 (omega arith) c.on)
      ∙ ap (λ frame. change_from frame (switch_of (switch c.on)) (letter_of ((97 + c.signal) ∷ []))) (frame_spelled c.frame is.some is.few)
      ∙ ap (λ on. change_from (Some c.frame) on (letter_of ((97 + c.signal) ∷ []))) (switch_spelled c.on)
      ∙ ap (change_from (Some c.frame) (Some c.on)) (letter_spelled c.signal is.small)

  no_feed : All (λ b. eqb b 10 ≡ false) (change_line c)
  no_feed =
      let P : ℕ → Type 0 = λ b. eqb b 10 ≡ false in
      let letter : eqb (97 + c.signal) 10 ≡ false = grind (arith, common_steps) in
      All-append P (decimal c.frame) (32 ∷ behind_frame c) (no_mark 10 (decimal c.frame) (omega arith) digits_are.digits)
      (All-cons P 32 (behind_frame c) refl (All-append P (switch c.on) (32 ∷ (97 + c.signal) ∷ []) (switch_plain 10 (omega arith) c.on)
      (All-cons P 32 ((97 + c.signal) ∷ []) refl (All-cons P (97 + c.signal) [] letter (All-nil P)))))

  parted : (more : List ℕ) → lines_of (change_text c ++ more) ≡ change_line c ∷ lines_of more
  parted more =
      first_line_ends (change_text c ++ more) (change_line c) more
      (ap (λ l. l ++ more) (text_is_line c) ∙ append_assoc (change_line c) (10 ∷ []) more) no_feed

-- ---- all lines

abbrev IsRising : ℕ → List Change → Type 0
IsRising before [] = Unit {0}
IsRising before (c ∷ cs) = (before ≤ c.frame) × IsRising c.frame cs

rising_from : (cs : List Change) (before : ℕ) → ((k : ℕ) (d : Change) → k < length cs → before ≤ (get_or cs k d).frame) → IsNonDecreasingBy (λ c. c.frame) cs → IsRising before cs
rising_from [] before low rises = tt
rising_from (c ∷ cs) before low rises = (
  low 0 c (omega arith),
  rising_from cs c.frame (λ k d l. rises 0 (suc k) d (omega arith) (omega (arith, l))) (λ i j d a b. rises (suc i) (suc j) d (omega (arith, a)) (omega (arith, b))),
)

lines_spelled : (cs : List Change) (n before : ℕ) → IsRising before cs → All IsNameable cs → (fault_in n before (changes_text cs) ≡ None) × (changes_in (changes_text cs) ≡ cs)
lines_spelled [] n before rises are = (refl, refl)
lines_spelled (c ∷ cs) n before rises are =
    let is : IsNameable c = are 0 c (omega arith) in
    let rest = lines_spelled cs (n + 1) c.frame rises.1 (λ k d l. are (suc k) d (omega (arith, l))) in
    let whole = change_text c ++ changes_text cs in
    let first = parted c is (changes_text cs) in
    let spelled = line_spelled c is in (
      fault_in-next whole (change_line c) (changes_text cs) first n before c spelled rises.0 ∙ rest.0,
      sym (changes_in-next whole (change_line c) (changes_text cs) first [] c spelled) ∙ ap (λ more. c ∷ more) rest.1,
    )

pub text_spells : (text : List ℕ) (cs : List Change) → text ≡ changes_text cs → AreInOrder cs → All IsNameable cs → script_of text ≡ Ok cs
text_spells text cs is ordered are =
    let spelled = lines_spelled cs 1 0 (rising_from cs 0 (λ k d l. omega arith) ordered.rising) are in
    ap script_of is ∙ ap (λ fault. unless_fault fault (changes_in (changes_text cs))) spelled.0 ∙ ap Ok spelled.1

-- ---- line after line

pub written_more : (cs : List Change) (i : ℕ) (done after whole : List ℕ) (d c : Change) → i < length cs → get_or cs i d ≡ c → after ≡ done ++ change_text c
    → done ++ changes_text (drop i cs) ≡ whole → after ++ changes_text (drop (i + 1) cs) ≡ whole
written_more cs i done after whole d c l at e is =
    ap (λ t. t ++ changes_text (drop (i + 1) cs)) (e ∙ ap (λ x. done ++ change_text x) (sym at))
    ∙ append_assoc done (change_text (get_or cs i d)) (changes_text (drop (i + 1) cs))
    ∙ ap (λ r. done ++ changes_text r) (sym (drop_more cs i d l))
    ∙ is

-- the first ones can be named, and one more
pub nameable_more : (cs : List Change) (i : ℕ) (c : Change) → ((k : ℕ) (d : Change) → k < i → k < length cs → IsNameable (get_or cs k d)) → get_or cs i c ≡ c → IsNameable c
    → (k : ℕ) (d : Change) → k < i + 1 → k < length cs → IsNameable (get_or cs k d)
nameable_more cs i c are at is k d l inside =
    ⊎_elim (λ below. are k d below inside)
    (λ above. let here : i ≡ k = omega (arith, above, l) in subst (λ (x : Change). IsNameable x) (sym (get_or_default cs k d c inside ∙ ap (λ j. get_or cs j c) (sym here) ∙ at)) is)
    (cases_lt k i)
