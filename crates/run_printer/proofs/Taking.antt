-- The bands of a frame, taken out of their places one after another.
use Rattle.std.specs.Prelude.{IfNone}
use Rattle.std.proofs.Common.{◌≡◌, ◌≢◌, ℕ, ◌+◌, ◌<◌, ◌≤◌, List, [], ◌∷◌, ◌++◌, Option, Some, None, length, get_or, set, refl, sym, ap, ◌∙◌, arith}
use Rattle.std.proofs.lemmas.List.{get_or-set_other}
use Rattle.game_rules.specs.Game.{Game}
use Rattle.draw_list.specs.declared.band.Band.{Band}
use Rattle.frame_state.specs.Contents.{band_in}
use Rattle.run_printer.specs.Tables.{AreAtTheirNumbers, AreFirstBands}
use Rattle.run_printer.proofs.Drawn.{first_more}
use Rattle.run_printer.proofs.Places.{some_same}

-- of the bands from a first one on those below n are taken; the places have these frames
pub record IsTaking (run : Option Game) (f from n bands : ℕ) (old : List (Option ℕ)) (into : List Band) (frames : List (Option ℕ)) : Type 0 where
  pub first : (g : Game) → run ≡ Some g → AreFirstBands g f into
  pub many : length into ≡ n
  pub start : from ≤ n
  pub few : n ≤ bands
  pub rest : (k : ℕ) → n ≤ k → get_or frames k None ≡ get_or old k None

pub taken : (run : Option Game) (f start n bands : ℕ) (old : List (Option ℕ)) (into now : List Band) (frames after : List (Option ℕ)) (band : Band)
    → IsTaking run f start n bands old into frames → n < bands → after ≡ set frames n None → now ≡ into ++ band ∷ []
    → ((g : Game) → run ≡ Some g → band ≡ band_in g f n) → IsTaking run f start (n + 1) bands old now after
taken run f start n bands old into now frames after band before below emptied pushed is = record {
  first = λ g own. rw pushed (first_more g f n into band (before.first g own) before.many (is g own));
  many = rw pushed (longer into band n before.many);
  start = omega (arith, before.start);
  few = omega (arith, below);
  rest = λ k h.
      let past : n ≤ k = omega (arith, h) in
      let other : k ≢ n = omega (arith, h) in
      ap (λ l. get_or l k None) emptied ∙ get_or-set_other frames n k None None other ∙ before.rest k past;
}
  where
    longer : (into : List Band) (band : Band) (n : ℕ) → length into ≡ n → length (into ++ band ∷ []) ≡ n + 1
    longer [] band n e = omega (arith, e)
    longer (b ∷ bs) band n e = omega (arith, e, longer bs band (length bs) refl)

-- where another band lies: since it has the place of its number, it is of another frame
pub another_there : {B : Type 0} (taken : Option B) (old frames numbers : List (Option ℕ)) (f n frame number : ℕ) → frames ≡ old → AreAtTheirNumbers numbers
    → get_or frames n None ≡ Some frame → get_or numbers n None ≡ Some number → IfNone taken ((frame ≡ f) × (number ≡ n) → ⊥)
    → IfNone taken (get_or old n None ≢ Some f)
another_there (Some _) old frames numbers f n frame number same numbered frame_is number_is another = tt
another_there None old frames numbers f n frame number same numbered frame_is number_is another =
    λ h. another (some_same frame f (sym frame_is ∙ ap (λ l. get_or l n None) same ∙ h), numbered n number number_is)
