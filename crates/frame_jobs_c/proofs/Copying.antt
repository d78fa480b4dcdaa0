-- A buffer whose front is written place by place.
use Rattle.std.proofs.Common.{◌≡◌, ◌<◌, ◌+◌, ◌∙◌, ℕ, List, [], ◌∷◌, ◌++◌, length, take, drop, set, get_or, refl, sym, ap, arith, take-append-drop}
use Rattle.std.specs.Prelude.{map}
use Rattle.std.proofs.lemmas.List.{take_more, take_more_set, map-append, drop-set-lt}
use Rattle.std.proofs.lemmas.Grind.{drop_more_same, common_steps}

-- what was written, and what is as it was behind it
pub record IsWritten {X Y : Type 0} (f : X → Y) (n : ℕ) (from : List X) (old new : List Y) : Type 0 where
  pub front : take n new ≡ map f (take n from)
  pub back : drop n new ≡ drop n old

module _ {X Y : Type 0} (f : X → Y) (from : List X) (old : List Y) where
  pub one_more : (n : ℕ) (new : List Y) (x : X) → IsWritten f n from old new → x ≡ get_or from n x → n < length from → n < length new → IsWritten f (n + 1) from old (set new n (f x))
  one_more n new x w is there room =
      let last : take (n + 1) from ≡ take n from ++ x ∷ [] = take_more from n x there ∙ ap (λ (y : X). take n from ++ y ∷ []) (sym is) in
      record {
        front = take_more_set new n (f x) room ∙ ap (λ (t : List Y). t ++ f x ∷ []) w.front ∙ sym (ap (map f) last ∙ map-append f (take n from) (x ∷ []));
        back = drop-set-lt (n + 1) new n (f x) (omega arith) ∙ drop_more_same new old n w.back;
      }

  pub whole : (n : ℕ) (new : List Y) → IsWritten f n from old new → n ≡ length from → new ≡ map f from ++ drop n old
  whole n new w all =
      let every : take n from ≡ from = grind (arith, common_steps) in
      sym (take-append-drop n new) ∙ ap (λ (t : List Y). t ++ drop n new) (w.front ∙ ap (map f) every) ∙ ap (λ (t : List Y). map f from ++ t) w.back
