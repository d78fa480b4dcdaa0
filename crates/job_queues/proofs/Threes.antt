-- Lists of three priorities: whether an item is in one of them.
use Rattle.std.proofs.Common.{◌≡◌, Bool, true, false, List, [], ◌∷◌, ◌++◌, if◌then◌else◌, refl, ap, ◌∙◌}
use Rattle.board_model.specs.Lists.{has, Three, all}
use Rattle.board_model.proofs.Kit.{by_bool}

pub has_append : {X : Type 0} (p : X → Bool) (xs ys : List X) → has p (xs ++ ys) ≡ (if has p xs then true else has p ys)
has_append p [] ys = refl
has_append p (x ∷ xs) ys = by_bool (p x) (λ b. (if b then true else has p (xs ++ ys)) ≡ (if (if b then true else has p xs) then true else has p ys)) (λ e. refl) (λ e. has_append p xs ys)

module _ {X : Type 0} (p : X → Bool) (t : Three X) where
  pub has_all : has p (all t) ≡ (if has p t.high then true else (if has p t.normal then true else has p t.low))
  has_all = has_append p t.high (t.normal ++ t.low) ∙ ap (λ b. if has p t.high then true else b) (has_append p t.normal t.low)

  pub there_high : has p t.high ≡ true → has p (all t) ≡ true
  there_high e = has_all ∙ rw e refl

  pub there_normal : has p t.normal ≡ true → has p (all t) ≡ true
  there_normal e = has_all ∙ rw e (by_bool (has p t.high) (λ b. (if b then true else true) ≡ true) (λ _. refl) (λ _. refl))

  pub there_low : has p t.low ≡ true → has p (all t) ≡ true
  there_low e = has_all ∙ rw e (by_bool (has p t.high) (λ b. (if b then true else (if has p t.normal then true else true)) ≡ true) (λ _. refl) (λ _. by_bool (has p t.normal) (λ b. (if b then true else true) ≡ true) (λ _. refl) (λ _. refl)))

  pub absent_all : has p t.high ≡ false → has p t.normal ≡ false → has p t.low ≡ false → has p (all t) ≡ false
  absent_all e f g = has_all ∙ rw (e, f, g) refl
