-- A text to which three parts were appended, two of which begin with a word.
use Rattle.std.proofs.Common.{◌≡◌, ◌++◌, ◌∙◌, ℕ, List, sym, ap, append_assoc}
use Rattle.std.specs.Prelude.{Result, Ok, Err, OnOk, is_ok, if◌then◌else◌}

joined : (text x h f d n one two all : List ℕ) → one ≡ text ++ (x ++ h) → two ≡ one ++ (f ++ d) → all ≡ two ++ n → all ≡ text ++ (x ++ h ++ f ++ d ++ n)
joined text x h f d n one two all first second third =
    third
    ∙ ap (λ l. l ++ n) (second ∙ ap (λ l. l ++ (f ++ d)) first ∙ append_assoc text (x ++ h) (f ++ d) ∙ ap (λ l. text ++ l) (sym (append_assoc (x ++ h) f d)))
    ∙ append_assoc text (x ++ h ++ f ++ d) n

pub parts_joined : {T E : Type 0} (r : Result T E) (text x h f d n one two all : List ℕ) → one ≡ text ++ (x ++ h) → two ≡ one ++ (f ++ d)
    → all ≡ (if is_ok r then two ++ n else two) → OnOk r (all ≡ text ++ (x ++ h ++ f ++ d ++ n))
parts_joined (Ok v) text x h f d n one two all first second third = joined text x h f d n one two all first second third
parts_joined (Err e) text x h f d n one two all first second third = tt
