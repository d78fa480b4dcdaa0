-- Bytes that were read so far, and the end of them.
use Rattle.std.proofs.Common.{◌≡◌, ℕ, List, [], ◌++◌, Option, Some, None, refl, sym, ap, ◌∙◌, append_assoc, IfSome, take, subst}
use Rattle.std.proofs.lemmas.List.{append-nil}
use Rattle.std.specs.Io.KnownBytes.{Consumes, IsAtEnd}

pub none_yet : (known : Option (List ℕ)) → Consumes known known []
none_yet None = tt
none_yet (Some xs) = refl

pub reads_on : (a b c : Option (List ℕ)) (xs ys : List ℕ) → Consumes a b xs → Consumes b c ys → Consumes a c (xs ++ ys)
reads_on None b c xs ys h k = tt
reads_on (Some us) None c xs ys h k = absurd h
reads_on (Some us) (Some bs) None xs ys h k = absurd k
reads_on (Some us) (Some bs) (Some cs) xs ys h k = h ∙ ap (λ zs. xs ++ zs) k ∙ sym (append_assoc xs ys cs)

pub all_read : (a b : Option (List ℕ)) (xs : List ℕ) → Consumes a b xs → IsAtEnd b → IfSome a (λ bytes. xs ≡ bytes)
all_read None b xs h e = tt
all_read (Some us) None xs h e = absurd h
all_read (Some us) (Some bs) xs h e = sym (h ∙ rw e (append-nil xs))

pub ends_here : (a b c : Option (List ℕ)) (xs buffer : List ℕ) (n : ℕ) → Consumes a b xs → Consumes b c (take n buffer) → n ≡ 0 → IsAtEnd c → IfSome a (λ bytes. xs ≡ bytes)
ends_here a b c xs buffer n h k z e =
    let none : take n buffer ≡ [] = ap (λ n. take n buffer) z in
    all_read a c xs (subst (λ zs. Consumes a c zs) (ap (λ ys. xs ++ ys) none ∙ append-nil xs) (reads_on a b c xs (take n buffer) h k)) e
