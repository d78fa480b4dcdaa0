-- The words of a line, by its first two spaces.
use Rattle.std.proofs.Common.{◌≡◌, ◌∙◌, ℕ, Bool, true, false, cond, List, [], ◌∷◌, ◌++◌, refl, ap, sym, eqb, inl, inr, Option, Some, None, All, ◌⊎◌, eqb-true, subst}
use Rattle.std.specs.List.{slice_split, onto_first}
use Rattle.std.proofs.lemmas.List.Splits.{slice_split_at, slice_split_none}
use Rattle.level_text.specs.Scripts.{change_of, change_in, change_from, frame_of, switch_of, letter_of}

abbrev is_space : ℕ → Bool
is_space b = eqb b 32

pub change_from-no_switch : (frame letter : Option ℕ) → change_from frame None letter ≡ None
change_from-no_switch None letter = refl
change_from-no_switch (Some f) letter = refl

pub change_from-no_letter : (frame : Option ℕ) (on : Option Bool) → change_from frame on None ≡ None
change_from-no_letter None on = refl
change_from-no_letter (Some f) None = refl
change_from-no_letter (Some f) (Some on) = refl

pub no_space : (line : List ℕ) → All (λ b. is_space b ≡ false) line → change_of line ≡ None
no_space line h = ap change_in (slice_split_none is_space line h)

pub one_space : (line frame rest : List ℕ) → line ≡ frame ++ 32 ∷ rest → All (λ b. is_space b ≡ false) frame → All (λ b. is_space b ≡ false) rest → change_of line ≡ None
one_space line frame rest e h k =
    ap change_of e ∙ ap change_in (slice_split_at is_space frame 32 rest h refl ∙ ap (λ parts. frame ∷ parts) (slice_split_none is_space rest k))

-- what is parted is one part, or two at least
abbrev IsSplit : List ℕ → List (List ℕ) → Type 0
IsSplit xs parts = (parts ≡ xs ∷ []) ⊎ ((a : List ℕ) × (b : List ℕ) × (more : List (List ℕ)) × (parts ≡ a ∷ b ∷ more))

split_more : (x : ℕ) (xs : List ℕ) (here : Bool) (parts : List (List ℕ)) → IsSplit xs parts → IsSplit (x ∷ xs) (cond here ([] ∷ parts) (onto_first x parts))
split_more x xs true parts (inl e) = inr ([], xs, [], ap (λ ps. [] ∷ ps) e)
split_more x xs true parts (inr (a, b, more, e)) = inr ([], a, b ∷ more, ap (λ ps. [] ∷ ps) e)
split_more x xs false parts (inl e) = inl (ap (onto_first x) e)
split_more x xs false parts (inr (a, b, more, e)) = inr (x ∷ a, b, more, ap (onto_first x) e)

split_cases : (xs : List ℕ) → IsSplit xs (slice_split is_space xs)
split_cases [] = inl refl
split_cases (x ∷ xs) = split_more x xs (is_space x) (slice_split is_space xs) (split_cases xs)

only_space : (c : ℕ) (a b : List ℕ) (more : List (List ℕ)) → slice_split is_space (c ∷ []) ≡ a ∷ b ∷ more
    → (here : Bool) → eqb c 32 ≡ here → letter_of (c ∷ []) ≡ None
only_space c a b more e true is = let space : c ≡ 32 = eqb-true c 32 is in rw space refl
only_space c a b more e false is =
    let P : Bool → Type 0 = λ here. cond here ([] ∷ [] ∷ []) ((c ∷ []) ∷ []) ≡ a ∷ b ∷ more in let f : (c ∷ []) ∷ [] ≡ a ∷ b ∷ more = subst P is e in cc

-- a text with a space in it is no letter
no_letter : (letter a b : List ℕ) (more : List (List ℕ)) → slice_split is_space letter ≡ a ∷ b ∷ more → letter_of letter ≡ None
no_letter [] a b more e = cc
no_letter (c ∷ []) a b more e = only_space c a b more e (eqb c 32) refl
no_letter (c ∷ d ∷ rest) a b more e = refl

last_word : (frame switch letter : List ℕ) → IsSplit letter (slice_split is_space letter)
    → change_in (frame ∷ switch ∷ slice_split is_space letter) ≡ change_from (frame_of frame) (switch_of switch) (letter_of letter)
last_word frame switch letter (inl e) = ap (λ parts. change_in (frame ∷ switch ∷ parts)) e
last_word frame switch letter (inr (a, b, more, e)) =
    ap (λ parts. change_in (frame ∷ switch ∷ parts)) e
    ∙ sym (ap (change_from (frame_of frame) (switch_of switch)) (no_letter letter a b more e) ∙ change_from-no_letter (frame_of frame) (switch_of switch))

-- what stands behind the second space is the third word, or no letter
pub two_spaces : (line frame rest switch letter : List ℕ) → line ≡ frame ++ 32 ∷ rest → All (λ b. is_space b ≡ false) frame
    → rest ≡ switch ++ 32 ∷ letter → All (λ b. is_space b ≡ false) switch
    → change_of line ≡ change_from (frame_of frame) (switch_of switch) (letter_of letter)
two_spaces line frame rest switch letter e h e' k =
    ap change_of e ∙ ap change_in (slice_split_at is_space frame 32 rest h refl
    ∙ ap (λ parts. frame ∷ parts) (ap (slice_split is_space) e' ∙ slice_split_at is_space switch 32 letter k refl))
    ∙ last_word frame switch letter (split_cases letter)
