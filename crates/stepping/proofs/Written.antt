-- Answers that are written to their places.
use Rattle.std.proofs.Common.{◌≡◌, ℕ, List, [], ◌∷◌, ◌++◌, length, refl, ◌∙◌}
use Rattle.std.specs.Prelude.{slice_set, Option, Some}
use Rattle.std.proofs.lemmas.List.{length-set}
use Rattle.bt_nodes.specs.declared.node.Status.{Status}
use Rattle.stepping.specs.Answered.{written}

pub written_more : (xs ys : List (ℕ × Status)) (them : List (Option Status)) → written (xs ++ ys) them ≡ written ys (written xs them)
written_more [] ys them = refl
written_more (x ∷ xs) ys them = written_more xs ys (slice_set them x.0 (Some x.1))

pub length-written : (xs : List (ℕ × Status)) (them : List (Option Status)) → length (written xs them) ≡ length them
length-written [] them = refl
length-written (x ∷ xs) them = length-written xs (slice_set them x.0 (Some x.1)) ∙ length-set them x.0 (Some x.1)
