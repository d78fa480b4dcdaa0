-- The jobs of a range of numbers stand behind those of their priority.
use Rattle.std.proofs.Common.{◌≡◌, ◌<◌, ◌≤◌, ℕ, zero, suc, if◌then◌else◌, List, [], ◌∷◌, ◌++◌, ◌+◌, refl, sym, ap, ◌∙◌, arith}
use Rattle.std.proofs.lemmas.List.{append-nil, append_assoc}
use Rattle.job_core.specs.declared.names.JobName.{JobName}
use Rattle.job_core.specs.declared.names.JobName.TheVariants.{Logic, Think, Draw}
use Rattle.job_core.proofs.ByCases.{by_lt}
use Rattle.board_model.specs.Lists.{Three, High, Normal, Low, add}
use Rattle.board_model.specs.Board.{put_all, priority_of, first}
use Rattle.job_queues.specs.Waiting.{logic_after}

put_more : (t : Three JobName) (xs ys : List JobName) → put_all t (xs ++ ys) ≡ put_all (put_all t xs) ys
put_more t [] ys = refl
put_more t (x ∷ xs) ys = put_more (add (priority_of x) x t) xs ys

module _ (t : Three JobName) (frame : ℕ) where
  abbrev with_normal : List JobName → Three JobName
  with_normal jobs = record { high = t.high; normal = jobs; low = t.low }

  abbrev with_low : List JobName → Three JobName
  with_low jobs = record { high = t.high; normal = t.normal; low = jobs }

  pub thinks_put : (n : ℕ) → with_normal (t.normal ++ first n (Think frame)) ≡ put_all t (first n (Think frame))
  thinks_put zero = ap with_normal (append-nil t.normal)
  thinks_put (suc n) =
      sym (put_more t (first n (Think frame)) (Think frame n ∷ []) ∙ (ap (add Normal (Think frame n)) (sym (thinks_put n))
      ∙ ap with_normal (append_assoc t.normal (first n (Think frame)) (Think frame n ∷ []))))

  pub draws_put : (n : ℕ) → with_low (t.low ++ first n (Draw frame)) ≡ put_all t (first n (Draw frame))
  draws_put zero = ap with_low (append-nil t.low)
  draws_put (suc n) =
      sym (put_more t (first n (Draw frame)) (Draw frame n ∷ []) ∙ (ap (add Low (Draw frame n)) (sym (draws_put n))
      ∙ ap with_low (append_assoc t.low (first n (Draw frame)) (Draw frame n ∷ []))))

  -- and the next frame's Logic
  pub draws_and_logic_put : (n : ℕ) → record { high = t.high ++ Logic (frame + 1) ∷ []; normal = t.normal; low = t.low ++ first n (Draw frame) } ≡ put_all (put_all t (first n (Draw frame))) (Logic (suc frame) ∷ [])
  draws_and_logic_put n = let one : frame + 1 ≡ suc frame = omega arith in rw one (ap (add High (Logic (suc frame))) (draws_put n))

-- what comes after a frame
pub nothing_after : (frame frames : ℕ) → frames ≤ frame → logic_after frame frames ≡ []
nothing_after frame frames l = by_lt frame frames (λ b. (if b then (Logic (suc frame) ∷ []) else []) ≡ []) (λ m. absurd (omega arith)) (λ _. refl)

pub one_after : (frame frames : ℕ) → frame < frames → logic_after frame frames ≡ Logic (suc frame) ∷ []
one_after frame frames l = by_lt frame frames (λ b. (if b then (Logic (suc frame) ∷ []) else []) ≡ Logic (suc frame) ∷ []) (λ _. refl) (λ n. absurd (omega arith))
