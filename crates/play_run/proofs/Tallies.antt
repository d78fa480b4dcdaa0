-- The numbers of all workers, counted event by event.
use Rattle.std.proofs.Common.{◌≡◌, ℕ, ◌+◌, ◌<◌, ◌≤◌, ◌==◌, Bool, false, List, length, take, set, cond, get_or, ap, sym, ◌∙◌, subst, arith, inl, inr, length-set, length-take-le, get_or-set_same, get_or-set_other, true, ne_eqb, count_by}
use Rattle.std.specs.Prelude.{slice_index}
use Rattle.std.proofs.lemmas.Bool.{cases_eq}
use Rattle.std.proofs.lemmas.List.Sums.{sum_by_more, count_by-le-length}
use Rattle.job_core.specs.declared.names.Event.{Event}
use Rattle.play_run.specs.Reports.{AreCountsOf}

module _ (counts : ℕ → Event → Bool) (workers : ℕ) (events : List Event) (n : ℕ) (d : Event) (numbers : List ℕ) (within : n < length events) (are : AreCountsOf counts workers (take n events) numbers) where
  more : (w : ℕ) → count_by (counts w) (take (n + 1) events) ≡ count_by (counts w) (take n events) + cond (counts w (get_or events n d)) 1 0
  more w = sum_by_more (λ (e : Event). cond (counts w e) 1 0) events n d within

  pub passed_over : ((w : ℕ) → w < workers → counts w (get_or events n d) ≡ false) → AreCountsOf counts workers (take (n + 1) events) numbers
  passed_over others = (are.0, λ w low. are.1 w low ∙ omega arith ∙ sym (more w ∙ ap (λ (b : Bool). count_by (counts w) (take n events) + cond b 1 0) (others w low)))

  pub counted : (worker : ℕ) → worker < length numbers → ((w : ℕ) → counts w (get_or events n d) ≡ (worker == w))
      → AreCountsOf counts workers (take (n + 1) events) (set numbers worker (slice_index numbers worker + 1))
  counted worker low by = (length-set numbers worker (slice_index numbers worker + 1) ∙ are.0, each)
    where
      each : (w : ℕ) → w < workers → slice_index (set numbers worker (slice_index numbers worker + 1)) w ≡ count_by (counts w) (take (n + 1) events)
      each w below = elim (cases_eq worker w) [
        | inl same ↦
            let is : (worker == w) ≡ true = grind (arith, same) in
            subst (λ (k : ℕ). slice_index (set numbers worker (slice_index numbers worker + 1)) k ≡ slice_index numbers worker + 1) same
            (get_or-set_same numbers worker (slice_index numbers worker + 1) 0 low)
            ∙ ap (λ (k : ℕ). slice_index numbers k + 1) same ∙ ap (λ (k : ℕ). k + 1) (are.1 w below)
            ∙ sym (more w ∙ ap (λ (b : Bool). count_by (counts w) (take n events) + cond b 1 0) (by w ∙ is))
        | inr differ ↦
            get_or-set_other numbers worker w (slice_index numbers worker + 1) 0 (λ e. differ (sym e)) ∙ are.1 w below ∙ omega arith
            ∙ sym (more w ∙ ap (λ (b : Bool). count_by (counts w) (take n events) + cond b 1 0) (by w ∙ ne_eqb worker w differ))
      ]

  pub few : (worker : ℕ) → worker < length numbers → slice_index numbers worker ≤ n
  few worker low = omega (arith, are.1 worker (subst (λ (k : ℕ). worker < k) are.0 low), count_by-le-length (counts worker) (take n events), length-take-le n events (omega (arith, within)))
