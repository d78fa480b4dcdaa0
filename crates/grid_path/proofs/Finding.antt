-- What the search knows as it begins and as it ends.
use Rattle.std.proofs.Common.{◌≡◌, ℕ, zero, suc, ◌+◌, ◌-◌, ◌<◌, ◌≤◌, inl, Bool, true, false, not, ◌&&◌, refl, sym, subst, ◌∙◌, arith, ⊎_elim}
use Rattle.std.proofs.lemmas.Bool.{both_ways, cases_Bool, cases_lt, and_parts, and_from, not-true, not_from_false}
use Rattle.grid_world.specs.declared.cell.Dir.{Dir}
use Rattle.grid_world.specs.declared.cell.Dir.TheVariants.{North, East, South, West}
use Rattle.grid_world.specs.Way.{order}
use Rattle.grid_path.specs.Bordered.{IsNext}
use Rattle.grid_path.specs.Levels.{Reaches, Meets, Level, Nears, IsFirst}
use Rattle.grid_path.proofs.Visits.{all_met, near}

-- a cell that is in no outer row has a neighbour in each direction
pub neighbour : (s from : ℕ) → 1 ≤ s → s ≤ from → (d : Dir) → (j : ℕ) × IsNext s d from j
neighbour s from wide inner North = (from - s, omega (arith, inner))
neighbour s from wide inner East = (from + 1, refl)
neighbour s from wide inner South = (from + s, refl)
neighbour s from wide inner West = (from - 1, omega (arith, wide, inner))

module _ (open_at : ℕ → Bool) (s goal : ℕ) where
  -- level 0 has the goal alone
  pub first_level : (unmet : ℕ → Bool) (q queue : ℕ → ℕ) (met : ℕ) → open_at goal ≡ true
      → Meets (λ i. i ≡ goal) open_at unmet q queue 0 met → Level open_at s goal unmet queue 0 met 0
  first_level unmet q queue met there m = record {
    within = omega arith;
    open_only = λ i e. ⊎_elim (λ o. o) (λ o. absurd (both_ways (unmet i) (m.falls i o) e)) (cases_Bool (open_at i));
    lower = λ i n o low walk. m.all i (at_goal n i (omega (arith, low)) walk);
    level = λ l from to. let e = m.queued l from to in (e.1, e.0);
    rest = λ i o e. inl (m.only i o e).1;
  }
    where
      at_goal : (n i : ℕ) → n ≡ 0 → Reaches open_at s goal n i → i ≡ goal
      at_goal zero i e walk = walk
      at_goal (suc n) i e walk = absurd (omega (arith, e))

  -- where a level is empty, and each cell next to `from` with a walk is of that level or a later one, there is none
  pub no_way : (unmet : ℕ → Bool) (queue : ℕ → ℕ) (from met k : ℕ) → Level open_at s goal unmet queue met met k
      → ((d : Dir) (n : ℕ) → Nears open_at s goal from n d → k ≤ n) → (d : Dir) (n : ℕ) → Nears open_at s goal from n d → ⊥
  no_way unmet queue from met k v far d n (j, next, there, walk) =
      ⊎_elim
      (λ place. absurd (omega (arith, place.1, place.2)))
      (λ passed. let w = passed.walk in let least = far d w.0 (j, next, there, w.2) in absurd (omega (arith, w.1, least)))
      (v.rest j there (all_met open_at s goal v n j there walk))

  module _ (unmet : ℕ → Bool) (queue : ℕ → ℕ) (from : ℕ) (before now : Dir → Bool)
      (was : (d : Dir) (j : ℕ) → IsNext s d from j → before d ≡ open_at j)
      (is : (d : Dir) (j : ℕ) → IsNext s d from j → now d ≡ unmet j) where
    -- of a cell of level k, or a lower one, next to `from`, the search knows
    newly_met : (head met k : ℕ) → Level open_at s goal unmet queue head met k → (d : Dir) (n : ℕ) → n ≤ k → Nears open_at s goal from n d
        → (before d && not (now d)) ≡ true
    newly_met head met k v d n low (j, next, there, walk) =
        and_from (before d) (not (now d)) (was d j next ∙ there) (not_from_false (now d) (is d j next ∙ v.lower j n there low walk))

    -- where none is met newly, all are farther
    pub farther : (head met k : ℕ) → Level open_at s goal unmet queue head met k → ((d : Dir) → (before d && not (now d)) ≡ false)
        → (d : Dir) (n : ℕ) → Nears open_at s goal from n d → k + 1 ≤ n
    farther head met k v none d n nears =
        ⊎_elim
        (λ low. absurd (both_ways (before d && not (now d)) (none d) (newly_met head met k v d n (omega (arith, low)) nears)))
        (λ high. high)
        (cases_lt n (k + 1))

    -- where one is met newly, the first of them is the first on a shortest walk
    pub found : (head met k : ℕ) → Level open_at s goal unmet queue head met k
        → ((d : Dir) (n : ℕ) → Nears open_at s goal from n d → k ≤ n)
        → ((d : Dir) → (j : ℕ) × IsNext s d from j)
        → (d : Dir) → (before d && not (now d)) ≡ true → ((e : Dir) → order e < order d → (before e && not (now e)) ≡ false)
        → IsFirst open_at s goal from k d
    found head met k v far next d new first = record {
      nears = subst (λ (n : ℕ). Nears open_at s goal from n d) same (j.0, j.1, there, walk.2);
      first = λ e low nears. both_ways (before e && not (now e)) (first e low) (newly_met head met k v e k (omega arith) nears);
      least = far;
    }
      where
        j : (j : ℕ) × IsNext s d from j
        j = next d

        parts : (before d ≡ true) × (not (now d) ≡ true)
        parts = and_parts (before d) (not (now d)) new

        there : open_at j.0 ≡ true
        there = sym (was d j.0 j.1) ∙ parts.0

        walk : (n : ℕ) × (n ≤ k) × Reaches open_at s goal n j.0
        walk = near open_at s goal v j.0 there (sym (is d j.0 j.1) ∙ not-true (now d) parts.1)

        same : walk.0 ≡ k
        same = let least = far d walk.0 (j.0, j.1, there, walk.2) in omega (arith, walk.1, least)
