-- Marks of cells, level by level.
use Rattle.std.proofs.Common.{◌*◌, take, drop, ◌++◌, ◌≡◌, ◌≢◌, ℕ, zero, suc, ◌+◌, ◌<◌, ◌≤◌, inl, inr, Bool, true, false, List, length, set, refl, sym, ap, subst, ◌∙◌, arith, ⊎_elim, get_or-set_same, get_or-set_other}
use Rattle.std.specs.Prelude.{slice_index, Some}
use Rattle.std.proofs.Math.Seq.{take-append_seam}
use Rattle.std.proofs.lemmas.Bool.{both_ways, cases_Bool, cases_eq, cases_lt}
use Rattle.grid_world.specs.declared.cell.Dir.{Dir}
use Rattle.grid_world.specs.Way.{order}
use Rattle.grid_world.specs.declared.cell.Answer.{Answer}
use Rattle.grid_world.specs.Grid.{Grid, Point, place_of}
use Rattle.grid_world.specs.Way.{way}
use Rattle.grid_world.specs.World.{IsSized}
use Rattle.grid_path.specs.Bordered.{IsNext, IsTable, stride_of, number_of}
use Rattle.grid_path.specs.Levels.{at, Reaches, IsBeside, Meets, Nears, IsFirst, IsFound}
use Rattle.grid_path.specs.Distances.{IsMark, IsMeasured, AreDistances, IsSoFar, Measuring, IsLeast}
use Rattle.grid_path.proofs.Asked.{asked_way}
use Rattle.grid_path.proofs.Cells.{IsIn, inner_number}
use Rattle.grid_path.proofs.Visits.{next_level, all_met}
use Rattle.grid_path.proofs.Finding.{first_level, neighbour}

module _ (open_at : ℕ → Bool) (s goal : ℕ) where
  pub first_measuring : (unmet : ℕ → Bool) (q queue mark : ℕ → ℕ) (met : ℕ) → open_at goal ≡ true
      → Meets (λ i. i ≡ goal) open_at unmet q queue 0 met → ((i : ℕ) → mark i ≡ 0) → Measuring open_at s goal unmet queue mark 0 met 0
  first_measuring unmet q queue mark met there m bare = record {
    level = first_level open_at s goal unmet q queue met there m;
    fresh = λ l n from to walk. omega arith;
    unmarked = λ l from to. bare (queue l);
    so_far = λ i. subst (λ (x : ℕ). IsSoFar open_at s goal unmet queue 0 met i x) (sym (bare i)) (here i);
  }
    where
      here : (i : ℕ) → IsSoFar open_at s goal unmet queue 0 met i 0
      here i o = ⊎_elim (λ u. inl u) (λ gone. inr (m.only i o gone).1) (cases_Bool (unmet i))

  module _ (unmet unmet' : ℕ → Bool) (queue queue' mark mark' : ℕ → ℕ) (head met met' k : ℕ)
      (v : Measuring open_at s goal unmet queue mark head met k)
      (m : Meets (IsBeside s queue head met) unmet unmet' queue queue' met met')
      (marked : (l : ℕ) → head ≤ l → l < met → mark' (queue l) ≡ suc k)
      (kept : (i : ℕ) → ((l : ℕ) → head ≤ l → l < met → queue l ≢ i) → mark' i ≡ mark i) where
    level_met : (l : ℕ) → head ≤ l → l < met → unmet (queue l) ≡ false
    level_met l from to = let c = v.level.level l from to in v.level.lower (queue l) k c.0 (omega arith) c.1

    -- what is not met stands in no level
    unmet_out : (i : ℕ) → unmet i ≡ true → mark' i ≡ mark i
    unmet_out i there = kept i (λ l from to e. both_ways (unmet i) (ap unmet (sym e) ∙ level_met l from to) there)

    zero_of : (i x : ℕ) → IsSoFar open_at s goal unmet queue head met i x → unmet i ≡ true → x ≡ 0
    zero_of i zero f there = refl
    zero_of i (suc n) f there = absurd (both_ways (unmet i) f.1 there)

    go : (i x : ℕ) → mark i ≡ x → IsSoFar open_at s goal unmet queue head met i x → IsSoFar open_at s goal unmet' queue' met met' i (mark' i)
    go i (suc n) e (o, gone, walk, least) =
        let out : mark' i ≡ mark i = kept i (λ l from to q. (let bare = v.unmarked l from to in let same = ap mark q in absurd (omega (arith, bare, same, e)))) in
        subst (λ (x : ℕ). IsSoFar open_at s goal unmet' queue' met met' i x) (sym (out ∙ e)) (o, m.falls i gone, walk, least)
    go i zero e f = ⊎_elim is_open is_shut (cases_Bool (open_at i))
      where
        is_shut : open_at i ≡ false → IsSoFar open_at s goal unmet' queue' met met' i (mark' i)
        is_shut shut =
            let out : mark' i ≡ mark i = kept i (λ l from to q. both_ways (open_at i) shut (ap open_at (sym q) ∙ (v.level.level l from to).0)) in
            subst (λ (x : ℕ). IsSoFar open_at s goal unmet' queue' met met' i x) (sym (out ∙ e)) (λ o. absurd (both_ways (open_at i) shut o))

        is_open : open_at i ≡ true → IsSoFar open_at s goal unmet' queue' met met' i (mark' i)
        is_open o = ⊎_elim outside inside (f o)
          where
            outside : unmet i ≡ true → IsSoFar open_at s goal unmet' queue' met met' i (mark' i)
            outside there =
                subst (λ (x : ℕ). IsSoFar open_at s goal unmet' queue' met met' i x) (sym (unmet_out i there ∙ e))
                (λ _. ⊎_elim (λ u. inl u) (λ gone. inr (m.only i there gone).1) (cases_Bool (unmet' i)))

            inside : (l : ℕ) × (head ≤ l) × (l < met) × (queue l ≡ i) → IsSoFar open_at s goal unmet' queue' met met' i (mark' i)
            inside (l, from, to, q) =
                let c = v.level.level l from to in
                subst (λ (x : ℕ). IsSoFar open_at s goal unmet' queue' met met' i x) (sym (ap mark' (sym q) ∙ marked l from to)) (
                  o,
                  m.falls i (ap unmet (sym q) ∙ level_met l from to),
                  subst (λ (j : ℕ). Reaches open_at s goal k j) q c.1,
                  λ n walk. v.fresh l n from to (subst (λ (j : ℕ). Reaches open_at s goal n j) (sym q) walk),
                )

    pub next_measuring : Measuring open_at s goal unmet' queue' mark' met met' (k + 1)
    next_measuring = record {
      level = next_level open_at s goal v.level m;
      fresh = λ l n from to walk.
          let q = m.queued l from to in
          ⊎_elim
          (λ low. absurd (both_ways (unmet (queue' l)) (v.level.lower (queue' l) n (v.level.open_only (queue' l) q.1) (omega (arith, low)) walk) q.1))
          (λ high. high)
          (cases_lt n (k + 1));
      unmarked = λ l from to.
          let q = m.queued l from to in
          unmet_out (queue' l) q.1 ∙ zero_of (queue' l) (mark (queue' l)) (v.so_far (queue' l)) q.1;
      so_far = λ i. go i (mark i) refl (v.so_far i);
    }

  -- where a level is empty, all are marked
  pub measured : (unmet : ℕ → Bool) (queue mark : ℕ → ℕ) (met k : ℕ) → Measuring open_at s goal unmet queue mark met met k → IsMeasured open_at s goal mark
  measured unmet queue mark met k v i = last (mark i) (v.so_far i)
    where
      last : (x : ℕ) → IsSoFar open_at s goal unmet queue met met i x → IsMark open_at s goal i x
      last zero f = λ o n walk.
          ⊎_elim (λ there. both_ways (unmet i) (all_met open_at s goal v.level n i o walk) there)
          (λ place. absurd (omega (arith, place.1, place.2))) (f o)
      last (suc n) f = (f.0, f.2, f.3)

-- the first direction whose mark is the least one
pub found_least : (open_at : ℕ → Bool) (s goal from : ℕ) (mark : ℕ → ℕ) (side : Dir → ℕ) (least : ℕ) (dir : Dir) (steps : ℕ)
    → steps ≡ least → least ≢ 0 → ((d : Dir) (j : ℕ) → IsNext s d from j → side d ≡ mark j) → IsLeast side least
    → side dir ≡ least → ((e : Dir) → order e < order dir → side e ≢ least) → (1 ≤ s) × (s ≤ from)
    → IsMeasured open_at s goal mark → (k : ℕ) × (steps ≡ k + 1) × IsFirst open_at s goal from k dir
found_least open_at s goal from mark side least dir steps e some sides low has first inner is = go least refl
  where
    at_side : (d : Dir) (n : ℕ) → Nears open_at s goal from n d → (side d ≢ 0) × (side d ≤ suc n)
    at_side d n (j, next, there, walk) = of_mark (mark j) refl (is j)
      where
        of_mark : (x : ℕ) → mark j ≡ x → IsMark open_at s goal j x → (side d ≢ 0) × (side d ≤ suc n)
        of_mark zero bare f = absurd (f there n walk)
        of_mark (suc m) same f =
            let side_is : side d ≡ suc m = sides d j next ∙ same in
            let below : m ≤ n = f.2 n walk in
            ((λ none. omega (arith, none, side_is)), omega (arith, side_is, below))

    go : (x : ℕ) → least ≡ x → (k : ℕ) × (steps ≡ k + 1) × IsFirst open_at s goal from k dir
    go zero none = absurd (some none)
    go (suc k) is_suc = (
      k,
      omega (arith, e, is_suc),
      record {
        nears = here;
        first = λ d before nears. (let far = at_side d k nears in let above = low.low d far.0 in first d before (omega (arith, far.1, above, is_suc)));
        least = λ d n nears. (let far = at_side d n nears in let above = low.low d far.0 in omega (arith, far.1, above, is_suc));
      },
    )
      where
        j : (j : ℕ) × IsNext s dir from j
        j = neighbour s from inner.0 inner.1 dir

        here : Nears open_at s goal from k dir
        here = of_mark (mark j.0) refl (is j.0)
          where
            of_mark : (x : ℕ) → mark j.0 ≡ x → IsMark open_at s goal j.0 x → Nears open_at s goal from k dir
            of_mark zero bare f = let a = sides dir j.0 j.1 in absurd (omega (arith, a, bare, has, is_suc))
            of_mark (suc m) same f =
                let a = sides dir j.0 j.1 in
                let as_far : m ≡ k = omega (arith, a, same, has, is_suc) in
                (j.0, j.1, f.0, subst (λ (n : ℕ). Reaches open_at s goal n j.0) as_far f.1)

-- one cell more is marked
pub one_marked : (marks queue : List ℕ) (head l mark : ℕ) → slice_index queue l < length marks
    → ((j : ℕ) → head ≤ j → j < l → slice_index marks (slice_index queue j) ≡ mark)
    → (j : ℕ) → head ≤ j → j < l + 1 → slice_index (set marks (slice_index queue l) mark) (slice_index queue j) ≡ mark
one_marked marks queue head l mark within old j from to = elim (cases_eq (slice_index queue j) (slice_index queue l)) [
  | inl same ↦ rw same (get_or-set_same marks (slice_index queue l) mark 0 within)
  | inr other ↦ get_or-set_other marks (slice_index queue l) (slice_index queue j) mark 0 other
      ∙ ⊎_elim (λ low. old j from low) (λ high. (let same : j ≡ l = omega (arith, high, to) in absurd (other (ap (slice_index queue) same)))) (cases_lt j l)
]

pub others_kept : (marks first queue : List ℕ) (head l mark : ℕ)
    → ((i : ℕ) → ((j : ℕ) → head ≤ j → j < l → slice_index queue j ≢ i) → slice_index marks i ≡ slice_index first i)
    → head ≤ l → (i : ℕ) → ((j : ℕ) → head ≤ j → j < l + 1 → slice_index queue j ≢ i)
    → slice_index (set marks (slice_index queue l) mark) i ≡ slice_index first i
others_kept marks first queue head l mark old low i out =
    get_or-set_other marks (slice_index queue l) i mark 0 (λ e. out l low (omega arith) (sym e))
    ∙ old i (λ j from to. out j from (omega (arith, to)))

-- what stands in a vector when all of it was written through a slice
pub written : {A : Type 0} (n : ℕ) (now old : List A) → length now ≡ n → take n (now ++ drop (length now) old) ≡ now
written n now old long = subst (λ (k : ℕ). take k (now ++ drop (length now) old) ≡ now) long (take-append_seam now (drop (length now) old))

-- what the search marks are the distances
pub are_distances : (g : Grid) (on : List Bool) (place : ℕ) (t u : List Bool) (goal : Point) (width j : ℕ) (marks : List ℕ)
    → IsTable g on t → u ≡ t → width ≡ g.width → j ≡ number_of g goal → place_of g place ≡ Some goal → length marks ≡ length t
    → IsMeasured (at u) (width + 2) j (slice_index marks) → AreDistances g on place marks
are_distances g on place t u goal width j marks is e wide number found long m = record {
  goal = goal;
  goal_is = found;
  table = t;
  table_is = is;
  long = long;
  measured = subst (λ (i : ℕ). IsMeasured (at t) (stride_of g) i (slice_index marks)) number
      (subst (λ (w : ℕ). IsMeasured (at t) (w + 2) j (slice_index marks)) wide
      (subst (λ (xs : List Bool). IsMeasured (at xs) (width + 2) j (slice_index marks)) e m));
}

-- a cell of the map and those around it have marks
pub in_marks : (g : Grid) (p : Point) (width i long : ℕ) → width ≡ g.width → i ≡ number_of g p → p.x < g.width → p.y < g.height
    → long ≡ (g.height + 2) * (g.width + 2) → i + (width + 2) < long
in_marks g p width i long wide number column row all =
    let inner = inner_number (g.width + 2) (suc p.y) (suc p.x) i g.height long (sym number) (omega arith) (omega (arith, row)) (omega (arith, column)) all in
    omega (arith, inner.1, wide)

-- what is read off the distances is the way
pub marks_way : (g : Grid) (on : List Bool) (a b : Point) (place : ℕ) (marks read : List ℕ) (width i : ℕ) (r : Answer) → IsSized g
    → AreDistances g on place marks → marks ≡ read → width ≡ g.width → i ≡ number_of g a → IsIn g a → place_of g place ≡ Some b → a ≢ b
    → ((open_at : ℕ → Bool) (goal : ℕ) → IsMeasured open_at (width + 2) goal (slice_index read) → IsFound open_at (width + 2) goal i r)
    → r ≡ way g on a place
marks_way g on a b place marks read width i r sized are same wide number in_a found apart finds =
    asked_way g on are.table are.table a are.goal width i (number_of g are.goal) place r sized are.table_is refl wide number refl in_a are.goal_is
    (λ e. (let one : are.goal ≡ b = cc (sym are.goal_is ∙ found) in apart (e ∙ one)))
    (finds (at are.table) (number_of g are.goal)
    (subst (λ (xs : List ℕ). IsMeasured (at are.table) (width + 2) (number_of g are.goal) (slice_index xs)) same
    (subst (λ (w : ℕ). IsMeasured (at are.table) (w + 2) (number_of g are.goal) (slice_index marks)) (sym wide) are.measured)))
