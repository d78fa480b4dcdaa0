-- Cells met one after another that were all looked at first.
use Rattle.std.proofs.Common.{◌≡◌, ℕ, ◌+◌, ◌-◌, ◌<◌, ◌≤◌, Bool, true, false, if◌then◌else◌, List, length, set, count_by, slice_index, refl, sym, ap, length-set, ◌∙◌, arith, inl, inr, get_or-set_same, get_or-set_other}
use Rattle.std.proofs.lemmas.Bool.{both_ways, cases_eq}
use Rattle.std.proofs.lemmas.List.Sums.{sum_by-set}
use Rattle.grid_world.specs.declared.cell.Dir.{Dir}
use Rattle.grid_world.specs.declared.cell.Dir.TheVariants.{North, East, South, West}
use Rattle.grid_path.specs.Bordered.{IsNext}
use Rattle.grid_path.specs.Levels.{at, Meets}
use Rattle.grid_path.proofs.Meeting.{meets_around}

counted_one : (unmet : List Bool) (cell : ℕ) (is_new : Bool) → is_new ≡ at unmet cell → cell < length unmet
    → count_by (λ c. c) (set unmet cell false) + (if is_new then 1 else 0) ≡ count_by (λ c. c) unmet
counted_one unmet cell is_new value within =
    rw value (omega (arith, sum_by-set (λ b. if b then 1 else 0) unmet cell false false within))

-- a cell is met, and queued if it was unmet
module _ (unmet : List Bool) (queue : List ℕ) (met cell : ℕ) (is_new : Bool)
    (value : is_new ≡ at unmet cell) (within : cell < length unmet) (room : met < length queue) where
  meets_one : Meets (λ i. i ≡ cell) (at unmet) (at (set unmet cell false)) (slice_index queue) (slice_index (set queue met cell)) met (met + (if is_new then 1 else 0))
  meets_one = record {
    grows = omega arith;
    keeps = λ l low. get_or-set_other queue met l cell 0 (λ e. omega (arith, e, low));
    falls = λ i e. elim (cases_eq i cell) [
      | inl same ↦ rw same (get_or-set_same unmet cell false false within)
      | inr other ↦ get_or-set_other unmet cell i false false other ∙ e
    ];
    all = λ i same. rw same (get_or-set_same unmet cell false false within);
    only = λ i was now. elim (cases_eq i cell) [
      | inl same ↦ (same, fresh i same was)
      | inr other ↦ absurd (both_ways (at unmet i) (sym (get_or-set_other unmet cell i false false other) ∙ now) was)
    ];
    queued = λ l from to. at_end is_new value l from to;
  }
    where
      fresh : (i : ℕ) → i ≡ cell → at unmet i ≡ true → (l : ℕ) × (met ≤ l) × (l < met + (if is_new then 1 else 0)) × (slice_index (set queue met cell) l ≡ i)
      fresh i same was =
          let new : is_new ≡ true = value ∙ rw (sym same) was in
          (met, omega arith, rw new (omega arith), get_or-set_same queue met cell 0 room ∙ sym same)

      at_end : (b : Bool) → b ≡ at unmet cell → (l : ℕ) → met ≤ l → l < met + (if b then 1 else 0)
          → (slice_index (set queue met cell) l ≡ cell) × (at unmet (slice_index (set queue met cell) l) ≡ true)
      at_end true e l from to =
          let here : l ≡ met = omega (arith, from, to) in
          let there : slice_index (set queue met cell) l ≡ cell = rw here (get_or-set_same queue met cell 0 room) in
          (there, rw there (sym e))
      at_end false e l from to = absurd (omega (arith, from, to))

-- the four cells around a cell, all looked at before the first of them is met
module _ (unmet : List Bool) (queue : List ℕ) (s cell met : ℕ) (wide : 2 ≤ s) (above : s ≤ cell) (below : cell + s < length unmet)
    (room : count_by (λ c. c) unmet + met < length queue) (new : Dir → Bool)
    (seen : (d : Dir) (j : ℕ) → IsNext s d cell j → new d ≡ at unmet j) where
  abbrev pub without1 : List Bool
  without1 = set unmet (cell - s) false

  abbrev pub without2 : List Bool
  without2 = set without1 (cell + 1) false

  abbrev pub without3 : List Bool
  without3 = set without2 (cell + s) false

  abbrev pub without4 : List Bool
  without4 = set without3 (cell - 1) false

  value1 : new North ≡ at unmet (cell - s)
  value1 = seen North (cell - s) (omega (arith, above))

  value2 : new East ≡ at without1 (cell + 1)
  value2 = seen East (cell + 1) refl
      ∙ sym (get_or-set_other unmet (cell - s) (cell + 1) false false (λ e. omega (arith, e)))

  value3 : new South ≡ at without2 (cell + s)
  value3 = seen South (cell + s) refl
      ∙ sym (get_or-set_other without1 (cell + 1) (cell + s) false false (λ e. omega (arith, e, wide))
      ∙ get_or-set_other unmet (cell - s) (cell + s) false false (λ e. omega (arith, e, wide)))

  value4 : new West ≡ at without3 (cell - 1)
  value4 = seen West (cell - 1) (omega (arith, wide, above))
      ∙ sym (get_or-set_other without2 (cell + s) (cell - 1) false false (λ e. omega (arith, e))
      ∙ get_or-set_other without1 (cell + 1) (cell - 1) false false (λ e. omega (arith, e))
      ∙ get_or-set_other unmet (cell - s) (cell - 1) false false (λ e. omega (arith, e, wide, above)))

  within1 : cell - s < length unmet
  within1 = omega (arith, below)

  within2 : cell + 1 < length without1
  within2 = omega (arith, below, wide, length-set unmet (cell - s) false)

  within3 : cell + s < length without2
  within3 = omega (arith, below, length-set unmet (cell - s) false, length-set without1 (cell + 1) false)

  within4 : cell - 1 < length without3
  within4 = omega (
    arith,
    below,
    length-set unmet (cell - s) false,
    length-set without1 (cell + 1) false,
    length-set without2 (cell + s) false,
  )

  counted1 : count_by (λ c. c) without1 + (if new North then 1 else 0) ≡ count_by (λ c. c) unmet
  counted1 = counted_one unmet (cell - s) (new North) value1 within1

  counted2 : count_by (λ c. c) without2 + (if new East then 1 else 0) ≡ count_by (λ c. c) without1
  counted2 = counted_one without1 (cell + 1) (new East) value2 within2

  counted3 : count_by (λ c. c) without3 + (if new South then 1 else 0) ≡ count_by (λ c. c) without2
  counted3 = counted_one without2 (cell + s) (new South) value3 within3

  counted4 : count_by (λ c. c) without4 + (if new West then 1 else 0) ≡ count_by (λ c. c) without3
  counted4 = counted_one without3 (cell - 1) (new West) value4 within4

  module _ (queue1 : List ℕ) (met1 : ℕ) (put1 : queue1 ≡ set queue met (cell - s)) (end1 : met1 ≡ met + (if new North then 1 else 0)) where
    long1 : length queue1 ≡ length queue
    long1 = ap length put1 ∙ length-set queue met (cell - s)

    pub room1 : met1 < length queue1
    room1 = omega (arith, room, end1, counted1, long1)

    module _ (queue2 : List ℕ) (met2 : ℕ) (put2 : queue2 ≡ set queue1 met1 (cell + 1)) (end2 : met2 ≡ met1 + (if new East then 1 else 0)) where
      long2 : length queue2 ≡ length queue
      long2 = ap length put2 ∙ length-set queue1 met1 (cell + 1) ∙ long1

      pub room2 : met2 < length queue2
      room2 = omega (arith, room, end1, counted1, end2, counted2, long2)

      module _ (queue3 : List ℕ) (met3 : ℕ) (put3 : queue3 ≡ set queue2 met2 (cell + s)) (end3 : met3 ≡ met2 + (if new South then 1 else 0)) where
        long3 : length queue3 ≡ length queue
        long3 = ap length put3 ∙ length-set queue2 met2 (cell + s) ∙ long2

        pub room3 : met3 < length queue3
        room3 = omega (arith, room, end1, counted1, end2, counted2, end3, counted3, long3)

        module _ (queue4 : List ℕ) (met4 : ℕ) (put4 : queue4 ≡ set queue3 met3 (cell - 1)) (end4 : met4 ≡ met3 + (if new West then 1 else 0)) where
          pub counted_round : count_by (λ c. c) without4 + met4 ≡ count_by (λ c. c) unmet + met
          counted_round = omega (arith, end1, counted1, end2, counted2, end3, counted3, end4, counted4)

          pub meets_round : Meets (λ i. (d : Dir) × IsNext s d i cell) (at unmet) (at without4) (slice_index queue) (slice_index queue4) met met4
          meets_round =
              meets_around s cell (cell - s) (cell + 1) (cell + s) (cell - 1) (omega (arith, above)) refl refl (omega (arith, wide, above))
              (at unmet) (at without1) (at without2) (at without3) (at without4)
              (slice_index queue) (slice_index queue1) (slice_index queue2) (slice_index queue3) (slice_index queue4) met met1 met2 met3 met4
              (rw (put1, end1) (meets_one unmet queue met (cell - s) (new North) value1 within1 (omega (arith, room))))
              (rw (put2, end2) (meets_one without1 queue1 met1 (cell + 1) (new East) value2 within2 room1))
              (rw (put3, end3) (meets_one without2 queue2 met2 (cell + s) (new South) value3 within3 room2))
              (rw (put4, end4) (meets_one without3 queue3 met3 (cell - 1) (new West) value4 within4 room3))
