-- Rows that agents are drawn on, one after another.
use Rattle.std.proofs.Common.{◌&&◌, ◌≡◌, ◌≢◌, ℕ, zero, suc, ◌+◌, ◌-◌, ◌*◌, ◌<◌, ◌≤◌, ◌==◌, Bool, true, false, List, [], ◌∷◌, ◌++◌, Option, Some, None, position, cond, not, nat_lt, length, get_or, take, set, map, refl, sym, subst, ap, ap₂, ◌∙◌, arith, inl, inr, eq-eqb, ne_eqb, get_or-set_same, get_or-set_other}
use Rattle.std.specs.Bool.{MatchBool}
use Rattle.std.specs.List.{position_or_len}
use Rattle.std.specs.Ordering.{is_le, is_lt, nat_cmp}
use Rattle.std.proofs.lemmas.Bool.{cases_eq}
use Rattle.std.proofs.lemmas.Bool.Decides.{nat_tests}
use Rattle.std.proofs.lemmas.Grind.{same_number_lists}
use Rattle.std.proofs.lemmas.List.{get_or-take, length-append, length-set, length-take-le, set-append_left, set-append_right, take_more}
use Rattle.std.proofs.lemmas.List.Folds.{position_or_len_push}
use Rattle.std.proofs.lemmas.List.Sums.{position_or_len_is, prefix_len-le-length}
use Rattle.grid_world.specs.declared.cell.Agent.{Agent}
use Rattle.grid_world.specs.declared.cell.Cell.{Cell}
use Rattle.grid_world.specs.declared.cell.Cell.TheVariants.{Wall, Floor, Door, Spot}
use Rattle.grid_world.specs.Grid.{Grid, Point, cell_at, has_item, point_of, same_point}
use Rattle.grid_world.specs.Glyphs.{base_glyph, content_glyph, glyph, glyph_of}
use Rattle.grid_world.specs.Map.{count_up}
use Rattle.grid_world.specs.Rows.{line, lines}
use Rattle.grid_world.specs.World.{point, row_glyphs, IsStanding, IsWorld}
use Rattle.grid_world.proofs.CountUp.{get_or-map-count_up, length-map-count_up}
use Rattle.grid_world.proofs.Drawn.{row_within, with_crew}
use Rattle.grid_world.proofs.Lined.{length-line, length-lines, length-row_glyphs, lines-next, lines-none, map-each}

-- the first agent that passes a test, where one more comes
module _ (test : Agent → Bool) (crew : List Agent) (agent : Agent) where
  position-passed_over : test agent ≡ false → position test (crew ++ agent ∷ []) ≡ position test crew
  position-passed_over fails =
      let most : position_or_len test crew ≤ length crew = prefix_len-le-length (λ a. not (test a)) crew in
      let pushed : position_or_len test (crew ++ agent ∷ [])
      ≡ cond (position_or_len test crew == length crew) (length crew + 1) (position_or_len test crew) =
      position_or_len_push test crew agent
      ∙ ap (λ b. cond (position_or_len test crew == length crew) (length crew + cond b 0 1) (position_or_len test crew)) fails in
      by_place (position_or_len test crew) (position_or_len test (crew ++ agent ∷ [])) (length crew) (length (crew ++ agent ∷ []))
      most (length-append crew (agent ∷ [])) pushed
    where
      by_place : (p q m n : ℕ) → p ≤ m → n ≡ m + 1 → q ≡ cond (p == m) (m + 1) p
          → cond (nat_lt q n) (Some q) None ≡ cond (nat_lt p m) (Some p) None
      by_place p q m n most more is = grind (arith, nat_tests)

  position-last : (d : Agent) → ((k : ℕ) → k < length crew → test (get_or crew k d) ≡ false) → test agent ≡ true
      → position test (crew ++ agent ∷ []) ≡ Some (length crew)
  position-last d none passes =
      let past : position_or_len test crew ≡ length crew =
      position_or_len_is test crew (length crew) d (omega arith) none (λ h. absurd (omega (arith, h))) in
      let at : position_or_len test (crew ++ agent ∷ []) ≡ length crew + 0 =
      position_or_len_push test crew agent
      ∙ ap₂ (λ b t. cond b (length crew + cond t 0 1) (position_or_len test crew)) (eq-eqb (position_or_len test crew) (length crew) past) passes in
      by_place (position_or_len test (crew ++ agent ∷ [])) (length crew) (length (crew ++ agent ∷ []))
      (omega (arith, at)) (length-append crew (agent ∷ []))
    where
      by_place : (q m n : ℕ) → q ≡ m → n ≡ m + 1 → cond (nat_lt q n) (Some q) None ≡ Some m
      by_place q m n at more = grind (arith, nat_tests)

-- the rows of a world with some agents, and with one more
module _ (g : Grid) (on : List Bool) (crew : List Agent) (agent : Agent) where
  abbrev fewer : Grid
  fewer = with_crew g crew

  abbrev more : Grid
  more = with_crew g (crew ++ agent ∷ [])

  abbrev drawn_as : Point → Option ℕ → ℕ
  drawn_as p stands = glyph_of (cell_at g p) (content_glyph stands (has_item g p) (base_glyph on (cell_at g p)))

  row_glyphs-elsewhere : (y : ℕ) → agent.y ≢ y → row_glyphs more on y ≡ row_glyphs fewer on y
  row_glyphs-elsewhere y away = map-each (λ x. glyph more on (point x y)) (λ x. glyph fewer on (point x y))
      (λ x. ap (drawn_as (point x y)) (position-passed_over (λ a. same_point (point_of a) (point x y)) crew agent (off (agent.x == x))))
      (count_up 0 g.width)
    where
      off : (b : Bool) → (b && (agent.y == y)) ≡ false
      off true = ne_eqb agent.y y away
      off false = refl

  lines-elsewhere : (first n : ℕ) → ((y : ℕ) → first ≤ y → y < first + n → agent.y ≢ y)
      → lines more on first n ≡ lines fewer on first n
  lines-elsewhere first zero away = lines-none more on first ∙ sym (lines-none fewer on first)
  lines-elsewhere first (suc n) away =
      lines-next more on first n
      ∙ ap₂ (λ row below. (row ++ 10 ∷ []) ++ below) (row_glyphs-elsewhere first (away first (omega arith) (omega arith)))
      (lines-elsewhere (first + 1) n (λ y low high. away y (omega arith) (omega arith)))
      ∙ sym (lines-next fewer on first n)

  -- the agent stands on the map, and nobody before it stands there
  module _ (d : Agent) (column : agent.x < g.width) (no_wall : cell_at g (point_of agent) ≢ Wall)
      (alone : (k : ℕ) → k < length crew → same_point (point_of (get_or crew k d)) (point_of agent) ≡ false) where
    glyph-here : glyph more on (point_of agent) ≡ 65 + length crew
    glyph-here =
        let here : same_point (point_of agent) (point_of agent) ≡ true =
        rw (eq-eqb agent.x agent.x refl, eq-eqb agent.y agent.y refl) refl in
        ap (drawn_as (point_of agent)) (position-last (λ a. same_point (point_of a) (point_of agent)) crew agent d alone here)
        ∙ off_walls (cell_at g (point_of agent)) (65 + length crew) no_wall
      where
        off_walls : (cell : Cell) (content : ℕ) → cell ≢ Wall → glyph_of cell content ≡ content
        off_walls Wall content no_wall = absurd (no_wall refl)
        off_walls Floor content no_wall = refl
        off_walls (Door a) content no_wall = refl
        off_walls (Spot p) content no_wall = refl

    row_glyphs-here : set (row_glyphs fewer on agent.y) agent.x (65 + length crew) ≡ row_glyphs more on agent.y
    row_glyphs-here =
        let before : ℕ → ℕ = λ x. glyph fewer on (point x agent.y) in
        let after : ℕ → ℕ = λ x. glyph more on (point x agent.y) in
        let row = map before (count_up 0 g.width) in
        let written = set row agent.x (65 + length crew) in
        let long = length-set row agent.x (65 + length crew) in
        let wide = length-map-count_up before 0 g.width in
        same_number_lists written (map after (count_up 0 g.width))
        (long ∙ wide ∙ sym (length-map-count_up after 0 g.width))
        (λ k within. let inside : k < g.width = omega (arith, long, wide) in
        let zero_more : 0 + k ≡ k = omega arith in
        let shown : get_or (map after (count_up 0 g.width)) k 0 ≡ after k =
        get_or-map-count_up after 0 g.width k 0 inside ∙ ap after zero_more in
        elim (cases_eq k agent.x) [
          | inl same ↦ ap (λ i. get_or written i 0) same ∙ get_or-set_same row agent.x (65 + length crew) 0 (omega (arith, wide))
              ∙ sym (shown ∙ ap after same ∙ glyph-here)
          | inr other ↦ get_or-set_other row agent.x k (65 + length crew) 0 other
              ∙ get_or-map-count_up before 0 g.width k 0 inside ∙ ap before zero_more
              ∙ sym (shown ∙ ap (drawn_as (point k agent.y))
              (position-passed_over (λ a. same_point (point_of a) (point k agent.y)) crew agent
              (ap (λ b. b && (agent.y == agent.y)) (ne_eqb agent.x k (λ e. other (sym e))))))
        ])

    lines-here : (first n k : ℕ) → first + k ≡ agent.y → k < n
        → set (lines fewer on first n) (k * (g.width + 1) + agent.x) (65 + length crew) ≡ lines more on first n
    lines-here first zero k at within = absurd (omega arith)
    lines-here first (suc n) zero at within =
        let letter = 65 + length crew in
        let row = row_glyphs fewer on first in
        let below = lines fewer on (first + 1) n in
        let place : zero * (g.width + 1) + agent.x ≡ agent.x = omega arith in
        let here : agent.y ≡ first = omega (arith, at) in
        ap₂ (λ l i. set l i letter) (lines-next fewer on first n) place
        ∙ set-append_left (row ++ 10 ∷ []) below agent.x letter (omega (arith, column, length-line fewer on first))
        ∙ ap (λ l. l ++ below) (set-append_left row (10 ∷ []) agent.x letter (omega (arith, column, length-row_glyphs fewer on first)))
        ∙ ap₂ (λ row below. (row ++ 10 ∷ []) ++ below)
        (subst (λ (y : ℕ). set (row_glyphs fewer on y) agent.x letter ≡ row_glyphs more on y) here row_glyphs-here)
        (sym (lines-elsewhere (first + 1) n (λ y low high e. omega (arith, e, here))))
        ∙ sym (lines-next more on first n)
    lines-here first (suc n) (suc k) at within =
        let letter = 65 + length crew in
        let stride = g.width + 1 in
        let place : (suc k * stride + agent.x) - stride ≡ k * stride + agent.x = grind arith in
        let past : stride ≤ suc k * stride + agent.x = grind arith in
        ap (λ l. set l (suc k * stride + agent.x) letter) (lines-next fewer on first n)
        ∙ set-append_right (line fewer on first) (lines fewer on (first + 1) n) stride (suc k * stride + agent.x) letter
        (length-line fewer on first) past
        ∙ ap₂ (λ row i. (row ++ 10 ∷ []) ++ set (lines fewer on (first + 1) n) i letter)
        (sym (row_glyphs-elsewhere first (λ e. omega (arith, e, at)))) place
        ∙ ap (λ l. line more on first ++ l) (lines-here (first + 1) n k (omega (arith, at)) (omega arith))
        ∙ sym (lines-next more on first n)

-- what the test of a range of rows tells
range_tells : (low high y : ℕ) (b : Bool) → b ≡ (is_le (nat_cmp low y) && is_lt (nat_cmp y high))
    → MatchBool b ((low ≤ y) × (y < high)) (low ≤ y → y < high → ⊥)
range_tells low high y true told = (grind (arith, nat_tests), grind (arith, nat_tests))
range_tells low high y false told = λ from below. grind (arith, nat_tests)

-- the rows of a world where its first agents are drawn, and the next one, for numbers and lists as code has them
module _ (g : Grid) (world : IsWorld g) (on : List Bool) (first count : ℕ) (wide : ℕ) (across : wide ≡ g.width)
    (agents : List Agent) (same : agents ≡ g.agents) (n : ℕ) (within : n < length agents) (d : Agent) where
  abbrev agent : Agent
  agent = get_or agents n d

  abbrev drawn : ℕ → List ℕ
  drawn k = lines (with_crew g (take k g.agents)) on first count

  abbrev is_shown : Bool
  is_shown = is_le (nat_cmp first agent.y) && is_lt (nat_cmp agent.y (first + count))

  found : agent ≡ get_or g.agents n d
  found = ap (λ l. get_or l n d) same

  known : n < length g.agents
  known = subst (λ l. n < length l) same within

  stands : IsStanding g agent
  stands = subst (IsStanding g) (sym found) (world.standing n d known)

  one_more : drawn (n + 1) ≡ lines (with_crew g (take n g.agents ++ agent ∷ [])) on first count
  one_more = ap (λ crew. lines (with_crew g crew) on first count)
      (take_more g.agents n d known ∙ ap (λ a. take n g.agents ++ a ∷ []) (sym found))

  module _ (rows : List ℕ) (so_far : rows ≡ drawn n) where
    pub drawn-elsewhere : false ≡ is_shown → rows ≡ drawn (n + 1)
    drawn-elsewhere outside =
        let away = range_tells first (first + count) agent.y false outside in
        so_far ∙ sym (one_more ∙ lines-elsewhere g on (take n g.agents) agent first count
        (λ y low high e. away (omega (arith, low, e)) (omega (arith, high, e))))

    pub letter_within : true ≡ is_shown → (agent.y - first) * (wide + 1) + agent.x < length rows
    letter_within shown =
        let inside = range_tells first (first + count) agent.y true shown in
        let row = row_within (g.width + 1) count (agent.y - first) (omega (arith, inside.0, inside.1)) in
        let all = ap length so_far ∙ length-lines (with_crew g (take n g.agents)) on first count in
        rw across (omega (arith, row, stands.column, all))

    pub drawn-here : true ≡ is_shown → set rows ((agent.y - first) * (wide + 1) + agent.x) (65 + n) ≡ drawn (n + 1)
    drawn-here shown =
        let inside = range_tells first (first + count) agent.y true shown in
        let long : length (take n g.agents) ≡ n = length-take-le n g.agents (omega (arith, known)) in
        ap₂ (λ l w. set l ((agent.y - first) * (w + 1) + agent.x) (65 + n)) so_far across
        ∙ ap (λ k. set (drawn n) ((agent.y - first) * (g.width + 1) + agent.x) (65 + k)) (sym long)
        ∙ lines-here g on (take n g.agents) agent d stands.column stands.no_wall
        (λ k before. let earlier : k < n = omega (arith, before, long) in
        ap₂ (λ a b. same_point (point_of a) (point_of b)) (get_or-take n g.agents k d earlier) found
        ∙ world.apart k n d earlier known)
        first count (agent.y - first) (omega (arith, inside.0)) (omega (arith, inside.0, inside.1))
        ∙ sym one_more
