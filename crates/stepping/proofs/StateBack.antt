-- The lines of all agents, those of the items, and the whole text of a state are read as they were written.
use Rattle.std.proofs.Common.{◌≡◌, ◌∙◌, ◌<◌, ◌≤◌, ℕ, zero, suc, ◌+◌, ◌-◌, ◌*◌, ◌^◌, Bool, true, false, if◌then◌else◌, List, [], ◌∷◌, ◌++◌, length, take, drop, replicate, get_or, refl, sym, ap, subst, arith, append_assoc, append-nil, Ok, codes, decimal, ⊎_elim}
use Rattle.std.specs.Prelude.{slice_set, All, nat_lt, slice_get, option_to_list}
use Rattle.std.specs.List.{flat_map}
use Rattle.std.proofs.lemmas.Bool.{cases_lt}
use Rattle.std.proofs.lemmas.Nat.{mul-le}
use Rattle.std.proofs.lemmas.List.{take_more, take_all, drop_all, length-take-le}
use Rattle.std.proofs.lemmas.Option.{slice_get-get_or, slice_get_past}
use Rattle.grid_world.specs.declared.cell.Agent.{Agent}
use Rattle.grid_world.specs.Grid.{Grid, agent_of, has_item}
use Rattle.grid_world.specs.Map.{count_up}
use Rattle.grid_world.specs.World.{point}
use Rattle.bt_nodes.specs.declared.node.Status.{Status}
use Rattle.bt_nodes.specs.declared.node.Status.TheVariants.{Success}
use Rattle.game_rules.specs.Play.{Position}
use Rattle.draw_list.proofs.Counting.{count_up-zero, count_up-suc}
use Rattle.stepping.specs.StateText.{line_of, agent_lines, item_line, item_lines}
use Rattle.stepping.specs.StateReading.{◌>>=◌, LineTold, CrewTold, no_crew, with_line, crew_from, item_at, items_from}
use Rattle.stepping.proofs.ReadOn.{crew_none, crew_more, items_none, items_suc}
use Rattle.stepping.proofs.ReadBack.{behind_again, point_again, line_again, set_seam}

-- ---- agents

take_answers : (sts : List Status) (k : ℕ) → take (k + 1) sts ≡ take k sts ++ option_to_list (slice_get sts k)
take_answers sts k =
    ⊎_elim
    (λ inside. take_more sts k Success inside ∙ ap (λ o. take k sts ++ option_to_list o) (sym (slice_get-get_or sts k Success inside)))
    (λ over.
    take_all (k + 1) sts (omega (arith, over)) ∙ sym (take_all k sts over) ∙ sym (append-nil (take k sts)) ∙ ap (λ o. take k sts ++ option_to_list o) (sym (slice_get_past sts k over)))
    (cases_lt k (length sts))

-- what is written of a crew can be read
pub record IsCrew (at : Position) (sizes : List ℕ) : Type 0 where
  pub one_each : length at.memories ≡ length at.world.agents
  pub sized : length sizes ≡ length at.world.agents
  pub sizes_are : (i : ℕ) → i < length at.world.agents → get_or sizes i 0 ≡ length (get_or at.memories i [])
  pub numbers : (i : ℕ) → i < length at.world.agents → All (λ n. n < 2 ^ 16) (get_or at.memories i [])
  pub columns : (i : ℕ) → i < length at.world.agents → (agent_of at.world i).x < 2 ^ 32
  pub rows : (i : ℕ) → i < length at.world.agents → (agent_of at.world i).y < 2 ^ 32

module _ (at : Position) (sts : List Status) (sizes : List ℕ) (is : IsCrew at sizes) where
  abbrev crew_to : ℕ → CrewTold
  crew_to k = record { agents = take k at.world.agents; answers = take k sts; memories = take k at.memories }

  abbrev line_told : ℕ → LineTold
  line_told k = record { agent = agent_of at.world k; answer = slice_get sts k; memory = get_or at.memories k [] }

  crew_next : (k : ℕ) → k < length at.world.agents → crew_to (k + 1) ≡ with_line (crew_to k) (line_told k)
  crew_next k lt =
      let ms : List (List ℕ) = at.memories in
      let e = is.one_each in
      ap (λ (l : List Agent). record { agents = l; answers = take (k + 1) sts; memories = take (k + 1) ms }) (take_more at.world.agents k (record { x = 0; y = 0; carrying = false }) lt)
      ∙ ap (λ (l : List Status). record { agents = take k at.world.agents ++ agent_of at.world k ∷ []; answers = l; memories = take (k + 1) ms }) (take_answers sts k)
      ∙ ap (λ (l : List (List ℕ)). record { agents = take k at.world.agents ++ agent_of at.world k ∷ []; answers = take k sts ++ option_to_list (slice_get sts k); memories = l })
      (take_more ms k [] (omega (arith, e, lt)))

  crew_read : (m k : ℕ) (rest : List ℕ) → k + m ≡ length at.world.agents
      → crew_from (crew_to k) (drop k sizes) (flat_map (line_of at sts) (count_up k m) ++ rest) ≡ Ok (crew_to (length at.world.agents), rest)
  crew_read zero k rest all =
      let s = is.sized in
      let here : k ≡ length at.world.agents = omega (arith, all) in
      ap (λ l. crew_from (crew_to k) l (flat_map (line_of at sts) (count_up k 0) ++ rest)) (drop_all k sizes (omega (arith, all, s)))
      ∙ ap (λ l. crew_from (crew_to k) [] (flat_map (line_of at sts) l ++ rest)) (count_up-zero k)
      ∙ crew_none (crew_to k) rest ∙ ap (λ j. Ok (crew_to j, rest)) here
  crew_read (suc m) k rest all =
      let s = is.sized in
      let lt : k < length at.world.agents = omega (arith, all) in
      let behind : List ℕ = flat_map (line_of at sts) (count_up (suc k) m) ++ rest in
      let bytes : List ℕ = line_of at sts k ++ behind in
      let text : flat_map (line_of at sts) (count_up k (suc m)) ++ rest ≡ bytes =
      ap (λ l. flat_map (line_of at sts) l ++ rest) (count_up-suc k m) ∙ append_assoc (line_of at sts k) (flat_map (line_of at sts) (count_up (suc k) m)) rest in
      let one : suc k ≡ k + 1 = omega arith in
      ap (crew_from (crew_to k) (drop k sizes)) text
      ∙ sym (crew_more (crew_to k) sizes k bytes (crew_from (crew_to k) (drop k sizes) bytes) refl (length (get_or at.memories k [])) (line_told k) behind (crew_to (k + 1)) (omega (arith, lt, s))
      (is.sizes_are k lt) (line_again k (agent_of at.world k) (slice_get sts k) (get_or at.memories k []) behind (is.columns k lt) (is.rows k lt) (is.numbers k lt)) (crew_next k lt))
      ∙ ap (λ j. crew_from (crew_to (k + 1)) (drop (k + 1) sizes) (flat_map (line_of at sts) (count_up j m) ++ rest)) one
      ∙ crew_read m (k + 1) rest (omega (arith, all))

  pub crew_again : (rest : List ℕ) → length sts ≤ length at.world.agents
      → crew_from no_crew sizes (agent_lines at sts ++ rest) ≡ Ok (record { agents = at.world.agents; answers = sts; memories = at.memories }, rest)
  crew_again rest few =
      let n : ℕ = length at.world.agents in
      let e = is.one_each in
      crew_read n 0 rest (omega arith)
      ∙ ap (λ (l : List Agent). Ok (record { agents = l; answers = take n sts; memories = take n at.memories }, rest)) (take_all n at.world.agents (omega arith))
      ∙ ap (λ (l : List Status). Ok (record { agents = at.world.agents; answers = l; memories = take n at.memories }, rest)) (take_all n sts few)
      ∙ ap (λ (l : List (List ℕ)). Ok (record { agents = at.world.agents; answers = sts; memories = l }, rest)) (take_all n at.memories (omega (arith, e)))

-- ---- items

item_parts : (i x y rest : List ℕ) → (i ++ x ++ codes "," ++ y ++ codes "\n") ++ rest ≡ i ++ (x ++ (codes "," ++ (y ++ (codes "\n" ++ rest))))
item_parts i x y rest = simp append_assoc

item_again : (width height x y : ℕ) (rest : List ℕ) → width ≤ 128 → height ≤ 128 → x < width → y < height
    → item_at width height ((codes "item " ++ decimal x ++ codes "," ++ decimal y ++ codes "\n") ++ rest) ≡ Ok (y * width + x, rest)
unfolding item_at
item_again width height x y rest wide high column row =
    let a : nat_lt x width ≡ true = grind (arith, column) in
    let b : nat_lt y height ≡ true = grind (arith, row) in
    ap (item_at width height) (item_parts (codes "item ") (decimal x) (decimal y) rest)
    ∙ rw (
      behind_again (codes "item ") (decimal x ++ (codes "," ++ (decimal y ++ (codes "\n" ++ rest)))),
      point_again x y (codes "\n" ++ rest) (omega (arith, wide, column)) (omega (arith, high, row)) refl,
      a,
      b,
      behind_again (codes "\n") rest,
    ) refl

module _ (items : List Bool) (count : ℕ) (long : length items ≡ count) where
  -- those of the first cells, and none behind them
  abbrev pub items_to : ℕ → List Bool
  items_to i = take i items ++ replicate (count - i) false

  one_left : (i : ℕ) → i < count → items_to i ≡ take i items ++ false ∷ replicate (count - (i + 1)) false
  one_left i lt = let n : count - i ≡ suc (count - (i + 1)) = omega (arith, lt) in ap (λ k. take i items ++ replicate k false) n

  next_is : (i : ℕ) (here : Bool) → i < count → get_or items i false ≡ here → items_to (i + 1) ≡ take i items ++ here ∷ replicate (count - (i + 1)) false
  next_is i here lt is =
      ap (λ l. l ++ replicate (count - (i + 1)) false) (take_more items i false (omega (arith, long, lt)) ∙ ap (λ b. take i items ++ b ∷ []) is)
      ∙ append_assoc (take i items) (here ∷ []) (replicate (count - (i + 1)) false)

  pub none_here : (i : ℕ) → i < count → get_or items i false ≡ false → items_to i ≡ items_to (i + 1)
  none_here i lt is = one_left i lt ∙ sym (next_is i false lt is)

  pub one_here : (i : ℕ) → i < count → get_or items i false ≡ true → slice_set (items_to i) i true ≡ items_to (i + 1)
  one_here i lt is =
      let at : length (take i items) ≡ i = length-take-le i items (omega (arith, long, lt)) in
      ap (λ l. slice_set l i true) (one_left i lt)
      ∙ ap (λ k. slice_set (take i items ++ false ∷ replicate (count - (i + 1)) false) k true) (sym at)
      ∙ set_seam (take i items) (replicate (count - (i + 1)) false) false true
      ∙ sym (next_is i true lt is)

  pub all_to : items_to count ≡ items
  all_to =
      let n : count - count ≡ 0 = omega arith in
      ap (λ k. take count items ++ replicate k false) n ∙ append-nil (take count items) ∙ take_all count items (omega (arith, long))

  pub none_to : items_to 0 ≡ replicate count false
  none_to = let n : count - 0 ≡ count = omega arith in ap (λ k. replicate k false) n

inside : (width height x y : ℕ) → x < width → y < height → y * width + x < width * height
inside width height x y column row =
    let below : (y + 1) * width ≤ height * width = mul-le (y + 1) width height width (omega (arith, row)) (omega arith) in
    omega (arith, below, column)

module _ (g : Grid) (wide : g.width ≤ 128) (high : g.height ≤ 128) (long : length g.items ≡ g.width * g.height) where
  abbrev read_to : ℕ → List Bool
  read_to i = items_to g.items (g.width * g.height) long i

  abbrev are_read : ℕ → List ℕ → Type 0
  are_read i bytes = (most : ℕ) → g.width * g.height ≤ most + i → items_from g.width g.height most (read_to i) bytes ≡ Ok g.items

  cell_read : (y x : ℕ) (here : Bool) (rest : List ℕ) → x < g.width → y < g.height → has_item g (point x y) ≡ here → are_read (y * g.width + x + 1) rest
      → are_read (y * g.width + x) ((if here then codes "item " ++ decimal x ++ codes "," ++ decimal y ++ codes "\n" else []) ++ rest)
  cell_read y x false rest column row is behind most enough =
      let lt : y * g.width + x < g.width * g.height = inside g.width g.height x y column row in
      ap (λ l. items_from g.width g.height most l rest) (none_here g.items (g.width * g.height) long (y * g.width + x) lt is) ∙ behind most (omega (arith, enough))
  cell_read y x true rest column row is behind zero enough =
      let lt : y * g.width + x < g.width * g.height = inside g.width g.height x y column row in
      absurd (omega (arith, enough, lt))
  cell_read y x true rest column row is behind (suc most) enough =
      let lt : y * g.width + x < g.width * g.height = inside g.width g.height x y column row in
      let line : List ℕ = (codes "item " ++ decimal x ++ codes "," ++ decimal y ++ codes "\n") ++ rest in
      items_suc g.width g.height most (read_to (y * g.width + x)) line (omega arith)
      ∙ ap (λ r. r >>= λ item. items_from g.width g.height most (slice_set (read_to (y * g.width + x)) item.0 true) item.1) (item_again g.width g.height x y rest wide high column row)
      ∙ ap (λ l. items_from g.width g.height most l rest) (one_here g.items (g.width * g.height) long (y * g.width + x) lt is) ∙ behind most (omega (arith, enough))

  row_read : (y x n : ℕ) (rest : List ℕ) → x + n ≡ g.width → y < g.height → are_read ((y + 1) * g.width) rest → are_read (y * g.width + x) (flat_map (item_line g y) (count_up x n) ++ rest)
  row_read y x zero rest all row behind most enough =
      let here : y * g.width + x ≡ (y + 1) * g.width = omega (arith, all) in
      ap (λ l. items_from g.width g.height most (read_to (y * g.width + x)) (flat_map (item_line g y) l ++ rest)) (count_up-zero x)
      ∙ ap (λ i. items_from g.width g.height most (read_to i) rest) here ∙ behind most (omega (arith, enough, here))
  row_read y x (suc n) rest all row behind most enough =
      let left : List ℕ = flat_map (item_line g y) (count_up (suc x) n) ++ rest in
      let one : suc x ≡ x + 1 = omega arith in
      let next : are_read (y * g.width + x + 1) left =
      subst (λ (i : ℕ). are_read i left) (omega arith) (row_read y (suc x) n rest (omega (arith, all)) row behind) in
      ap (λ l. items_from g.width g.height most (read_to (y * g.width + x)) (flat_map (item_line g y) l ++ rest)) (count_up-suc x n)
      ∙ ap (items_from g.width g.height most (read_to (y * g.width + x))) (append_assoc (item_line g y x) (flat_map (item_line g y) (count_up (suc x) n)) rest)
      ∙ cell_read y x (has_item g (point x y)) left (omega (arith, all)) row refl next most enough

  abbrev row_of : ℕ → List ℕ
  row_of y = flat_map (item_line g y) (count_up 0 g.width)

  rows_read : (y m : ℕ) → y + m ≡ g.height → are_read (y * g.width) (flat_map row_of (count_up y m))
  rows_read y zero all most enough =
      let here : y * g.width ≡ g.width * g.height = let e : y ≡ g.height = omega (arith, all) in ap (λ k. k * g.width) e ∙ (omega arith) in
      ap (λ l. items_from g.width g.height most (read_to (y * g.width)) (flat_map row_of l)) (count_up-zero y)
      ∙ items_none g.width g.height most (read_to (y * g.width)) ∙ ap (λ i. Ok (read_to i)) here ∙ ap (λ l. Ok l) (all_to g.items (g.width * g.height) long)
  rows_read y (suc m) all most enough =
      let one : suc y ≡ y + 1 = omega arith in
      let behind : are_read ((y + 1) * g.width) (flat_map row_of (count_up (suc y) m)) =
      subst (λ (k : ℕ). are_read (k * g.width) (flat_map row_of (count_up (suc y) m))) one (rows_read (suc y) m (omega (arith, all))) in
      let start : y * g.width + 0 ≡ y * g.width = omega arith in
      ap (λ l. items_from g.width g.height most (read_to (y * g.width)) (flat_map row_of l)) (count_up-suc y m)
      ∙ subst (λ (i : ℕ). are_read i (row_of y ++ flat_map row_of (count_up (suc y) m))) start
      (row_read y 0 g.width (flat_map row_of (count_up (suc y) m)) (omega arith) (omega (arith, all)) behind) most enough

  pub items_again : items_from g.width g.height (g.width * g.height) (replicate (g.width * g.height) false) (item_lines g) ≡ Ok g.items
  items_again =
      let start : 0 * g.width ≡ 0 = omega arith in
      ap (λ l. items_from g.width g.height (g.width * g.height) l (item_lines g)) (sym (none_to g.items (g.width * g.height) long))
      ∙ subst (λ (i : ℕ). are_read i (item_lines g)) start (rows_read 0 g.height (omega arith)) (g.width * g.height) (omega arith)
