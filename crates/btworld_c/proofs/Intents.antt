-- What agents want, one after the other.
use Rattle.std.proofs.Common.{◌≡◌, ◌∙◌, ℕ, ◌+◌, ◌<◌, ◌≤◌, Bool, List, [], ◌∷◌, ◌++◌, length, get_or, map, take, sym, ap, arith}
use Rattle.std.specs.Prelude.{nat_lt, if◌then◌else◌}
use Rattle.std.specs.List.{range_with_len}
use Rattle.std.proofs.lemmas.List.{get_or-map, take_all}
use Rattle.std.proofs.lemmas.List.FromFn.{length-map-range_with_len, map-range_with_len_more}
use Rattle.grid_world.specs.Grid.{Grid}
use Rattle.grid_world.specs.declared.cell.Intent.{Intent}
use Rattle.grid_world.specs.declared.cell.Intent.TheVariants.{Stay}
use Rattle.bt_nodes.specs.declared.leaf.Leaf.TheVariants.{Carrying}
use Rattle.bt_nodes.specs.Plain.{Plain, Does}
use Rattle.game_rules.specs.Thought.{Thought, thought}
use Rattle.game_rules.specs.Play.{thoughts_from}
use Rattle.frame_parts.proofs.Fitting.{took_more}
use Rattle.stepping.specs.Played.{sight}
use Rattle.stepping.proofs.Playing.{many, each}
use Rattle.btworld_c.specs.Intents.{first_intents}

module _ (w : Grid) (on : List Bool) (trees : List Plain) (ms : List (List ℕ)) (one_each : length ms ≡ length trees) where
  at_own : (i : ℕ) (d : Thought) → i < length trees → get_or (thoughts_from w on 0 trees ms) i d ≡ thought (sight w on i) (get_or trees i (Does Carrying)) (get_or ms i [])
  at_own i d inside =
      let here : 0 + i ≡ i = omega arith in
      each w on 0 trees ms i d one_each inside ∙ ap (λ (n : ℕ). thought (sight w on n) (get_or trees i (Does Carrying)) (get_or ms i [])) here

  pub wanted_more : (done : List Intent) (i : ℕ) (intent : Intent) → i < length trees
      → intent ≡ (thought (sight w on i) (get_or trees i (Does Carrying)) (get_or ms i [])).intent
      → done ≡ map (λ t. t.intent) (take i (thoughts_from w on 0 trees ms))
      → done ++ intent ∷ [] ≡ map (λ t. t.intent) (take (i + 1) (thoughts_from w on 0 trees ms))
  wanted_more done i intent inside is so_far =
      let all = thoughts_from w on 0 trees ms in
      let t : Thought = thought (sight w on i) (get_or trees i (Does Carrying)) (get_or ms i []) in
      let there : i < length all = let e = many w on 0 trees ms one_each in omega (arith, inside, e) in
      took_more (λ (x : Thought). x.intent) all done intent i t t there (at_own i t inside) is so_far

  pub all_wanted : (done : List Intent) (i : ℕ) → length trees ≤ i → done ≡ map (λ t. t.intent) (take i (thoughts_from w on 0 trees ms))
      → done ≡ map (λ t. t.intent) (thoughts_from w on 0 trees ms)
  all_wanted done i over is =
      let n = many w on 0 trees ms one_each in
      is ∙ ap (λ (l : List Thought). map (λ t. t.intent) l) (take_all i (thoughts_from w on 0 trees ms) (omega (arith, n, over)))

  -- an agent's is that of its thought
  pub intent_there : (i : ℕ) → i < length trees
      → get_or (map (λ t. t.intent) (thoughts_from w on 0 trees ms)) i Stay ≡ (thought (sight w on i) (get_or trees i (Does Carrying)) (get_or ms i [])).intent
  intent_there i inside =
      let all = thoughts_from w on 0 trees ms in
      let t : Thought = thought (sight w on i) (get_or trees i (Does Carrying)) (get_or ms i []) in
      let there : i < length all = let e = many w on 0 trees ms one_each in omega (arith, inside, e) in
      get_or-map (λ (x : Thought). x.intent) all i t Stay there ∙ ap (λ (x : Thought). x.intent) (at_own i t inside)

-- ---- the first ones

module _ (count : ℕ) (intents : List Intent) where
  abbrev pub among : ℕ → Intent
  among k = if nat_lt k count then get_or intents k Stay else Stay

  pub length_of_first : length (first_intents count intents) ≡ length intents
  length_of_first = length-map-range_with_len among 0 (length intents)

  pub first_more : (done new : List Intent) (i : ℕ) (intent : Intent) → new ≡ done ++ intent ∷ [] → intent ≡ among i → done ≡ map among (range_with_len 0 i)
      → new ≡ map among (range_with_len 0 (i + 1))
  first_more done new i intent is at so_far =
      let here : 0 + i ≡ i = omega arith in
      is ∙ ap (λ l. l ++ intent ∷ []) so_far ∙ ap (λ x. map among (range_with_len 0 i) ++ x ∷ []) at ∙ sym (map-range_with_len_more among 0 i i here)
