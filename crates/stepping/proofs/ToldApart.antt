-- States of one level that have the same text are the same.
use Rattle.std.proofs.Common.{◌≡◌, ◌∙◌, ◌<◌, ◌≤◌, ℕ, ◌+◌, ◌^◌, ◌*◌, Bool, false, replicate, List, [], ◌++◌, length, map, get_or, refl, sym, ap, arith, append_assoc, Ok, None, codes, ⊎_elim}
use Rattle.std.specs.Prelude.{Result, All}
use Rattle.std.proofs.lemmas.Bool.{cases_lt}
use Rattle.std.proofs.lemmas.List.{length-map, get_or-map, get_or_default}
use Rattle.grid_world.specs.declared.cell.Agent.{Agent}
use Rattle.grid_world.specs.Grid.{Grid}
use Rattle.grid_world.specs.Ground.{emptied, furnished}
use Rattle.bt_nodes.specs.declared.leaf.Leaf.TheVariants.{Carrying}
use Rattle.bt_nodes.specs.Plain.{Plain, Does}
use Rattle.bt_nodes.specs.Bounds.{Fits, bounds}
use Rattle.bt_nodes.specs.Limits.{tree_fault}
use Rattle.bt_nodes.specs.Sizes.{size}
use Rattle.bt_nodes.proofs.MemoryBounds.{bounds-small, length-bounds}
use Rattle.bt_nodes.proofs.WithinLimits.{within}
use Rattle.game_rules.specs.Game.{Game, signals}
use Rattle.stepping.specs.declared.load_fault.LoadFault.{LoadFault}
use Rattle.stepping.specs.LevelDigest.{level_digest_of}
use Rattle.stepping.specs.Played.{Played, next_signals}
use Rattle.stepping.specs.StateText.{state_head, signals_line, agent_lines, item_lines, state_text_at, state_text, IsState, AreOfOneLevel, AreAlike}
use Rattle.stepping.specs.StateReading.{◌>>=◌, StateTold, no_crew, head_at, crew_from, items_from, state_at, told_of}
use Rattle.stepping.proofs.Onward.{all_same}
use Rattle.stepping.proofs.Playing.{as_many}
use Rattle.stepping.proofs.ReadBack.{then_read, head_again}
use Rattle.stepping.proofs.StateBack.{IsCrew, crew_again, items_again}

-- a memory of a tree within its limits takes two bytes for each number
numbers_small : (p : Plain) (m : List ℕ) → tree_fault p ≡ None → Fits p m → All (λ n. n < 2 ^ 16) m
numbers_small p m sound fits i d l =
    let is = within p sound in
    let here : i < length (bounds p) = omega (arith, l, fits.same_length) in
    let bound : get_or (bounds p) i 0 ≤ 1001 = bounds-small p is.few is.counts i 0 here in
    let below : get_or m i 0 < get_or (bounds p) i 0 = fits.below i l in
    let same : get_or m i d ≡ get_or m i 0 = get_or_default m i d 0 l in
    omega (arith, below, bound, same)

module _ (p : Played) (is : IsState p) where
  crew : IsCrew p.position (map size p.game.trees)
  crew =
      let many = is.crew in
      let none : Plain = Does Carrying in
      let nobody : Agent = record { x = 0; y = 0; carrying = false } in
      let known : (i : ℕ) → i < length p.position.world.agents → i < length p.game.trees = λ i l. omega (arith, l, many) in
      record {
        one_each = is.memories.one_each ∙ sym many;
        sized = length-map p.game.trees size ∙ sym many;
        sizes_are = λ i l.
            get_or-map size p.game.trees i none 0 (known i l)
            ∙ sym ((is.memories.fits i none (known i l)).same_length ∙ length-bounds (get_or p.game.trees i none));
        numbers = λ i l. numbers_small (get_or p.game.trees i none) (get_or p.position.memories i []) (is.limits i none (known i l)) (is.memories.fits i none (known i l));
        columns = λ i l. let a = (is.world.standing i nobody l).column in let b = is.world.sized.most_columns in omega (arith, a, b);
        rows = λ i l. let a = (is.world.standing i nobody l).row in let b = is.world.sized.most_rows in omega (arith, a, b);
      }

  few : length p.answers ≤ length p.position.world.agents
  few =
      ⊎_elim
      (λ none. omega (arith, none))
      (λ some. let e = is.answered (is.asked (omega (arith, some))) in let many = is.crew in omega (arith, e, many))
      (cases_lt (length p.answers) 1)

  -- a state's text is read as what it tells
  pub state_again : state_at (level_digest_of p.game) p.position.world.width p.position.world.height (map size p.game.trees) (state_text p) ≡ Ok (told_of p)
  unfolding state_at
  state_again =
      let w : Grid = p.position.world in
      let sizes : List ℕ = map size p.game.trees in
      let shown : List Bool = signals p.game.changes p.frame in
      let lines : List ℕ = agent_lines p.position p.answers ++ item_lines w in
      ap (state_at (level_digest_of p.game) w.width w.height sizes) (append_assoc (state_head (level_digest_of p.game) p.frame ++ signals_line (codes "shown") shown ++ signals_line (codes "next") (next_signals p)) (agent_lines p.position p.answers) (item_lines w))
      ∙ then_read (head_at (level_digest_of p.game) (state_head (level_digest_of p.game) p.frame ++ signals_line (codes "shown") shown ++ signals_line (codes "next") (next_signals p) ++ lines))
      (λ head. crew_from no_crew sizes head.1 >>= λ agents. items_from w.width w.height (w.width * w.height) (replicate (w.width * w.height) false) agents.1 >>= λ items.
      Ok (record { head = head.0; crew = agents.0; items = items }))
      (record { frame = p.frame; shown = shown; next = next_signals p }, lines) _
      (head_again (level_digest_of p.game) p.frame shown (next_signals p) lines is.frame (as_many p.game.changes p.frame) (as_many p.game.changes (p.frame + 1)))
      (then_read (crew_from no_crew sizes lines)
      (λ agents. items_from w.width w.height (w.width * w.height) (replicate (w.width * w.height) false) agents.1 >>= λ items.
      Ok (record { head = record { frame = p.frame; shown = shown; next = next_signals p }; crew = agents.0; items = items }))
      (record { agents = w.agents; answers = p.answers; memories = p.position.memories }, item_lines w) _
      (crew_again p.position p.answers sizes crew (item_lines w) few)
      (ap (λ r. r >>= λ items. Ok (record {
        head = record { frame = p.frame; shown = shown; next = next_signals p };
        crew = record { agents = w.agents; answers = p.answers; memories = p.position.memories };
        items = items;
      })) (items_again w is.world.sized.most_columns is.world.sized.most_rows is.world.all_items)))

-- ---- by a level

abbrev digest_of_parts : Grid → List Plain → ℕ
digest_of_parts w trees = level_digest_of (record { world = w; trees = trees; changes = [] })

-- as a level's game reads a text
abbrev pub read_by : Game → List ℕ → Result StateTold LoadFault
read_by g text = state_at (level_digest_of g) g.world.width g.world.height (map size g.trees) text

module _ (g : Game) (p : Played) (is : IsState p) (level : AreOfOneLevel g p.game) where
  on_ground : emptied g.world ≡ emptied p.position.world
  on_ground = ap (λ w. emptied w) level.world ∙ is.ground

  pub read_again : read_by g (state_text p) ≡ Ok (told_of p)
  read_again =
      let read : ℕ → ℕ → ℕ → List Plain → Result StateTold LoadFault = λ digest width height trees. state_at digest width height (map size trees) (state_text p) in
      ap (λ w. read (digest_of_parts w g.trees) g.world.width g.world.height g.trees) level.world
      ∙ ap (λ ts. read (digest_of_parts p.game.world ts) g.world.width g.world.height ts) level.trees
      ∙ ap (λ (w : Grid). read (level_digest_of p.game) w.width w.height p.game.trees) on_ground
      ∙ state_again p is

-- what is read is one thing
pub read_as : {A : Type 0} (x y : A) (r : Result A LoadFault) → r ≡ Ok x → r ≡ Ok y → x ≡ y
read_as x y r e f = let same : Ok x ≡ Ok y = sym e ∙ f in cc

module _ (p q : Played) (is : IsState p) (other : IsState q) (level : AreOfOneLevel p.game q.game) where
  same_ground : emptied p.position.world ≡ emptied q.position.world
  same_ground = sym is.ground ∙ on_ground p.game q other level

  module _ (told : told_of p ≡ told_of q) where
    told_alike : AreAlike p q
    told_alike =
        let world : p.position.world ≡ q.position.world =
        ap (λ (g : Grid). furnished g p.position.world.items p.position.world.agents) same_ground
        ∙ ap (λ (t : StateTold). furnished q.position.world t.items t.crew.agents) told in
        record {
          state = all_same p q (ap (λ (t : StateTold). t.head.frame) told) (ap (λ (t : StateTold). t.head.next) told) world level.trees (ap (λ (t : StateTold). t.crew.memories) told);
          shown = ap (λ (t : StateTold). t.head.shown) told;
          answers = ap (λ (t : StateTold). t.crew.answers) told;
        }

    abbrev text_told : Grid → List Plain → Grid → StateTold → List ℕ
    text_told first trees w t =
        state_text_at (record { world = first; trees = trees; changes = [] }) t.head.frame t.head.shown t.head.next
        (record { world = furnished w t.items t.crew.agents; memories = t.crew.memories }) t.crew.answers

    -- and written so
    pub told_text : state_text p ≡ state_text q
    told_text =
        ap (λ w. text_told w p.game.trees p.position.world (told_of p)) level.world
        ∙ ap (λ ts. text_told q.game.world ts p.position.world (told_of p)) level.trees
        ∙ ap (λ (w : Grid). text_told q.game.world q.game.trees w (told_of p)) same_ground
        ∙ ap (text_told q.game.world q.game.trees q.position.world) told

pub told_apart : (p q : Played) → IsState p → IsState q → AreOfOneLevel p.game q.game → state_text p ≡ state_text q → AreAlike p q
told_apart p q is other level same =
    let back : AreOfOneLevel q.game p.game = record { world = sym level.world; trees = sym level.trees } in
    told_alike p q is other level
    (read_as (told_of p) (told_of q) (read_by q.game (state_text p)) (read_again q.game p is back) (ap (read_by q.game) same ∙ read_again q.game q other (record { world = refl; trees = refl })))
