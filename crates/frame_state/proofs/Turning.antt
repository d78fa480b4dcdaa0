-- What all agents think, and what comes of it.
use Rattle.std.proofs.Common.{get_or, subst, zero-add, ◌≡◌, ◌<◌, ℕ, zero, suc, ◌+◌, ◌-◌, List, [], ◌∷◌, length, map, refl, sym, ap, ap₂, ◌∙◌, Bool, arith}
use Rattle.std.specs.Prelude.{slice_index_or}
use Rattle.std.proofs.lemmas.List.{length-map, get_or_default}
use Rattle.grid_world.specs.Grid.{Grid}
use Rattle.grid_world.specs.Intents.{apply_all}
use Rattle.grid_world.specs.declared.cell.Intent.{Intent}
use Rattle.bt_nodes.specs.declared.node.Status.{Status}
use Rattle.grid_world.specs.Map.{count_up}
use Rattle.grid_world.proofs.CountUp.{get_or-map-count_up, length-map-count_up}
use Rattle.bt_nodes.specs.declared.leaf.Leaf.TheVariants.{Carrying}
use Rattle.bt_nodes.specs.Plain.{Plain, Does}
use Rattle.bt_nodes.specs.Bounds.{Fits, zero_memory}
use Rattle.game_rules.specs.Game.{Game, signals}
use Rattle.game_rules.specs.Thought.{Thought, thought}
use Rattle.game_rules.specs.Play.{play, thoughts, thoughts_from}
use Rattle.game_jobs.specs.Instance.{tree_of, view}
use Rattle.frame_state.specs.Names.{FrameOf, PartOf, part_of, AreOfAllAgents}
use Rattle.frame_state.specs.Contents.{world_after, memories_after, signals_in, statuses_in, intents_in, seen, memory_before, thought_in, thought_for, bands_in, IsAfter}
use Rattle.frame_parts.specs.Memories.{AllFit}
use Rattle.frame_parts.specs.Distances.{DistancesOf}
use Rattle.frame_state.specs.Logic.{AreGathered, AllFitOwn}
use Rattle.game_rules.proofs.Ground.{play_ground}
use Rattle.draw_list.specs.Bands.{band_count}

row_is : (w : Grid) (on : List Bool) (ps : List Plain) (ms : List (List ℕ)) (k : ℕ) (row : ℕ → Thought) → length ms ≡ length ps
    → ((a : ℕ) → a < length ps → row (k + a) ≡ thought (view on w (k + a)) (slice_index_or ps a (Does Carrying)) (slice_index_or ms a []))
    → thoughts_from w on k ps ms ≡ map row (count_up k (length ps))
unfolding count_up
row_is w on [] ms k row e h = refl
row_is w on (p ∷ ps) [] k row e h = absurd (omega (arith, e))
row_is w on (p ∷ ps) (m ∷ ms) k row e h =
    let k0 : k + 0 ≡ k = omega arith in
    let first : row k ≡ thought (view on w k) p m = ap row (sym k0) ∙ h 0 (omega arith) ∙ ap (λ n. thought (view on w n) p m) k0 in
    ap₂ (λ x l. x ∷ l) (sym first) (row_is w on ps ms (suc k) row (omega (arith, e))
    (λ a l. let n : suc k + a ≡ k + suc a = omega arith in
    ap row n ∙ h (suc a) (omega (arith, l)) ∙ ap (λ i. thought (view on w i) (slice_index_or ps a (Does Carrying)) (slice_index_or ms a [])) (sym n)))

length_of : (w : Grid) (on : List Bool) (ps : List Plain) (ms : List (List ℕ)) (k : ℕ) → length ms ≡ length ps → length (thoughts_from w on k ps ms) ≡ length ps
length_of w on [] ms k e = refl
length_of w on (p ∷ ps) [] k e = absurd (omega (arith, e))
length_of w on (p ∷ ps) (m ∷ ms) k e = ap suc (length_of w on ps ms (suc k) (omega (arith, e)))

-- a memory for each tree
pub as_many : (g : Game) (f : ℕ) → length (memories_after g f) ≡ length g.trees
unfolding memories_after
as_many g zero = length-map g.trees zero_memory
as_many g (suc f) =
    length-map (thoughts g (suc f) (play g f)) (λ t. t.memory) ∙ length_of (play g f).world (signals g.changes (suc f)) g.trees (play g f).memories 0 (as_many g f)

pub as_many_intents : (g : Game) (f : ℕ) → length (intents_in g f) ≡ length g.trees
unfolding intents_in memories_after
as_many_intents g f =
    length-map (thoughts g f (play g (f - 1))) (λ t. t.intent)
    ∙ length_of (play g (f - 1)).world (signals g.changes f) g.trees (play g (f - 1)).memories 0 (as_many g (f - 1))

pub as_many_statuses : (g : Game) (f : ℕ) → length (statuses_in g f) ≡ length g.trees
unfolding statuses_in memories_after
as_many_statuses g f =
    length-map (thoughts g f (play g (f - 1))) (λ t. t.status)
    ∙ length_of (play g (f - 1)).world (signals g.changes f) g.trees (play g (f - 1)).memories 0 (as_many g (f - 1))

-- the thoughts of a frame are those of its agents
all_thoughts : (g : Game) (f : ℕ) → thoughts g f (play g (f - 1)) ≡ map (thought_in g f) (count_up 0 (length g.trees))
unfolding thought_in seen memory_before world_after memories_after
all_thoughts g f =
    row_is (play g (f - 1)).world (signals g.changes f) g.trees (play g (f - 1)).memories 0 (thought_in g f) (as_many g (f - 1))
    (λ a l. let n : 0 + a ≡ a = omega arith in
    ap (thought_in g f) n ∙ ap (λ i. thought (view (signals g.changes f) (play g (f - 1)).world i) (tree_of g a) (slice_index_or (play g (f - 1)).memories a [])) (sym n))

-- ---- by the names of the thoughts

module _ {Y : Type 0} (part : Thought → Y) where
  by_name : (g : Game) (f : ℕ) (ns : List ℕ) → map (λ p. part (thought_for p)) (map (part_of g f) ns) ≡ map part (map (thought_in g f) ns)
  by_name g f [] = refl
  by_name g f (n ∷ ns) = ap (λ l. part (thought_in g f n) ∷ l) (by_name g f ns)

  all_parts : (p : FrameOf) (parts : List PartOf) → AreOfAllAgents p parts
      → map (λ q. part (thought_for q)) parts ≡ map part (thoughts p.game p.frame (play p.game (p.frame - 1)))
  all_parts p parts all =
      ap (map (λ q. part (thought_for q))) all ∙ by_name p.game p.frame (count_up 0 (length p.game.trees)) ∙ ap (map part) (sym (all_thoughts p.game p.frame))

module _ (p : FrameOf) (parts : List PartOf) (all : AreOfAllAgents p parts) where
  pub all_intents : map (λ q. (thought_for q).intent) parts ≡ intents_in p.game p.frame
  unfolding intents_in
  all_intents = all_parts (λ t. t.intent) p parts all

  pub all_statuses : map (λ q. (thought_for q).status) parts ≡ statuses_in p.game p.frame
  unfolding statuses_in
  all_statuses = all_parts (λ t. t.status) p parts all

  kept : (g : Game) (f : ℕ) → 0 < f → map (λ t. t.memory) (thoughts g f (play g (f - 1))) ≡ (play g f).memories
  kept g zero h = absurd (omega (arith, h))
  kept g (suc f) h = let n : suc f - 1 ≡ f = omega arith in ap (λ k. map (λ t. t.memory) (thoughts g (suc f) (play g k))) n

  pub all_memories : 0 < p.frame → map (λ q. (thought_for q).memory) parts ≡ memories_after p.game p.frame
  unfolding memories_after
  all_memories h = all_parts (λ t. t.memory) p parts all ∙ kept p.game p.frame h

  -- memories that fit the thoughts' trees fit all trees
  pub all_fit : (memories : List (List ℕ)) → length memories ≡ length parts → AllFitOwn parts memories → AllFit p.game.trees memories
  all_fit memories n own = record {
    one_each = n ∙ many;
    fits = λ a d h.
        let own_tree : get_or parts a (part_of p.game p.frame a) ≡ part_of p.game p.frame a =
        ap (λ l. get_or l a (part_of p.game p.frame a)) all ∙ get_or-map-count_up (part_of p.game p.frame) 0 (length p.game.trees) a (part_of p.game p.frame a) h
        ∙ ap (part_of p.game p.frame) (zero-add a) in
        let tree_is : tree_of (get_or parts a (part_of p.game p.frame a)).game (get_or parts a (part_of p.game p.frame a)).number ≡ get_or p.game.trees a d =
        ap (λ (q : PartOf). tree_of q.game q.number) own_tree ∙ get_or_default p.game.trees a (Does Carrying) d h in
        let P : Plain → Type 0 = λ t. Fits t (get_or memories a []) in
        subst P tree_is (own a (part_of p.game p.frame a) (omega (arith, h, many)));
  }
    where
      many : length parts ≡ length p.game.trees
      many = ap length all ∙ length-map-count_up (part_of p.game p.frame) 0 (length p.game.trees)

-- ---- the turn

turned : (g : Game) (f : ℕ) → 0 < f → apply_all (world_after g (f - 1)) (signals_in g f) 0 (intents_in g f) ≡ world_after g f
unfolding intents_in world_after
turned g zero h = absurd (omega (arith, h))
turned g (suc f) h =
    let n : suc f - 1 ≡ f = omega arith in
    ap (λ k. apply_all (play g k).world (signals g.changes (suc f)) 0 (map (λ t. t.intent) (thoughts g (suc f) (play g k)))) n

module _ (p : FrameOf) (intents : List Intent) (statuses : List Status) (memories : List (List ℕ)) (found : List DistancesOf)
    (are : AreGathered p intents statuses memories found) where
  pub an_intent_each : length intents ≡ length p.game.trees
  an_intent_each = ap length are.intents_are ∙ as_many_intents p.game p.frame

  -- what is gathered comes to the turn
  pub is_after : (before world : Grid) (on : List Bool) → 0 < p.frame → before ≡ world_after p.game (p.frame - 1) → length before.agents ≡ length p.game.trees
      → on ≡ signals_in p.game p.frame → world ≡ apply_all before on 0 intents → IsAfter p.game p.frame world memories
  unfolding world_after
  is_after before world on later was agents seen_on e =
      let there : world ≡ world_after p.game p.frame =
      e ∙ ap (λ w. apply_all w on 0 intents) was ∙ ap (λ l. apply_all (world_after p.game (p.frame - 1)) l 0 intents) seen_on
      ∙ ap (apply_all (world_after p.game (p.frame - 1)) (signals_in p.game p.frame) 0) are.intents_are ∙ turned p.game p.frame later in
      record {
        world_is = there;
        memories_are = are.memories_are later;
        agents =
            ap (λ w. length w.agents) there ∙ (play_ground p.game p.frame).agents ∙ sym (play_ground p.game (p.frame - 1)).agents
            ∙ sym (ap (λ w. length w.agents) was) ∙ agents;
        all_fit = are.fit;
      }

-- ---- bands

pub height_stays : (g : Game) (f : ℕ) → (world_after g f).height ≡ g.world.height
unfolding world_after
height_stays g f = (play_ground g f).height

pub is_there : (g : Game) (f : ℕ) (world : Grid) (b : ℕ) → world ≡ world_after g f → b < bands_in g → b < band_count world.height
is_there g f world b e h = let same : world.height ≡ g.world.height = ap (λ w. w.height) e ∙ height_stays g f in subst (λ n. b < band_count n) (sym same) h
