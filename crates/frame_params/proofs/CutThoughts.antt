-- Thoughts that are cut at their questions.
use Rattle.std.proofs.Common.{◌≡◌, ◌<◌, ℕ, ◌+◌, ◌-◌, Bool, List, length, sym, ap, ◌∙◌, subst, arith}
use Rattle.std.specs.declared.alloc.Global.{Global}
use Rattle.grid_world.specs.Grid.{Grid}
use Rattle.grid_world.specs.Way.{way}
use Rattle.grid_world.specs.declared.cell.Answer.{Answer}
use Rattle.grid_world.specs.declared.cell.Intent.{Intent}
use Rattle.bt_nodes.specs.declared.node.Status.{Status}
use Rattle.bt_nodes.specs.Plain.{Plain}
use Rattle.bt_nodes.specs.Sizes.{size}
use Rattle.game_rules.specs.Game.{Game}
use Rattle.game_rules.specs.View.{View, cell_of}
use Rattle.game_rules.specs.Thought.{way_to_last}
use Rattle.game_rules.proofs.Ways.{few}
use Rattle.game_jobs.specs.Instance.{tree_of, view}
use Rattle.bt_tick.specs.Outcome.{place_of, means, tree_of as tree_in}
use Rattle.bt_tick.specs.Thinking.{Thinking}
use Rattle.bt_tick.specs.declared.tick.Pending.{Pending}
use Rattle.bt_tick.specs.declared.tick.Outcome.{Outcome}
use Rattle.bt_tick.specs.declared.tick.Outcome.TheVariants.{Ended, Asks}
use Rattle.bt_tick.proofs.CutTicks.{asks_now, still_asks, ended_asks, thinking_copied, thinking_ended}
use Rattle.frame_state.specs.Names.{FrameOf}
use Rattle.frame_state.specs.Contents.{world_after, signals_in, seen, memory_before, thought_in, questions_in, ways_in, place_in, way_in, way_to_in}
use Rattle.frame_state.specs.Thoughts.{IsWayOf, EndsAt}
use Rattle.frame_params.specs.Thinks.{Sees, ThinksTo, StandsAt, AsksFor}

-- what an agent sees
pub sees_is : (g : Game) (f a : ℕ) (world : Grid) (on : List Bool) → Sees g f a world on → view on world a ≡ seen g f a
unfolding seen
sees_is g f a world on s = ap (λ w. view on w a) s.world_is ∙ ap (λ l. view l (world_after g (f - 1)) a) s.signals_are

-- a tick that stands asks for its place
pub asks_for : {A : Type 0} (g : Game) (f a i : ℕ) (p : Pending Global A) → StandsAt g f a i p → AsksFor g f a i (place_of p)
unfolding questions_in place_in ways_in
asks_for g f a i p s = record {
  asks = still_asks (seen g f a) (tree_of g a) (memory_before g f a) i (place_of p) p s.thinks;
  place_is = (asks_now (seen g f a) (tree_of g a) (memory_before g f a) i (place_of p) p s.thinks).1;
}

-- the way of a question is the way to its place
pub way_for : (g : Game) (f a i place : ℕ) → AsksFor g f a i place → way_in g f a i ≡ way_to_in g f a place
unfolding way_in place_in ways_in
way_for g f a i place asks = ap (way_to_last (seen g f a)) asks.place_is

-- a way to the place for which a tick asks answers it
pub way_found : (g : Game) (f a i place : ℕ) (x : Answer) → AsksFor g f a i place → x ≡ way_to_in g f a place → IsWayOf g f a i x
way_found g f a i place x asks is = record { asks = asks.asks; way_is = is ∙ sym (way_for g f a i place asks) }

-- a tick asks at most as often as its tree has nodes
pub few_asked : (g : Game) (f a i : ℕ) → i < questions_in g f a → i < size (tree_of g a)
unfolding questions_in
few_asked g f a i asks = let most = few (seen g f a) (tree_of g a) (memory_before g f a) in omega (arith, asks, most)

-- a tick that came to a question stands at it
pub stands_at : {A : Type 0} (g : Game) (f a i place : ℕ) (p : Pending Global A) → a < length g.trees → ThinksTo g f a i (Asks place p) → StandsAt g f a i p
stands_at g f a i place p there t = record { there = there; thinks = subst (λ n. ThinksTo g f a i (Asks n p)) t.comes.0 t }

-- a copy of a tick that stands stands as it does
pub stands_copied : {A B : Type 0} (g : Game) (f a i : ℕ) (p : Pending Global A) (q : Pending Global B)
    → ((v : View) (more : List Answer) → means v q more ≡ means v p more) → place_of q ≡ place_of p → tree_in q ≡ tree_in p → StandsAt g f a i p → StandsAt g f a i q
stands_copied g f a i p q same at tree stands = record {
  there = stands.there;
  thinks = subst (λ n. ThinksTo g f a i (Asks n q)) (sym at)
      (thinking_copied (seen g f a) (tree_of g a) (memory_before g f a) i (place_of p) p q stands.thinks (same (seen g f a)) at tree);
}

module _ (g : Game) (f a i : ℕ) where
  pub thinks_same : {A : Type 0} {o r : Outcome Global A} → o ≡ r → ThinksTo g f a i o → ThinksTo g f a i r
  thinks_same e t = subst (λ x. ThinksTo g f a i x) e t

  pub ended_all : {A : Type 0} (st : Status) (memory : List ℕ) (intent : Intent) → ThinksTo {A = A} g f a i (Ended st memory intent) → i ≡ questions_in g f a
  unfolding questions_in
  ended_all st memory intent t = ended_asks (seen g f a) (tree_of g a) (memory_before g f a) i st memory intent t

  pub ended_thought : {A : Type 0} (st : Status) (memory : List ℕ) (intent : Intent) → ThinksTo {A = A} g f a i (Ended st memory intent)
      → record { status = st; memory = memory; intent = intent } ≡ thought_in g f a
  unfolding thought_in
  ended_thought st memory intent t = thinking_ended (seen g f a) (tree_of g a) (memory_before g f a) i st memory intent t

  pub ends_at : {A : Type 0} (st : Status) (memory : List ℕ) (intent : Intent) → ThinksTo {A = A} g f a i (Ended st memory intent) → EndsAt g f a i st memory intent
  ends_at st memory intent t = record {
    all = ended_all st memory intent t;
    thought_is = ended_thought st memory intent t;
    fits = t.tree;
  }

-- ---- what tasks keep

-- what an agent sees at a frame's start
pub sees_start : (p : FrameOf) (a : ℕ) (world : Grid) (on : List Bool) → a < length p.game.trees → length world.agents ≡ length p.game.trees
    → world ≡ world_after p.game (p.frame - 1) → on ≡ signals_in p.game p.frame → Sees p.game p.frame a world on
sees_start p a world on there agents was signals_are = record { there = there; agents = agents; world_is = was; signals_are = signals_are }

module _ (g : Game) (f a : ℕ) (world : Grid) (on : List Bool) (sees : Sees g f a world on) where
  way_seen : {A : Type 0} (i : ℕ) (p : Pending Global A) (x : Answer) → StandsAt g f a i p → IsWayOf g f a i x → x ≡ way world on (cell_of (view on world a)) (place_of p)
  way_seen i p x stands is =
      is.way_is ∙ way_for g f a i (place_of p) (asks_for g f a i p stands)
      ∙ ap (λ v. way v.world v.signals (cell_of v) (place_of p)) (sym (sees_is g f a world on sees))

  pub starts : {A : Type 0} (memory : List ℕ) (o : Outcome Global A) → memory ≡ memory_before g f a → Thinking (view on world a) (tree_of g a) memory 0 o → ThinksTo g f a 0 o
  starts memory o e t =
      subst (λ v. Thinking v (tree_of g a) (memory_before g f a) 0 o) (sees_is g f a world on sees)
      (subst (λ m. Thinking (view on world a) (tree_of g a) m 0 o) e t)

  pub goes_on : {A : Type 0} (i : ℕ) (p : Pending Global A) (x : Answer) (o : Outcome Global A) → StandsAt g f a i p → IsWayOf g f a i x
      → ((q : Plain) (m : List ℕ) (j : ℕ) → Thinking (view on world a) q m j (Asks (place_of p) p)
      → x ≡ way world on (cell_of (view on world a)) (place_of p) → Thinking (view on world a) q m (j + 1) o) → ThinksTo g f a (i + 1) o
  goes_on i p x o stands is goes =
      subst (λ v. Thinking v (tree_of g a) (memory_before g f a) (i + 1) o) (sees_is g f a world on sees)
      (goes (tree_of g a) (memory_before g f a) i
      (subst (λ v. Thinking v (tree_of g a) (memory_before g f a) i (Asks (place_of p) p)) (sym (sees_is g f a world on sees)) stands.thinks)
      (way_seen i p x stands is))
