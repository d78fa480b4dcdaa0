-- What a frame store keeps, under its names.
use Rattle.std.proofs.Common.{rules, ◌≡◌, ◌<◌, ◌%◌, ◌==◌, ℕ, zero, suc, true, List, [], ◌∷◌, Option, Some, None, length, map, replicate, slice_get, slice_set, slice_index_or, refl, sym, ap, ap₂, ◌∙◌, subst, arith}
use Rattle.std.specs.List.{All}
use Rattle.game_rules.specs.Game.{Game}
use Rattle.frame_state.specs.Names.{FrameOf, frame_of}
use Rattle.board_model.specs.Stored.{Asked, stored_first}
use Rattle.board_model.proofs.Places.{length_replicate}
use Rattle.frame_state.specs.Slots.{cleared, slot_of, in_place, held_at}
use Rattle.std.specs.Prelude.{IfSome, Bool, false, option_and_then, if◌then◌else◌}
use Rattle.task_board.specs.FrameStore.{AskedOf, PartsOf, FrameStoreOf, IsOfGame, frame_name, stored_as, sizes}

-- ---- lists under names

pub map_set : {X Y : Type 0} (name : X → Y) (xs : List X) (i : ℕ) (x : X) → map name (slice_set xs i x) ≡ slice_set (map name xs) i (name x)
map_set name [] i x = refl
map_set name (y ∷ xs) zero x = refl
map_set name (y ∷ xs) (suc i) x = ap (λ l. name y ∷ l) (map_set name xs i x)

pub map_replicate : {X Y : Type 0} (name : X → Y) (n : ℕ) (x : X) → map name (replicate n x) ≡ replicate n (name x)
map_replicate name zero x = refl
map_replicate name (suc n) x = ap (λ l. name x ∷ l) (map_replicate name n x)

pub map_length : {X Y : Type 0} (name : X → Y) (xs : List X) → length (map name xs) ≡ length xs
map_length name [] = refl
map_length name (x ∷ xs) = let h = map_length name xs in omega arith

pub all_same : {X : Type 0} (P : X → Type 0) (n : ℕ) (x : X) → P x → All P (replicate n x)
all_same P zero x p i d l = absurd (omega (arith, l))
all_same P (suc n) x p zero d l = p
all_same P (suc n) x p (suc i) d l = all_same P n x p i d (omega (arith, l))

pub all_set : {X : Type 0} (P : X → Type 0) (xs : List X) (k : ℕ) (x : X) → All P xs → P x → All P (slice_set xs k x)
all_set P [] k x h p i d l = absurd (omega (arith, l))
all_set P (y ∷ xs) zero x h p zero d l = p
all_set P (y ∷ xs) zero x h p (suc i) d l = h (suc i) d (omega (arith, l))
all_set P (y ∷ xs) (suc k) x h p zero d l = h 0 d (omega arith)
all_set P (y ∷ xs) (suc k) x h p (suc i) d l = all_set P xs k x (λ j e m. h (suc j) e (omega (arith, m))) p i d (omega (arith, l))

-- ---- slots

frame_is : (o : Option FrameOf) (g : Game) (f : ℕ) → IsOfGame g o → frame_name o ≡ Some f → o ≡ Some (frame_of g f)
frame_is None g f h e = absurd cc
frame_is (Some p) g f h e = let d : p.frame ≡ f = cc in ap Some (rw (← h, ← d) refl)

free_is : (o : Option FrameOf) → frame_name o ≡ None → o ≡ None
free_is None e = refl
free_is (Some p) e = absurd cc

pub slot_is : (xs : List (Option FrameOf)) (i : ℕ) (g : Game) (f : ℕ) → All (IsOfGame g) xs → slice_get (map frame_name xs) i ≡ Some (Some f) → slice_index_or xs i None ≡ Some (frame_of g f)
slot_is [] i g f h e = absurd cc
slot_is (x ∷ xs) zero g f h e = let d : frame_name x ≡ Some f = cc in frame_is x g f (h 0 x (omega arith)) d
slot_is (x ∷ xs) (suc i) g f h e = slot_is xs i g f (λ k d l. h (suc k) d (omega (arith, l))) e

pub slot_free : (xs : List (Option FrameOf)) (i : ℕ) → slice_get (map frame_name xs) i ≡ Some None → slice_index_or xs i None ≡ None
slot_free [] i e = absurd cc
slot_free (x ∷ xs) zero e = let d : frame_name x ≡ None = cc in free_is x d
slot_free (x ∷ xs) (suc i) e = slot_free xs i e

-- ---- what stands at a place

pub get_index : {X : Type 0} (xs : List X) (i : ℕ) (d : X) → i < length xs → slice_get xs i ≡ Some (slice_index_or xs i d)
get_index [] i d l = absurd (omega (arith, l))
get_index (x ∷ xs) zero d l = refl
get_index (x ∷ xs) (suc i) d l = get_index xs i d (omega (arith, l))

-- ---- a frame store with something put in

set_named : {X Y : Type 0} (name : X → Y) (xs : List X) (i k : ℕ) (x : X) (y : Y) → i ≡ k → name x ≡ y → map name (slice_set xs i x) ≡ slice_set (map name xs) k y
set_named name xs i k x y e h = map_set name xs i x ∙ ap₂ (λ a b. slice_set (map name xs) a b) e h

module _ (g : Game) (next : Option FrameOf) (slots : List (Option FrameOf)) (asking : List AskedOf) (thoughts : PartsOf) (turns : List (Option FrameOf)) where
  abbrev pub frame_store : FrameStoreOf
  frame_store = record { game = g; stored = stored_as next slots asking thoughts turns }

  pub with_asked : (i k : ℕ) (x : AskedOf) (y : Option Asked) → i ≡ k → x.asked ≡ y
      → record { game = g; stored = stored_as next slots (slice_set asking i x) thoughts turns } ≡ record frame_store { stored = record frame_store.stored { asking = slice_set frame_store.stored.asking k y } }
  with_asked i k x y e h = ap (λ l. record frame_store { stored = record frame_store.stored { asking = l } }) (set_named (λ (a : AskedOf). a.asked) asking i k x y e h)

  pub with_turn : (later : Option FrameOf) (f i k : ℕ) (x : Option FrameOf) (y : Option ℕ) → frame_name later ≡ Some f → i ≡ k → frame_name x ≡ y
      → record { game = g; stored = stored_as later slots asking thoughts (slice_set turns i x) } ≡ record frame_store { stored = record frame_store.stored { next = Some f; turns = slice_set frame_store.stored.turns k y } }
  with_turn later f i k x y n e h = ap₂ (λ m l. record frame_store { stored = record frame_store.stored { next = m; turns = l } }) n (set_named frame_name turns i k x y e h)

  pub with_frame : (p : FrameOf) (f i k : ℕ) → p.frame ≡ f → i ≡ k
      → record { game = g; stored = stored_as None (slice_set slots i (Some p)) asking thoughts turns } ≡ record frame_store { stored = record frame_store.stored { next = None; slots = slice_set frame_store.stored.slots k (Some f) } }
  with_frame p f i k n e = ap (λ l. record frame_store { stored = record frame_store.stored { next = None; slots = l } }) (set_named frame_name slots i k (Some p) (Some f) e (ap Some n))

  pub with_no_thoughts : (t : PartsOf) → t.parts ≡ []
      → record { game = g; stored = stored_as next slots asking t turns } ≡ record frame_store { stored = record frame_store.stored { thoughts = [] } }
  with_no_thoughts t e = ap (λ l. record frame_store { stored = record frame_store.stored { thoughts = l } }) e

  pub shown : (i j k : ℕ) → i ≡ k → j ≡ k
      → record { game = g; stored = stored_as next (slice_set slots i None) asking thoughts (slice_set turns j None) } ≡ record frame_store { stored = record frame_store.stored { slots = slice_set frame_store.stored.slots k None; turns = slice_set frame_store.stored.turns k None } }
  shown i j k e d = ap₂ (λ l m. record frame_store { stored = record frame_store.stored { slots = l; turns = m } }) (set_named frame_name slots i k None None e refl) (set_named frame_name turns j k None None d refl)

-- ---- the first of all, and a slot that is freed

pub first_is : (g : Game) (slots agents : ℕ) → agents ≡ length g.trees
    → stored_as (Some (frame_of g 1)) (replicate slots None) (replicate agents (record { game = g; asked = None })) (record { game = g; parts = [] }) (replicate slots None)
    ≡ stored_first (sizes (record { game = g; stored = stored_as (Some (frame_of g 1)) (replicate slots None) (replicate agents (record { game = g; asked = None })) (record { game = g; parts = [] }) (replicate slots None) }))
first_is g slots agents e =
    let many : length (map frame_name (replicate slots None)) ≡ slots = map_length frame_name (replicate slots None) ∙ length_replicate slots None in
    ap₂ (λ l (m : List (Option Asked) × List (Option ℕ)). record { next = Some 1; slots = l; asking = m.0; thoughts = []; turns = m.1 })
    (map_replicate frame_name slots None ∙ ap (λ n. replicate n None) (sym many))
    (ap₂ (λ x y. (x, y))
    (map_replicate (λ (a : AskedOf). a.asked) agents (record { game = g; asked = None }) ∙ ap (λ n. replicate n None) e)
    (map_replicate frame_name slots None ∙ ap (λ n. replicate n None) (sym many)))

pub cleared_is : (xs : List (Option FrameOf)) (g : Game) (f : ℕ) → All (IsOfGame g) xs → slice_get (map frame_name xs) (f % length (map frame_name xs)) ≡ Some (Some f) → cleared xs f ≡ slice_set xs (f % length xs) None
cleared_is xs g f h e =
    let s = slot_is xs (f % length xs) g f h (subst (λ n. slice_get (map frame_name xs) (f % n) ≡ Some (Some f)) (map_length frame_name xs) e) in
    let same : (f == f) ≡ true = search rules in
    rw (s, same) refl

-- ---- what stands in a slot

of_game : (g : Game) (f : ℕ) (o : Option FrameOf) → IsOfGame g o → IfSome (option_and_then (λ p. if p.frame == f then Some p else None) o) (λ p. p.game ≡ g)
of_game g f None h = tt
of_game g f (Some p) h = chosen (p.frame == f)
  where
    chosen : (b : Bool) → IfSome (if b then Some p else None) (λ (q : FrameOf). q.game ≡ g)
    chosen true = h
    chosen false = tt

-- a frame's parameters are of the frame store's game
pub held_own : (g : Game) (slots : List (Option FrameOf)) (f : ℕ) → 0 < length slots → All (IsOfGame g) slots → IfSome (held_at slots f) (λ p. p.game ≡ g)
held_own g slots f some all = of_game g f (in_place slots f) (all (slot_of slots f) None (omega arith))
