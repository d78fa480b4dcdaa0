-- What the machine does with a node that is ticked is what the node's tick does.
use Rattle.std.proofs.Common.{◌≡◌, ℕ, ◌+◌, ◌*◌, ◌<◌, ◌≤◌, List, [], ◌∷◌, ◌++◌, Bool, true, false, nat_lt, refl, sym, ap, ◌∙◌, subst, rules, arith}
use Rattle.std.specs.Prelude.{if◌then◌else◌, Some}
use Rattle.std.proofs.lemmas.Bool.Decides.{nat_tests}
use Rattle.grid_world.specs.declared.cell.Intent.{Intent}
use Rattle.bt_nodes.specs.declared.node.Node.{the_lemmas}
use Rattle.bt_nodes.specs.declared.node.Node as node
use Rattle.bt_nodes.specs.declared.node.Status.{Status}
use Rattle.bt_nodes.specs.declared.node.Status.TheVariants.{Success, Failure, Running}
use Rattle.bt_nodes.specs.Plain.{Plain, Kind, Composite, Not, Tries, Ticks, Wait, Does, Forest, plain}
use Rattle.bt_nodes.specs.Sizes.{size}
use Rattle.game_rules.specs.declared.leaf_result.LeafResult.{LeafResult}
use Rattle.game_rules.specs.declared.leaf_result.LeafResult.TheVariants.{Says}
use Rattle.game_rules.specs.View.{View}
use Rattle.game_rules.specs.Tick.{State, gives, put, want, number_of, test, meaning, act, tick}
use Rattle.bt_tick.specs.LeafResults.{deed_of}
use Rattle.bt_tick.specs.Suspended.{Open, go_on, close_at, unwind}
use Rattle.bt_tick.specs.Places.{Sits, Nested}
use Rattle.bt_tick.specs.Machine.{opens, with_parts}
use Rattle.bt_tick.specs.declared.machine.Machine.{Machine}
use Rattle.bt_tick.proofs.Trees.{size-children, sits_below}

-- ---- the plain trees of nodes with no child

pub plain-Wait : (A : Type 0) (n : ℕ) → plain {A = A} (node.Wait n) ≡ Wait n
plain-Wait A n = search (rules, the_lemmas)

-- ---- what a node with this number does

tested : (s : State) (b : Bool) (st : Status) → st ≡ (if b then Success else Failure) → gives st s ≡ test b s
tested s true st e = ap (λ x. gives x s) e
tested s false st e = ap (λ x. gives x s) e

module _ (v : View) (p : Plain) (n : ℕ) (s : State) where
  -- a node of this kind
  pub ticks_as : (q : Plain) → p ≡ q → tick v q n s ≡ tick v p n s
  ticks_as q is = sym (ap (λ x. tick v x n s) is)

  pub line_begins : (kind : Kind) (cs : Forest) → p ≡ Composite kind cs → go_on v p n 0 0 0 s ≡ tick v p n s
  line_begins kind cs is = ap (λ x. go_on v x n 0 0 0 s) is ∙ ticks_as (Composite kind cs) is

  pub not_begins : (c d : Plain) → p ≡ Not c → d ≡ c → close_at v p n 1 0 0 (tick v d (n + 1) s) ≡ tick v p n s
  not_begins c d is e =
      ap (λ x. close_at v x n 1 0 0 (tick v d (n + 1) s)) is ∙ ap (λ x. close_at v (Not c) n 1 0 0 (tick v x (n + 1) s)) e
      ∙ ticks_as (Not c) is

  -- below its number of ticks
  module _ (k lost : ℕ) (named : lost ≡ number_of n s) where
    is_below : lost < k → nat_lt (number_of n s) k ≡ true
    is_below h = let l : number_of n s < k = omega (arith, h, named) in grind (arith, nat_tests)

    is_past : k ≤ lost → nat_lt (number_of n s) k ≡ false
    is_past h = let l : k ≤ number_of n s = omega (arith, h, named) in grind (arith, nat_tests)

    pub tries_begins : (c d : Plain) → p ≡ Tries k c → d ≡ c → lost < k → close_at v p n 1 0 lost (tick v d (n + 1) s) ≡ tick v p n s
    tries_begins c d is e h =
        ap (λ x. close_at v x n 1 0 lost (tick v d (n + 1) s)) is ∙ ap (λ x. close_at v (Tries k c) n 1 0 lost (tick v x (n + 1) s)) e
        ∙ ap (λ j. close_at v (Tries k c) n 1 0 j (tick v c (n + 1) s)) named
        ∙ sym (ap (λ b. if b then (close_at v (Tries k c) n 1 0 (number_of n s) (tick v c (n + 1) s)) else gives Failure s) (is_below h))
        ∙ ticks_as (Tries k c) is

    pub tries_over : (c : Plain) → p ≡ Tries k c → k ≤ lost → gives Failure s ≡ tick v p n s
    tries_over c is h =
        sym (ap (λ b. if b then (close_at v (Tries k c) n 1 0 (number_of n s) (tick v c (n + 1) s)) else gives Failure s) (is_past h))
        ∙ ticks_as (Tries k c) is

    pub ticks_begins : (c d : Plain) → p ≡ Ticks k c → d ≡ c → lost < k → close_at v p n 1 0 lost (tick v d (n + 1) s) ≡ tick v p n s
    ticks_begins c d is e h =
        ap (λ x. close_at v x n 1 0 lost (tick v d (n + 1) s)) is ∙ ap (λ x. close_at v (Ticks k c) n 1 0 lost (tick v x (n + 1) s)) e
        ∙ ap (λ j. close_at v (Ticks k c) n 1 0 j (tick v c (n + 1) s)) named
        ∙ sym (ap (λ b. if b then (close_at v (Ticks k c) n 1 0 (number_of n s) (tick v c (n + 1) s)) else gives Failure (put n 0 s)) (is_below h))
        ∙ ticks_as (Ticks k c) is

    pub ticks_over : (c : Plain) → p ≡ Ticks k c → k ≤ lost → gives Failure (put n 0 s) ≡ tick v p n s
    ticks_over c is h =
        sym (ap (λ b. if b then (close_at v (Ticks k c) n 1 0 (number_of n s) (tick v c (n + 1) s)) else gives Failure (put n 0 s)) (is_past h))
        ∙ ticks_as (Ticks k c) is

-- a leaf that comes to this
pub acts_alone : (v : View) (p : Plain) (d : LeafResult) → deed_of v p ≡ Some d → size p ≡ 1
acts_alone v (Does leaf) d e = refl
acts_alone v _ d e = absurd (cc)

pub acts : (v : View) (p : Plain) (n : ℕ) (s : State) (d : LeafResult) → deed_of v p ≡ Some d → act d s ≡ tick v p n s
acts v (Does leaf) n s d e =
    let is : d ≡ meaning leaf v = cc in
    ap (λ x. act x s) is
acts v _ n s d e = absurd (cc)

-- one that says this, by its status
pub says : (v : View) (p : Plain) (n : ℕ) (s : State) (b : Bool) (st : Status) → deed_of v p ≡ Some (Says b) → st ≡ (if b then Success else Failure) → gives st s ≡ tick v p n s
says v p n s b st d e = tested s b st e ∙ acts v p n s (Says b) d

-- ---- where it stands, and how many steps are left

pub answered_nested : (whole : Plain) (e n : ℕ) (p : Plain) (fs : List Open) → e ≡ n + size p → Nested whole (n + size p) fs → Nested whole e fs
answered_nested whole e n p fs at nested = subst (λ k. Nested whole k fs) (sym at) nested

pub answered_falls : (p : Plain) (w : ℕ) → 1 + w < 2 * size p + w
answered_falls p w = omega (arith, size-children p)

pub number_below : (whole p : Plain) (n : ℕ) → Sits whole n p → n < size whole
number_below whole p n sits = omega (arith, sits_below whole p n sits, size-children p)

module _ {T A : Type 0} (old new : Machine T A) (i : Intent) (same : new.stack ≡ old.stack) where
  pub wanted_keeps : new.memory ≡ old.memory → new.wants.items ≡ old.wants.items ++ i ∷ [] → (v : View) (s : State)
      → unwind v (opens new.stack) (gives Running (with_parts new.memory new.wants.items s)) ≡ unwind v (opens old.stack) (gives Running (want i (with_parts old.memory old.wants.items s)))
  wanted_keeps memory wants v s =
      ap (λ fs. unwind v (opens fs) (gives Running (with_parts new.memory new.wants.items s))) same
      ∙ ap (λ m. unwind v (opens old.stack) (gives Running (with_parts m new.wants.items s))) memory
      ∙ ap (λ w. unwind v (opens old.stack) (gives Running (with_parts old.memory w s))) wants
