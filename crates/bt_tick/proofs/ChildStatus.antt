-- What the machine does with the status of a child is what the open node does with it.
use Rattle.std.proofs.Common.{◌≡◌, ℕ, suc, ◌+◌, ◌<◌, ◌≤◌, ◌⊎◌, inl, inr, List, length, drop, refl, sym, ap, ◌∙◌, subst, arith}
use Rattle.bt_nodes.specs.declared.node.Status.{Status}
use Rattle.bt_nodes.specs.declared.node.Status.TheVariants.{Success, Failure, Running}
use Rattle.bt_nodes.specs.Plain.{Plain, Kind, Seq, Fallback, Composite, Star, Par, Tries, Ticks, Forest, none, tree}
use Rattle.bt_nodes.specs.Sizes.{size, count}
use Rattle.game_rules.specs.View.{View}
use Rattle.game_rules.specs.Tick.{State, Result, gives, goes, stops, put}
use Rattle.bt_tick.specs.Children.{children_of}
use Rattle.bt_tick.specs.Kinds.{HasList}
use Rattle.bt_tick.specs.Suspended.{Open, go_on, close, close_at}
use Rattle.bt_tick.specs.Places.{Standing, Nested, Resting, limit_of, weight_of, weight_all}
use Rattle.bt_tick.specs.Machine.{opens, rest_of, with_parts, Keeps, whole_of, Placed, weight}
use Rattle.bt_tick.specs.declared.machine.Mode.{Mode}
use Rattle.bt_tick.specs.declared.machine.Mode.TheVariants.{Up}
use Rattle.bt_tick.specs.declared.machine.Machine.{Machine}
use Rattle.bt_tick.proofs.Nests.{closed_at}
use Rattle.bt_tick.proofs.Leaving.{left_keeps, stopped_placed, left_falls, rest_at}

-- ---- what an open node does by a status

module _ (v : View) (f : Open) (s : State) where
  pub closes : (p : Plain) (r : Result) → f.node ≡ p → close_at v p f.number f.next f.won f.lost r ≡ close v f r
  closes p r is = ap (λ q. close_at v q f.number f.next f.won f.lost r) (sym is)

  pub line_goes : (kind : Kind) (cs : Forest) (st : Status) → f.node ≡ Composite kind cs → st ≡ goes kind → rest_of v f s ≡ close v f (gives st s)
  line_goes kind cs st is e = rest_at v f s (Composite kind cs) is ∙ by kind ∙ ap (λ x. close_at v (Composite kind cs) f.number f.next f.won f.lost (gives x s)) (sym e) ∙ closes (Composite kind cs) (gives st s) is
    where
      by : (k : Kind) → go_on v (Composite k cs) f.number f.next f.won f.lost s ≡ close_at v (Composite k cs) f.number f.next f.won f.lost (gives (goes k) s)
      by Seq = refl
      by Fallback = refl

  pub line_stops : (kind : Kind) (cs : Forest) (st : Status) → f.node ≡ Composite kind cs → (st ≡ stops kind) ⊎ (st ≡ Running) → gives st s ≡ close v f (gives st s)
  line_stops kind cs st is e = by kind st e ∙ closes (Composite kind cs) (gives st s) is
    where
      at_status : (k : Kind) (x y : Status) → x ≡ y → gives y s ≡ close_at v (Composite k cs) f.number f.next f.won f.lost (gives y s) → gives x s ≡ close_at v (Composite k cs) f.number f.next f.won f.lost (gives x s)
      at_status k x y e h = subst (λ z. gives z s ≡ close_at v (Composite k cs) f.number f.next f.won f.lost (gives z s)) (sym e) h

      by : (k : Kind) (x : Status) → (x ≡ stops k) ⊎ (x ≡ Running) → gives x s ≡ close_at v (Composite k cs) f.number f.next f.won f.lost (gives x s)
      by Seq x (inl e) = at_status Seq x Failure e refl
      by Seq x (inr e) = at_status Seq x Running e refl
      by Fallback x (inl e) = at_status Fallback x Success e refl
      by Fallback x (inr e) = at_status Fallback x Running e refl

  -- a seq* or a fallback* remembers where it goes on, and forgets where it stops
  pub star_goes : (kind : Kind) (cs : Forest) (st : Status) → f.node ≡ Star kind cs → st ≡ goes kind → rest_of v f (put f.number f.next s) ≡ close v f (gives st s)
  star_goes kind cs st is e =
      ap (λ q. go_on v q f.number f.next f.won f.lost (put f.number f.next s)) is ∙ by kind
      ∙ ap (λ x. close_at v (Star kind cs) f.number f.next f.won f.lost (gives x s)) (sym e) ∙ closes (Star kind cs) (gives st s) is
    where
      by : (k : Kind) → go_on v (Star k cs) f.number f.next f.won f.lost (put f.number f.next s) ≡ close_at v (Star k cs) f.number f.next f.won f.lost (gives (goes k) s)
      by Seq = refl
      by Fallback = refl

  pub star_stops : (kind : Kind) (cs : Forest) (st : Status) → f.node ≡ Star kind cs → st ≡ stops kind → gives (stops kind) (put f.number 0 s) ≡ close v f (gives st s)
  star_stops kind cs st is e =
      by kind
      ∙ ap (λ x. close_at v (Star kind cs) f.number f.next f.won f.lost (gives x s)) (sym e) ∙ closes (Star kind cs) (gives st s) is
    where
      by : (k : Kind) → gives (stops k) (put f.number 0 s) ≡ close_at v (Star k cs) f.number f.next f.won f.lost (gives (stops k) s)
      by Seq = refl
      by Fallback = refl

  pub star_runs : (kind : Kind) (cs : Forest) (st : Status) → f.node ≡ Star kind cs → st ≡ Running → gives Running s ≡ close v f (gives st s)
  star_runs kind cs st is e = by kind ∙ ap (λ x. close_at v (Star kind cs) f.number f.next f.won f.lost (gives x s)) (sym e) ∙ closes (Star kind cs) (gives st s) is
    where
      by : (k : Kind) → gives Running s ≡ close_at v (Star k cs) f.number f.next f.won f.lost (gives Running s)
      by Seq = refl
      by Fallback = refl

  -- what a node that doesn't list its children does at one status
  pub closes_at : (p : Plain) (st at : Status) (r : Result) → f.node ≡ p → st ≡ at → r ≡ close_at v p f.number f.next f.won f.lost (gives at s) → r ≡ close v f (gives st s)
  closes_at p st at r is e h = h ∙ ap (λ x. close_at v p f.number f.next f.won f.lost (gives x s)) (sym e) ∙ closes p (gives st s) is

  pub tries_passes : (k : ℕ) (c : Plain) (st : Status) → f.node ≡ Tries k c → (st ≡ Success) ⊎ (st ≡ Running) → gives st s ≡ close v f (gives st s)
  tries_passes k c st is (inl e) = closes_at (Tries k c) st Success (gives st s) is e (ap (λ x. gives x s) e)
  tries_passes k c st is (inr e) = closes_at (Tries k c) st Running (gives st s) is e (ap (λ x. gives x s) e)

  pub ticks_ends : (k : ℕ) (c : Plain) (st : Status) → f.node ≡ Ticks k c → (st ≡ Success) ⊎ (st ≡ Failure) → gives st (put f.number 0 s) ≡ close v f (gives st s)
  ticks_ends k c st is (inl e) = closes_at (Ticks k c) st Success (gives st (put f.number 0 s)) is e (ap (λ x. gives x (put f.number 0 s)) e)
  ticks_ends k c st is (inr e) = closes_at (Ticks k c) st Failure (gives st (put f.number 0 s)) is e (ap (λ x. gives x (put f.number 0 s)) e)

-- ---- where it stands

list_more : (p : Plain) (k n m : ℕ) → HasList p → n < limit_of p k → m ≤ n + 1 → m < limit_of p (suc k)
list_more (Composite kind cs) k n m list l h = omega arith
list_more (Star kind cs) k n m list l h = omega arith
list_more (Par q cs) k n m list l h = omega arith
list_more _ k n m list l h = absurd list

-- a node that lists children is at rest when one of them has given its status, which it may count
pub rested : (whole : Plain) (e : ℕ) (f : Open) (fs : List Open) (won lost : ℕ) → HasList f.node → won + lost ≤ f.won + f.lost + 1 → Standing whole f.next e (length fs) f → Nested whole (f.number + size f.node) fs
    → Resting whole e (record f { won = won; lost = lost }) fs
rested whole e f fs won lost list more r n = (
  record {
    sits = r.sits;
    some = omega arith;
    begun = r.begun;
    counts = list_more f.node f.next (f.won + f.lost) (won + lost) list r.counts more;
    following = r.following;
    deep = r.deep;
  },
  n,
)

-- the only child of a node ends where the node ends
pub only_closed : (whole : Plain) (e around : ℕ) (f : Open) (c : Plain) → children_of f.node ≡ tree c none → Standing whole f.next e around f → e ≡ f.number + size f.node
only_closed whole e around f c only r = closed_at whole f.next e around f r (let n = ap count only in omega (arith, n, r.some))

-- ---- a node that is left

module _ {T A : Type 0} (old new : Machine T A) (mode : Mode T) (st : Status) (e : ℕ) (f : Open) (status : Status) (m : List ℕ) where
  pub handed : mode ≡ Up st e → new.stack ≡ drop 1 old.stack → new.memory ≡ m → new.wants ≡ old.wants → new.tree ≡ old.tree
      → e ≡ f.number + size f.node → Nested (whole_of old) (f.number + size f.node) (opens (drop 1 old.stack))
      → ((v : View) (s : State) → gives st (with_parts m old.wants.items s) ≡ close v f (gives status (with_parts old.memory old.wants.items s)))
      → ((v : View) → Keeps v new mode old (drop 1 old.stack) (λ s. close v f (gives status s))) × (Placed new mode × (weight new mode ≤ weight_of f + weight_all (opens (drop 1 old.stack))))
  handed is left remembers wants same at nested does = (
    λ v. left_keeps old new mode st e is left m remembers wants v (λ s. close v f (gives status s)) (does v),
    (stopped_placed old new mode st e is left f at nested same, left_falls old new mode st e is left f),
  )
