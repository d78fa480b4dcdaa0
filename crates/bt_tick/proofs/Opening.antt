-- What opening a node keeps.
use Rattle.std.proofs.Common.{◌≡◌, ℕ, suc, ◌+◌, ◌*◌, ◌<◌, ◌≤◌, List, [], ◌∷◌, length, get_or, refl, sym, ap, ◌∙◌, subst, arith}
use Rattle.std.specs.Prelude.{IfOk, Ok, Err, Result as Res}
use Rattle.std.proofs.Common.{Bor}
use Rattle.bt_nodes.specs.Plain.{Plain, Kind, Composite, Star, Par, Forest, none, tree, plain, plains}
use Rattle.bt_nodes.specs.Sizes.{size, sizes, count}
use Rattle.bt_nodes.specs.Bounds.{bounds, Fits}
use Rattle.bt_nodes.specs.Trees.{plain_of}
use Rattle.bt_nodes.specs.declared.node.Node.{Node}
use Rattle.bt_nodes.proofs.MemoryBounds.{length-bounds}
use Rattle.game_rules.specs.View.{View}
use Rattle.game_rules.specs.Tick.{State, tick, number_of}
use Rattle.fiber_stack.specs.declared.frame.Frame.{Frame}
use Rattle.bt_tick.specs.Children.{children_of, child_number}
use Rattle.bt_tick.specs.Kinds.{HasList}
use Rattle.bt_tick.specs.Suspended.{Open, go_on}
use Rattle.bt_tick.specs.Places.{Sits, Standing, Nested, Resting, limit_of, weight_of}
use Rattle.bt_tick.specs.Machine.{opens, end_of, StandsAt, whole_of, Placed, rest_of}
use Rattle.bt_tick.specs.declared.machine.Mode.{Mode}
use Rattle.bt_tick.specs.declared.machine.Mode.TheVariants.{Down}
use Rattle.bt_tick.specs.declared.machine.Machine.{Machine}
use Rattle.bt_tick.proofs.Trees.{size-children, child_there, child_next, sits_child, sits_below, sits_whole, bound_at, sizes_from}
use Rattle.bt_tick.proofs.Steps.{begin_star}
use Rattle.bt_tick.proofs.Nests.{room}

pub if_ok : {X E : Type 0} {P Q : X → Type 0} (r : Res X E) → ((x : X) → P x → Q x) → IfOk r P → IfOk r Q
if_ok (Ok x) f h = f x h
if_ok (Err e) f h = h

pub placed_by : {T A : Type 0} (old new : Machine T A) (mode : Mode T) (frames : List (Frame T)) → new.tree ≡ old.tree → new.stack ≡ frames
    → Nested (whole_of old) (end_of mode) (opens frames) → StandsAt (whole_of old) (length frames) mode → Placed new mode
placed_by old new mode frames t e n s = record {
  nested = subst (λ r. Nested (plain_of r.now) (end_of mode) (opens new.stack)) (sym t) (subst (λ fs. Nested (whole_of old) (end_of mode) (opens fs)) (sym e) n);
  stands = subst (λ r. StandsAt (plain_of r.now) (length new.stack) mode) (sym t) (subst (λ fs. StandsAt (whole_of old) (length fs) mode) (sym e) s);
}

-- ---- a node with one child

module _ (whole : Plain) (f : Open) (fs : List Open) (c : Plain) (only : children_of f.node ≡ tree c none) (stands : Standing whole 1 (f.number + size f.node) (length fs) f) where
  only_size : size f.node ≡ 1 + size c
  only_size = let e = ap sizes only in omega (arith, e, size-children f.node)

  pub only_nested : f.next ≡ 1 → Nested whole (f.number + size f.node) fs → Nested whole (f.number + 1 + size c) (f ∷ fs)
  only_nested one n =
      let e : f.number + size f.node ≡ f.number + 1 + size c = omega (arith, only_size) in
      (subst (λ k. Standing whole k (f.number + 1 + size c) (length fs) f) (sym one) (subst (λ k. Standing whole 1 k (length fs) f) e stands), n)

  pub only_sits : Sits whole (f.number + 1) c
  only_sits = sits_child whole f.node f.number 0 c none only stands.sits

-- ---- the children before the one that is begun

module _ (whole p : Plain) (n k : ℕ) (sits : Sits whole n p) (there : k < count (children_of p)) where
  pub child_within : child_number k (children_of p) (n + 1) < size whole
  child_within =
      let (c, e) = child_there (children_of p) k there in
      omega (arith, sits_below whole c (child_number k (children_of p) (n + 1)) (sits_child whole p n k c _ e sits), size-children c)

  pub child_passed : (at next : ℕ) → at ≡ child_number k (children_of p) (n + 1) → ((q : Plain) → Sits whole at q → next ≡ at + size q) → next ≡ child_number (k + 1) (children_of p) (n + 1)
  child_passed at next is after =
      let (c, e) = child_there (children_of p) k there in
      after c (subst (λ m. Sits whole m c) (sym is) (sits_child whole p n k c _ e sits)) ∙ ap (λ m. m + size c) is ∙ sym (child_next (children_of p) k (n + 1) c _ e)

-- ---- a node with memory

module _ {T : Type 0} (p : Plain) (m : List ℕ) (f : Open) (fs : List Open) (kind : Kind) (nodes : List (Node T)) (is : f.node ≡ Star kind (plains nodes)) (fits : Fits p m)
    (sits : Sits p f.number f.node) (named : f.next ≡ get_or m f.number 0) where
  -- its number names a child
  pub star_next : f.next < count (children_of f.node)
  star_next =
      let b : get_or (bounds p) f.number 0 ≡ count (plains nodes) = bound_at p f.node f.number _ _ (ap bounds is) sits in
      let s : size f.node ≡ 1 + sizes (children_of f.node) = size-children f.node in
      let l : get_or m f.number 0 < get_or (bounds p) f.number 0 = fits.below f.number (omega (arith, s, sits_below p f.node f.number sits, length-bounds p, fits.same_length)) in
      omega (arith, named, l, b, ap (λ q. count (children_of q)) is)

  pub star_rests : (at : ℕ) → at ≡ child_number f.next (children_of f.node) (f.number + 1) → f.won ≡ 0 → f.lost ≡ 0 → length fs ≤ f.number → Nested p (f.number + size f.node) fs → Resting p at f fs
  star_rests at e won lost deep n = (
    record {
      sits = sits;
      some = omega arith;
      begun = omega (arith, star_next);
      counts = subst (λ q. f.won + f.lost < limit_of q (suc f.next)) (sym is) (omega (arith, won, lost));
      following = sym e;
      deep = deep;
    },
    n,
  )

  pub star_falls : weight_of f < 2 * size f.node
  star_falls = omega (arith, sizes_from (children_of f.node) f.next, size-children f.node)

-- it does what it does from that child on
pub star_begins : (v : View) (f : Open) (kind : Kind) (cs : Forest) → f.node ≡ Star kind cs → f.won ≡ 0 → f.lost ≡ 0 → (s : State) → f.next ≡ number_of f.number s → rest_of v f s ≡ tick v f.node f.number s
star_begins v f kind cs is won lost s at =
    ap (λ q. go_on v q f.number f.next f.won f.lost s) is ∙ ap (λ k. go_on v (Star kind cs) f.number f.next k f.lost s) won ∙ ap (λ k. go_on v (Star kind cs) f.number f.next 0 k s) lost
    ∙ begin_star v kind cs f.number f.next s at ∙ ap (λ q. tick v q f.number s) (sym is)

-- ---- when a node is opened

pub first_rests : (whole : Plain) (p : Plain) (n : ℕ) (fs : List Open) → HasList p → Sits whole n p → length fs ≤ n → Nested whole (n + size p) fs
    → Resting whole (n + 1) (record { node = p; number = n; next = 0; won = 0; lost = 0 }) fs
first_rests whole p n fs list sits deep nested = (record { sits = sits; some = omega arith; begun = omega arith; counts = counts p list; following = refl; deep = deep }, nested)
  where
    counts : (q : Plain) → HasList q → 0 + 0 < limit_of q 1
    counts (Composite kind cs) l = omega arith
    counts (Star kind cs) l = omega arith
    counts (Par m cs) l = omega arith
    counts _ l = absurd l

-- the number after a child is the one after its only parent
pub only_after : (p c : Plain) (n : ℕ) → children_of p ≡ tree c none → n + 1 + size c ≡ n + size p
only_after p c n only = let e = ap sizes only in omega (arith, e, size-children p)

pub only_stands : (whole : Plain) (f : Open) (c : Plain) (around : ℕ) → children_of f.node ≡ tree c none → Sits whole f.number f.node → f.next ≡ 1 → f.won + f.lost < limit_of f.node 1 → around ≤ f.number
    → Standing whole 1 (f.number + size f.node) around f
only_stands whole f c around only sits one counts deep = record {
  sits = sits;
  some = omega arith;
  begun = (let e = ap count only in omega (arith, e, one));
  counts = counts;
  following = ap (λ k. child_number k (children_of f.node) (f.number + 1)) one ∙ ap (λ cs. child_number 1 cs (f.number + 1)) only ∙ only_after f.node c f.number only;
  deep = deep;
}

-- ---- a node to be ticked

pub down_within : {T A : Type 0} (m : Machine T A) (mode : Mode T) (node : Bor (Node T)) (n : ℕ) → mode ≡ Down node n → Placed m mode → n + size (plain node.now) ≤ 255
down_within m mode node n is p = let s = subst (Placed m) is p in room m.tree.now (plain node.now) n s.stands.0

-- a machine with no open node begins the root
pub root_placed : {T A : Type 0} (m : Machine T A) (root : Bor (Node T)) → m.stack ≡ [] → plain root.now ≡ whole_of m → Placed m (Down root 0)
root_placed m root empty is = record {
  nested = subst (λ fs. Nested (whole_of m) (0 + size (plain root.now)) (opens fs)) (sym empty) tt;
  stands = (subst (Sits (whole_of m) 0) (sym is) (sits_whole (whole_of m)), (let e = ap length empty in omega (arith, e)));
}
