-- What opening a child, and leaving a node, keep of the open nodes.
use Rattle.std.proofs.Common.{◌≡◌, ℕ, suc, ◌+◌, ◌*◌, ◌<◌, ◌≤◌, List, ◌∷◌, length, sym, ap, ◌∙◌, subst, arith}
use Rattle.bt_nodes.specs.Plain.{Plain, tree}
use Rattle.bt_nodes.specs.Sizes.{size, sizes, count}
use Rattle.bt_nodes.specs.Trees.{plain_of}
use Rattle.bt_nodes.specs.declared.tree.Tree.{Tree}
use Rattle.bt_nodes.proofs.WithinLimits.{tree_within}
use Rattle.game_rules.specs.View.{View}
use Rattle.game_rules.specs.Tick.{State, tick}
use Rattle.bt_tick.specs.Children.{children_of, from_child, child_number}
use Rattle.bt_tick.specs.Kinds.{HasList}
use Rattle.bt_tick.specs.Suspended.{Open, close_at, unwind}
use Rattle.bt_tick.specs.Places.{Sits, Standing, Nested, Resting, limit_of, weight_of, weight_all}
use Rattle.bt_tick.specs.Machine.{rest_of}
use Rattle.bt_tick.proofs.Trees.{size-children, from_count, child_next, child_split, child_above, sits_child, sits_below, below_count}
use Rattle.bt_tick.proofs.Steps.{go_on_next}

-- an open node whose next child is begun
abbrev pub begun : Open → Open
begun f = record f { next = f.next + 1 }

module _ (f : Open) (fs : List Open) (c : Plain) (at : ℕ) (there : from_child f.next (children_of f.node) ≡ tree c (from_child (f.next + 1) (children_of f.node))) where
  pub entered_keeps : (v : View) → HasList f.node → child_number f.next (children_of f.node) (f.number + 1) ≡ at → (s : State) → unwind v (begun f ∷ fs) (tick v c at s) ≡ unwind v fs (rest_of v f s)
  entered_keeps v list e s =
      ap (unwind v fs) (ap (λ n. close_at v f.node f.number (f.next + 1) f.won f.lost (tick v c n s)) (sym e) ∙ sym (go_on_next v f.node list f.number f.next f.won f.lost c s there))

  pub entered_sits : (whole : Plain) → Resting whole at f fs → Sits whole at c
  entered_sits whole (r, n) = subst (λ k. Sits whole k c) r.following (sits_child whole f.node f.number f.next c _ there r.sits)

  pub entered_deep : (whole : Plain) → Resting whole at f fs → suc (length fs) ≤ at
  entered_deep whole (r, n) = omega (arith, r.deep, r.following, child_above (children_of f.node) f.next (f.number + 1))

  pub entered_nested : (whole : Plain) → Resting whole at f fs → Nested whole (at + size c) (begun f ∷ fs)
  entered_nested whole (r, n) = (
    record {
      sits = r.sits;
      some = omega arith;
      begun = omega (arith, below_count (children_of f.node) f.next c _ there);
      counts = (let e : suc f.next ≡ f.next + 1 = omega arith in subst (λ k. f.won + f.lost < limit_of f.node k) e r.counts);
      following = child_next (children_of f.node) f.next (f.number + 1) c _ there ∙ ap (λ k. k + size c) r.following;
      deep = r.deep;
    },
    n,
  )

  pub entered_falls : 2 * size c + weight_all (begun f ∷ fs) ≤ weight_of f + weight_all fs
  entered_falls = let e = ap sizes there in omega (arith, e)

-- the number after the last node of an open node
pub ended_at : (whole : Plain) (counting e around : ℕ) (f : Open) → Standing whole counting e around f → e + sizes (from_child f.next (children_of f.node)) ≡ f.number + size f.node
ended_at whole counting e around f r = omega (arith, r.following, child_split (children_of f.node) f.next (f.number + 1), size-children f.node)

-- where no child is left it is the number of the next child
pub closed_at : (whole : Plain) (counting e around : ℕ) (f : Open) → Standing whole counting e around f → count (children_of f.node) ≤ f.next → e ≡ f.number + size f.node
closed_at whole counting e around f r h = let n = ap sizes (from_count (children_of f.node) f.next h) in omega (arith, n, ended_at whole counting e around f r)

-- the numbers of a node lie within its tree
pub room : {T : Type 0} (t : Tree T) (p : Plain) (n : ℕ) → Sits (plain_of t) n p → n + size p ≤ 255
room t p n s = omega (arith, sits_below (plain_of t) p n s, (tree_within t).few)
