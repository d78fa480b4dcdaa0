-- What a node does from a child on is to tick that child, and then what it does by the child's status.
use Rattle.std.proofs.Common.{◌≡◌, ℕ, zero, suc, ◌+◌, ◌≤◌, refl, sym, ap, ◌∙◌, arith, zero-add}
use Rattle.bt_nodes.specs.Plain.{Plain, Kind, Composite, Star, Par, Forest, none, tree}
use Rattle.bt_nodes.specs.Sizes.{size, count}
use Rattle.game_rules.specs.View.{View}
use Rattle.game_rules.specs.Tick.{State, gives, on, on_kind, goes, stops, verdict, put, number_of, tick, tick_line, tick_star, tick_all}
use Rattle.bt_tick.specs.Children.{children_of, from_child, child_number}
use Rattle.bt_tick.specs.Kinds.{HasList}
use Rattle.bt_tick.specs.Suspended.{go_on, close_at}
use Rattle.bt_tick.proofs.Trees.{child_next, from_count}

module _ (v : View) where
  pub go_on_next : (p : Plain) → HasList p → (n k won lost : ℕ) (c : Plain) (s : State) → from_child k (children_of p) ≡ tree c (from_child (k + 1) (children_of p))
      → go_on v p n k won lost s ≡ close_at v p n (k + 1) won lost (tick v c (child_number k (children_of p) (n + 1)) s)
  go_on_next (Composite kind cs) list n k won lost c s h =
      let at : ℕ = child_number k cs (n + 1) in
      ap (λ r. tick_line v r kind at s) h
      ∙ ap (λ a. on_kind kind (tick v c at s) (tick_line v (from_child (k + 1) cs) kind a) (gives (stops kind))) (sym (child_next cs k (n + 1) c _ h))
  go_on_next (Star kind cs) list n k won lost c s h =
      let at : ℕ = child_number k cs (n + 1) in
      ap (λ r. tick_star v r kind 0 k n at s) h
      ∙ ap (λ a. on_kind kind (tick v c at s) (λ t. tick_star v (from_child (k + 1) cs) kind 0 (k + 1) n a (put n (k + 1) t)) (λ t. gives (stops kind) (put n 0 t)))
      (sym (child_next cs k (n + 1) c _ h))
  go_on_next (Par m cs) list n k won lost c s h =
      let at : ℕ = child_number k cs (n + 1) in
      let rest : Forest = from_child (k + 1) cs in
      ap (λ r. tick_all v r m (count cs) won lost at s) h
      ∙ ap (λ a. on (tick v c at s) (tick_all v rest m (count cs) (won + 1) lost a) (tick_all v rest m (count cs) won (lost + 1) a) (tick_all v rest m (count cs) won lost a))
      (sym (child_next cs k (n + 1) c _ h))
  go_on_next _ list n k won lost c s h = absurd list

  -- seq* and fallback* pass over the children that have ended
  star_from : (cs : Forest) (kind : Kind) (k i own at : ℕ) (s : State) → tick_star v cs kind k i own at s ≡ tick_star v (from_child k cs) kind 0 (i + k) own (child_number k cs at) s
  star_from none kind zero i own at s = refl
  star_from none kind (suc k) i own at s = refl
  star_from (tree c cs) kind zero i own at s = let e : i ≡ i + 0 = omega arith in ap (λ j. tick_star v (tree c cs) kind 0 j own at s) e
  star_from (tree c cs) kind (suc k) i own at s =
      let e : i + 1 + k ≡ i + suc k = omega arith in
      star_from cs kind k (i + 1) own (at + size c) s ∙ ap (λ j. tick_star v (from_child k cs) kind 0 j own (child_number k cs (at + size c)) s) e

  -- so they begin at the child that their number names
  pub begin_star : (kind : Kind) (cs : Forest) (n k : ℕ) (s : State) → k ≡ number_of n s → go_on v (Star kind cs) n k 0 0 s ≡ tick v (Star kind cs) n s
  begin_star kind cs n k s at =
      ap (λ i. tick_star v (from_child k cs) kind 0 i n (child_number k cs (n + 1)) s) (sym (zero-add k)) ∙ sym (star_from cs kind k 0 n (n + 1) s)
      ∙ ap (λ j. tick_star v cs kind j 0 n (n + 1) s) at

  -- where no child is left
  pub go_on_line : (kind : Kind) (cs : Forest) (n k won lost : ℕ) (s : State) → count cs ≤ k → go_on v (Composite kind cs) n k won lost s ≡ gives (goes kind) s
  go_on_line kind cs n k won lost s h = ap (λ r. tick_line v r kind (child_number k cs (n + 1)) s) (from_count cs k h)

  pub go_on_star : (kind : Kind) (cs : Forest) (n k won lost : ℕ) (s : State) → count cs ≤ k → go_on v (Star kind cs) n k won lost s ≡ gives (goes kind) (put n 0 s)
  go_on_star kind cs n k won lost s h = ap (λ r. tick_star v r kind 0 k n (child_number k cs (n + 1)) s) (from_count cs k h)

  pub go_on_all : (m : ℕ) (cs : Forest) (n k won lost : ℕ) (s : State) → count cs ≤ k → go_on v (Par m cs) n k won lost s ≡ gives (verdict m (count cs) won lost) s
  go_on_all m cs n k won lost s h = ap (λ r. tick_all v r m (count cs) won lost (child_number k cs (n + 1)) s) (from_count cs k h)
