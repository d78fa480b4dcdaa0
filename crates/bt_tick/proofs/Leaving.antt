-- What leaving a node keeps, by the status that it gives.
use Rattle.std.proofs.Common.{◌≡◌, ℕ, suc, ◌+◌, ◌≤◌, List, length, drop, sym, ap, ◌∙◌, subst, arith}
use Rattle.bt_nodes.specs.declared.node.Status.{Status}
use Rattle.bt_nodes.specs.Plain.{Plain, Kind, Composite, Star, Par, Forest, plains}
use Rattle.bt_nodes.specs.Sizes.{size, count}
use Rattle.bt_nodes.specs.Trees.{plain_of}
use Rattle.bt_nodes.specs.declared.node.Node.{Node}
use Rattle.bt_nodes.proofs.Forests.{count-plains}
use Rattle.game_rules.specs.View.{View}
use Rattle.game_rules.specs.Tick.{State, Result, gives, goes, put, verdict}
use Rattle.bt_tick.specs.Children.{children_of}
use Rattle.bt_tick.specs.Suspended.{Open, go_on, unwind}
use Rattle.bt_tick.specs.Places.{Nested, Resting, weight_of, weight_all}
use Rattle.bt_tick.specs.Machine.{opens, left_of, rest_of, with_parts, Keeps, whole_of, Placed, weight}
use Rattle.bt_tick.specs.declared.machine.Mode.{Mode}
use Rattle.bt_tick.specs.declared.machine.Mode.TheVariants.{Up}
use Rattle.bt_tick.specs.declared.machine.Machine.{Machine}
use Rattle.bt_tick.proofs.Steps.{go_on_line, go_on_star, go_on_all}
use Rattle.bt_tick.proofs.Nests.{closed_at}

module _ {T A : Type 0} (old new : Machine T A) (mode : Mode T) (st : Status) (e : ℕ) (is : mode ≡ Up st e) (left : new.stack ≡ drop 1 old.stack) where
  pub left_keeps : (m : List ℕ) → new.memory ≡ m → new.wants ≡ old.wants → (v : View) (then : State → Result)
      → ((s : State) → gives st (with_parts m old.wants.items s) ≡ then (with_parts old.memory old.wants.items s)) → Keeps v new mode old (drop 1 old.stack) then
  left_keeps m memory wants v then h s =
      ap (λ md. unwind v (opens new.stack) (left_of v md (with_parts new.memory new.wants.items s))) is
      ∙ ap (λ fs. unwind v (opens fs) (gives st (with_parts new.memory new.wants.items s))) left
      ∙ ap (λ n. unwind v (opens (drop 1 old.stack)) (gives st (with_parts n new.wants.items s))) memory
      ∙ ap (λ w. unwind v (opens (drop 1 old.stack)) (gives st (with_parts m w.items s))) wants
      ∙ ap (unwind v (opens (drop 1 old.stack))) (h s)

  left_placed : new.tree ≡ old.tree → Nested (whole_of old) e (opens (drop 1 old.stack)) → Placed new mode
  left_placed t n =
      subst (Placed new) (sym is) (record {
        nested = subst (λ r. Nested (plain_of r.now) e (opens new.stack)) (sym t) (subst (λ fs. Nested (whole_of old) e (opens fs)) (sym left) n);
        stands = tt;
      })

  -- left where it gives its status to what is around it
  pub stopped_placed : (f : Open) → e ≡ f.number + size f.node → Nested (whole_of old) (f.number + size f.node) (opens (drop 1 old.stack)) → new.tree ≡ old.tree → Placed new mode
  stopped_placed f at n t = left_placed t (subst (λ k. Nested (whole_of old) k (opens (drop 1 old.stack))) (sym at) n)

  -- left where none of its children is left
  pub ended_placed : (f : Open) → Resting (whole_of old) e f (opens (drop 1 old.stack)) → count (children_of f.node) ≤ f.next → new.tree ≡ old.tree → Placed new mode
  ended_placed f (r, n) h t = stopped_placed f (closed_at (whole_of old) (suc f.next) e (length (opens (drop 1 old.stack))) f r h) n t

  pub left_falls : (f : Open) → weight new mode ≤ weight_of f + weight_all (opens (drop 1 old.stack))
  left_falls f =
      let l : 1 + weight_all (opens (drop 1 old.stack)) ≤ weight_of f + weight_all (opens (drop 1 old.stack)) = omega arith in
      subst (λ md. weight new md ≤ weight_of f + weight_all (opens (drop 1 old.stack))) (sym is)
      (subst (λ fs. 1 + weight_all (opens fs) ≤ weight_of f + weight_all (opens (drop 1 old.stack))) (sym left) l)

-- no child is left
pub none_left : {T : Type 0} (f : Open) (nodes : List (Node T)) → children_of f.node ≡ plains nodes → length nodes ≤ f.next → count (children_of f.node) ≤ f.next
none_left f nodes e h = omega (arith, ap count e, count-plains nodes)

module _ (v : View) (f : Open) (s : State) where
  pub rest_at : (p : Plain) → f.node ≡ p → rest_of v f s ≡ go_on v p f.number f.next f.won f.lost s
  rest_at p e = ap (λ q. go_on v q f.number f.next f.won f.lost s) e

  pub ended_line : (kind : Kind) (cs : Forest) → f.node ≡ Composite kind cs → count (children_of f.node) ≤ f.next → gives (goes kind) s ≡ rest_of v f s
  ended_line kind cs is h = sym (rest_at (Composite kind cs) is ∙ go_on_line v kind cs f.number f.next f.won f.lost s (subst (λ p. count (children_of p) ≤ f.next) is h))

  pub ended_star : (kind : Kind) (cs : Forest) → f.node ≡ Star kind cs → count (children_of f.node) ≤ f.next → gives (goes kind) (put f.number 0 s) ≡ rest_of v f s
  ended_star kind cs is h = sym (rest_at (Star kind cs) is ∙ go_on_star v kind cs f.number f.next f.won f.lost s (subst (λ p. count (children_of p) ≤ f.next) is h))

  pub ended_all : (m : ℕ) (cs : Forest) (st : Status) → f.node ≡ Par m cs → count (children_of f.node) ≤ f.next → st ≡ verdict m (count cs) f.won f.lost → gives st s ≡ rest_of v f s
  ended_all m cs st is h e =
      ap (λ x. gives x s) e
      ∙ sym (rest_at (Par m cs) is ∙ go_on_all v m cs f.number f.next f.won f.lost s (subst (λ p. count (children_of p) ≤ f.next) is h))
