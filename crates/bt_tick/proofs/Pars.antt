-- What passing a child of a par that gives its status at once keeps.
use Rattle.std.proofs.Common.{◌≡◌, ℕ, ◌+◌, ◌≤◌, List, [], refl, sym, ap, ◌∙◌, subst, arith}
use Rattle.bt_nodes.specs.declared.node.Status.{Status}
use Rattle.bt_nodes.specs.declared.node.Status.TheVariants.{Success, Failure, Running}
use Rattle.bt_nodes.specs.Plain.{Plain, Par, tree}
use Rattle.bt_nodes.specs.Sizes.{size}
use Rattle.game_rules.specs.View.{View}
use Rattle.game_rules.specs.Tick.{State, gives, tick}
use Rattle.bt_tick.specs.Children.{children_of, from_child}
use Rattle.bt_tick.specs.Kinds.{HasList, IsPar}
use Rattle.bt_tick.specs.Suspended.{Open, go_on, close, close_at, won_by, lost_by, with_status}
use Rattle.bt_tick.specs.Places.{Resting, limit_of, weight_of}
use Rattle.bt_tick.specs.Machine.{rest_of}
use Rattle.bt_tick.proofs.ChildStatus.{rested}
use Rattle.bt_tick.proofs.Nests.{begun, entered_keeps, entered_nested, entered_falls}

-- a par lists its children
pub par_lists : (p : Plain) → IsPar p → HasList p
par_lists (Par m cs) par = tt
par_lists _ par = absurd par

-- as many of its children may be counted as were begun
pub limits : (p : Plain) (begun : ℕ) → IsPar p → limit_of p begun ≡ begun
limits (Par m cs) begun par = refl
limits _ begun par = absurd par

-- a status counts at most once
pub counts_one : (st : Status) (w l : ℕ) → (w + won_by st) + (l + lost_by st) ≤ w + l + 1
counts_one Success w l = omega arith
counts_one Failure w l = omega arith
counts_one Running w l = omega arith

-- a par does by a status what is left of it once the status is counted
pub counted_rest : (v : View) (f : Open) (st : Status) (s : State) → IsPar f.node → rest_of v (with_status st f) s ≡ close v f (gives st s)
counted_rest v f st s par = by f.node par st
  where
    by : (p : Plain) → IsPar p → (x : Status) → go_on v p f.number f.next (f.won + won_by x) (f.lost + lost_by x) s ≡ close_at v p f.number f.next f.won f.lost (gives x s)
    by (Par m cs) h Success = let e : f.lost + 0 ≡ f.lost = omega arith in ap (λ l. go_on v (Par m cs) f.number f.next (f.won + 1) l s) e
    by (Par m cs) h Failure = let e : f.won + 0 ≡ f.won = omega arith in ap (λ w. go_on v (Par m cs) f.number f.next w (f.lost + 1) s) e
    by (Par m cs) h Running =
        let a : f.won + 0 ≡ f.won = omega arith in
        let b : f.lost + 0 ≡ f.lost = omega arith in
        ap (λ w. go_on v (Par m cs) f.number f.next w (f.lost + 0) s) a ∙ ap (λ l. go_on v (Par m cs) f.number f.next f.won l s) b
    by _ h x = absurd h

-- a child that was passed
module _ (f : Open) (c : Plain) (at : ℕ) (there : from_child f.next (children_of f.node) ≡ tree c (from_child (f.next + 1) (children_of f.node))) (par : IsPar f.node) (st : Status) where
  -- what is left of the par with the child's status counted is what was left of it
  pub passed_keeps : (v : View) (whole : Plain) (fs : List Open) → Resting whole at f fs → (s t : State) → gives st t ≡ tick v c at s → rest_of v (with_status st (begun f)) t ≡ rest_of v f s
  passed_keeps v whole fs (r, n) s t is = counted_rest v (begun f) st t par ∙ ap (close v (begun f)) is ∙ entered_keeps f [] c at there v (par_lists f.node par) r.following s

  -- it rests before the child that follows
  pub passed_rests : (whole : Plain) (fs : List Open) (after : ℕ) → after ≡ at + size c → Resting whole at f fs → Resting whole after (with_status st (begun f)) fs
  passed_rests whole fs after is rests =
      let (r, n) = entered_nested f fs c at there whole rests in
      subst (λ e. Resting whole e (with_status st (begun f)) fs) (sym is)
      (rested whole (at + size c) (begun f) fs (f.won + won_by st) (f.lost + lost_by st) (par_lists f.node par) (counts_one st f.won f.lost) r n)

  -- no more steps are left than before
  pub passed_falls : weight_of (with_status st (begun f)) ≤ weight_of f
  passed_falls = omega (arith, entered_falls f [] c at there)
