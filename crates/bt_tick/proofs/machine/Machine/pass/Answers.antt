use Rattle.std.proofs.Common.{◌≡◌, suc, ◌+◌, ◌≤◌, sym, ap, ◌∙◌, subst, refl, arith}
use Rattle.bt_nodes.specs.Plain.{plain, tree}
use Rattle.bt_nodes.specs.Heads.{listed}
use Rattle.bt_nodes.specs.Trees.{plain_of}
use Rattle.game_rules.specs.Tick.{gives, tick}
use Rattle.bt_tick.specs.Children.{children_of, from_child}
use Rattle.bt_tick.specs.Kinds.{IsPar}
use Rattle.bt_tick.specs.Places.{Sits, Resting, weight_of}
use Rattle.bt_tick.specs.Machine.{opened, rest_of, with_parts, whole_of}
use Rattle.bt_tick.specs.Views.{view_of}
use Rattle.bt_tick.proofs.Forests.{listed_child}
use Rattle.bt_tick.proofs.Nests.{entered_sits}
use Rattle.bt_tick.proofs.Pars.{par_lists, limits, passed_keeps, passed_rests, passed_falls}
use Rattle.bt_tick.proofs.SmallNumbers.{next_small}
use Rattle.bt_tick.proofs.machine.Machine.pass.Goals as goal

pub at_once-requires-clause-sits : goal.at_once-requires-clause-sits
at_once-requires-clause-sits g c =
    let inv = c.children.invariant in
    let p = plain c.children.par.node.now in
    let child = c.index-children-next.result in
    let par : IsPar p = subst (λ n. IsPar (plain n.now)) (sym inv.node) c.requires.par in
    let there = subst (λ k. from_child k (children_of p) ≡ tree (plain child) (from_child (k + 1) (children_of p))) (sym inv.next) (listed_child p _ c.children.next child (par_lists p par) (c.listed-children.ensures ∙ ap (λ n. listed (plain n.now)) (sym inv.node)) (omega (arith, c.children-test.true)) c.index-children-next.is) in
    subst (λ t. Sits (plain_of t.now) c.children.number (plain child)) (sym inv.tree)
    (entered_sits (opened c.children.par) c.requires.rests.0 (plain child) c.children.number there (whole_of c.args.self.now) (inv.rests c.requires.rests.0 c.requires.rests.1))

pub returns-in_default-clause-keeps : goal.returns-in_default-clause-keeps
returns-in_default-clause-keeps g c s =
    ap (λ m. rest_of (view_of c.args.view.now) (opened c.children.par) (with_parts m c.args.self.now.wants.items s)) (c.in_default.ensures.none refl) ∙ c.children.invariant.keeps s

pub overflow_add-par : goal.overflow_add-par
overflow_add-par g c =
    let rests = (c.children.invariant.rests c.requires.rests.0 c.requires.rests.1).0 in
    omega (arith, next_small c.args.self.now.tree.now (plain c.children.par.node.now) c.children.par.number rests.sits c.children.par.next rests.begun)

pub counted-par-requires : goal.counted-par-requires
counted-par-requires g c =
    let rests = (c.children.invariant.rests c.requires.rests.0 c.requires.rests.1).0 in
    let p = plain c.children.par.node.now in
    let par : IsPar p = subst (λ n. IsPar (plain n.now)) (sym c.children.invariant.node) c.requires.par in
    omega (arith, rests.counts, limits p (suc c.children.par.next) par, next_small c.args.self.now.tree.now p c.children.par.number rests.sits c.children.par.next rests.begun)

pub children-preserved : goal.children-preserved
children-preserved g c =
    let inv = c.children.invariant in
    let v = view_of c.args.view.now in
    let whole = whole_of c.args.self.now in
    let f = opened c.children.par in
    let p = plain c.children.par.node.now in
    let child = c.index-children-next.result in
    let par : IsPar p = subst (λ n. IsPar (plain n.now)) (sym inv.node) c.requires.par in
    let there = subst (λ k. from_child k (children_of p) ≡ tree (plain child) (from_child (k + 1) (children_of p))) (sym inv.next) (listed_child p _ c.children.next child (par_lists p par) (c.listed-children.ensures ∙ ap (λ n. listed (plain n.now)) (sym inv.node)) (omega (arith, c.children-test.true)) c.index-children-next.is) in
    let is = c.counted-par.ensures.counts in
    let now = c.at_once.new.self in
    record {
      rests = λ fs h. subst (λ x. Resting whole c.in-Some.after x fs) (sym is) (passed_rests f (plain child) c.children.number there par c.in-Some.status whole fs c.in-Some.after c.in-Some.ensures.after (inv.rests fs h));
      keeps = λ s.
          ap (λ x. rest_of v x (with_parts now.memory c.args.self.now.wants.items s)) is
          ∙ passed_keeps f (plain child) c.children.number there par c.in-Some.status v whole c.requires.rests.0 (inv.rests c.requires.rests.0 c.requires.rests.1) _ _
          (subst (λ w. gives c.in-Some.status (with_parts now.memory w.items s) ≡ tick v (plain child) c.children.number (with_parts c.children.self.memory w.items s)) inv.wants (c.in-Some.ensures.ticks s))
          ∙ inv.keeps s;
      falls = subst (λ x. weight_of x ≤ weight_of (opened c.args.frame)) (sym is) (omega (arith, passed_falls f (plain child) c.children.number there par c.in-Some.status, inv.falls));
      node = c.counted-par.ensures.node ∙ inv.node;
      next = ap (λ o. o.next) is ∙ ap (λ k. k + 1) inv.next;
      stack = c.at_once.ensures.stack ∙ inv.stack;
      wants = c.at_once.ensures.wants ∙ inv.wants;
      tree = c.at_once.ensures.tree ∙ inv.tree;
      nearest = c.at_once.ensures.nearest;
    }
