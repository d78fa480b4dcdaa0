use Rattle.std.proofs.Common.{◌≡◌, ◌⊎◌, inl, inr, Vec, ap, ◌∙◌, length, arith, nat_lt}
use Rattle.bt_nodes.specs.Plain.{plain}
use Rattle.bt_nodes.specs.declared.node.Node.{Node, SeqStar, FallbackStar}
use Rattle.bt_nodes.proofs.Views.{plain-SeqStar, plain-FallbackStar}
use Rattle.bt_nodes.proofs.Forests.{count-plains}
use Rattle.bt_tick.specs.Fitting.{root_bound}
use Rattle.bt_tick.proofs.fits.is_below.Goals as goal

star_bound : {A : Type 0} → (node : Node A) (v : Vec (Node A) A) → (node ≡ SeqStar v) ⊎ (node ≡ FallbackStar v) → root_bound (plain node) ≡ length v.items
star_bound node v (inl e) = ap root_bound (ap plain e ∙ plain-SeqStar v) ∙ count-plains v.items
star_bound node v (inr e) = ap root_bound (ap plain e ∙ plain-FallbackStar v) ∙ count-plains v.items

pub returns-in-SeqStar : goal.returns-in-SeqStar
returns-in-SeqStar g c =
    let n : c.len.result ≡ root_bound (plain c.args.node.now) = omega (arith, c.len.ensures, star_bound c.args.node.now c.in-SeqStar.children c.in-SeqStar.is) in
    ap (nat_lt c.args.number) n
