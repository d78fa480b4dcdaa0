use Rattle.std.proofs.Common.{◌≡◌, ◌∙◌, ◌<◌, ◌≤◌, ◌*◌, ◌-◌, ℕ, true, false, length, replicate, refl, ap, arith}
use Rattle.std.proofs.lemmas.Grind.{common_steps}
use Rattle.std.proofs.lemmas.List.{length-set, length-replicate}
use Rattle.std.proofs.lemmas.Result.{err_from_is_err_and}
use Rattle.stepping.specs.StateReading.{items_from}
use Rattle.stepping.proofs.ReadOn.{items_more, items_fail, items_end, items_last}
use Rattle.stepping.proofs.state_lines.items.Goals as goal

pub items-init : goal.items-init
items-init c =
    let w : ℕ = c.args.world.now.width in
    let h : ℕ = c.args.world.now.height in
    let count : c.width.result * c.height.result ≡ w * h = grind (arith, common_steps) in
    let blank : c.in_ok-items.items.items ≡ replicate (w * h) false = c.in_ok-items.ensures.items_if_clones_equal (λ y same. same) ∙ ap (λ n. replicate n false) count in
    let all : w * h - 0 ≡ w * h = omega arith in
    record {
      long = ap length blank ∙ length-replicate (w * h) false;
      same = ap (λ n. items_from w h n c.in_ok-items.items.items c.args.text.now) all ∙ ap (λ l. items_from w h (w * h) l c.args.text.now) blank;
    }

pub returns-then-is_empty : goal.returns-then-is_empty
returns-then-is_empty c =
    let w : ℕ = c.args.world.now.width in
    let h : ℕ = c.args.world.now.height in
    let none : length c.items.rest.now ≡ 0 = grind (arith, common_steps) in
    items_end w h (w * h) c.items.number c.items.items.items c.items.rest.now (items_from w h (w * h) (replicate (w * h) false) c.args.text.now) c.items.invariant.same none

pub returns-in_err-cell : goal.returns-in_err-cell
returns-in_err-cell c =
    let w : ℕ = c.args.world.now.width in
    let h : ℕ = c.args.world.now.height in
    let p = err_from_is_err_and c.from_residual-in_err-cell.result c.from_residual-in_err-cell.ensures.1 in
    let some : 0 < length c.items.rest.now = grind (arith, common_steps) in
    let inside : c.items.number < w * h = grind (arith, common_steps) in
    rw (p.1, p.2) (items_fail w h (w * h) c.items.number c.items.items.items c.items.rest.now (items_from w h (w * h) (replicate (w * h) false) c.args.text.now) c.items.invariant.same c.in_err-cell.field-0.0 inside some c.in_err-cell.ensures.value)

pub items-preserved : goal.items-preserved
items-preserved c =
    let w : ℕ = c.args.world.now.width in
    let h : ℕ = c.args.world.now.height in
    let some : 0 < length c.items.rest.now = grind (arith, common_steps) in
    let inside : c.items.number < w * h = grind (arith, common_steps) in
    record {
      long = length-set c.items.items.items c.in_ok-cell.cell true ∙ c.items.invariant.long;
      same = items_more w h (w * h) c.items.number c.items.items.items c.items.rest.now (items_from w h (w * h) (replicate (w * h) false) c.args.text.now) c.items.invariant.same
          c.in_ok-cell.cell c.in_ok-cell.more.now _ inside some c.in_ok-cell.ensures.value refl;
    }

pub returns : goal.returns
returns c =
    let w : ℕ = c.args.world.now.width in
    let h : ℕ = c.args.world.now.height in
    let over : w * h ≤ c.items.number = grind (arith, common_steps) in
    items_last w h (w * h) c.items.number c.items.items.items c.items.rest.now (items_from w h (w * h) (replicate (w * h) false) c.args.text.now) c.items.invariant.same over
