use Rattle.std.proofs.Common.{◌≡◌, arith, true}
use Rattle.std.specs.Bool.{Decides}
use Rattle.std.proofs.lemmas.Grind.{common_steps}
use Rattle.std.proofs.lemmas.Slice.Eq.{slice_eq-Decides}
use Rattle.grid_world.specs.declared.cell.Cell.{Cell}
use Rattle.grid_world.specs.contracts.cell.CellPartialEq.TheImpl.{eq-value}
use Rattle.grid_world.proofs.world.same.are_same_cells.Goals as goal

decided : (a b : Cell) → Decides (eq-value.it a b) (a ≡ b)
decided a b = (grind (arith, common_steps), grind (arith, common_steps))

pub returns-clause-same : goal.returns-clause-same
returns-clause-same c = let h : Decides c.eq.result (c.args.cells.now ≡ c.args.others.now) = slice_eq-Decides decided _ _ _ c.eq.ensures in h.0

pub returns-clause-differs : goal.returns-clause-differs
returns-clause-differs c not_same same =
    let h : Decides c.eq.result (c.args.cells.now ≡ c.args.others.now) = slice_eq-Decides decided _ _ _ c.eq.ensures in
    let yes : c.eq.result ≡ true = h.1 same in cc
