use Rattle.std.proofs.Common.{◌≡◌, ◌<◌, ◌%◌, length, take, length-take, ap, sym, ◌∙◌, arith}
use Rattle.std.proofs.Math.Nat.{mod-lt}
use Rattle.board_model.specs.Lists.{write}
use Rattle.job_queues.proofs.Pools.{front_write}
use Rattle.job_scheduler.proofs.slot_table.SlotTable.set.Goals as goal

pub returns : goal.returns
returns c =
    let v = c.self.inside in
    let many : length (take v.slots v.all) ≡ v.slots = omega (arith, length-take v.slots v.all, c.self.invariant.0, c.self.invariant.1) in
    let some : 0 < length (take v.slots v.all) = rw (← c.self.view_is) at c.requires in
    let below : c.args.frame % v.slots < v.slots = mod-lt c.args.frame (omega (arith, many, some)) in
    rw (← c.self.view_is) (front_write v.slots v.all (c.args.frame % v.slots) c.args.content below ∙ ap (λ n. write (take v.slots v.all) (c.args.frame % n) c.args.content) (sym many))
