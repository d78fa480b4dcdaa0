use Rattle.std.proofs.Common.{◌≡◌, length, take, length-take, arith}
use Rattle.job_scheduler.proofs.slot_table.SlotTable.len.Goals as goal

pub returns : goal.returns
returns c =
    let many : c.self.inside.slots ≡ length (take c.self.inside.slots c.self.inside.all) = omega (arith, length-take c.self.inside.slots c.self.inside.all, c.self.invariant.0, c.self.invariant.1) in
    rw (← c.self.view_is) many
