use Rattle.btworld_c.proofs.Frames.{steps_taken}
use Rattle.btworld_c.proofs.frames_in_a_row.run_held.Goals as goal

pub frames-preserved : goal.frames-preserved
frames-preserved c =
    steps_taken c.args.signals.now c.frames.number c.args.held.now c.frames.held c.step_held-status.new.held c.frames-test.true c.frames.invariant
    (c.step_held-status.ensures.ok c.if-status-ne-OK.false)
