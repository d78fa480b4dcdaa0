use denote.Exit.{no}
use denote.Param.Send.{param_send, arg_send}
use Rattle.play_run.proofs.Leaving.{worker_send, worked_send}
use Rattle.play_run.proofs.workers.spawn.Goals as goal

pub spawn_with-requires-send-F : goal.spawn_with-requires-send-F
spawn_with-requires-send-F g c κs within =
    worker_send _ no _ _ _ _ _ _ g.row.L g.row.M g.row.D g.row.G g.row.R g.L.RunLedger g.L.Ledger g.M.Ledger g.D.Ledger
    (search c.type_bounds.send-L) (search c.type_bounds.send-D) (search c.type_bounds.sync-G) (search c.type_bounds.sync-R)

pub spawn_with-requires-send-T : goal.spawn_with-requires-send-T
spawn_with-requires-send-T g c κs within = param_send 3 _ (arg_send _ no _ (worked_send _ g.row.L g.row.D g.L.RunLedger g.L.Ledger g.D.Ledger (search c.type_bounds.send-L) (search c.type_bounds.send-D)))
