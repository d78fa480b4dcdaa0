use Rattle.trace_text.proofs.OneMore.{lane_more}
use Rattle.trace_text.proofs.lanes.push_workers.Goals as goal

pub workers-preserved : goal.workers-preserved
workers-preserved c =
    lane_more c.args.text.now.items c.workers.text.items _ c.thread_of.result c.workers.worker c.workers.invariant c.thread_of.ensures
    c.in_ok-push_lane.ensures
