-- A run that can't go on is complete; and how often agents ask.
use Rattle.std.proofs.Common.{◌≤◌, ℕ, zero, suc, List, arith}
use Rattle.bt_nodes.specs.Sizes.{size}
use Rattle.job_core.specs.declared.names.Event.{Event}
use Rattle.job_core.specs.Core.{Setup, IsComplete}
use Rattle.job_core.proofs.Once.{stuck_is_complete}
use Rattle.game_rules.specs.Game.{Game, signals}
use Rattle.game_rules.specs.Play.{play}
use Rattle.game_rules.proofs.Ways.{few}
use Rattle.std.specs.Prelude.{[], slice_index_or}
use Rattle.game_jobs.specs.Instance.{tree_of, view, asked_in}
use Rattle.game_jobs.specs.Stuck.{IsStuckRun}

pub stuck_complete : (s : Setup) (events : List Event) → IsStuckRun s events → IsComplete s events
stuck_complete s events h = stuck_is_complete s events h.a_worker h.a_small h.two_large h.a_slot h.run h.stuck

pub few_asked : (g : Game) (f a : ℕ) → asked_in g f a ≤ size (tree_of g a)
few_asked g zero a = omega arith
few_asked g (suc f) a = few (view (signals g.changes (suc f)) (play g f).world a) (tree_of g a) (slice_index_or (play g f).memories a [])
