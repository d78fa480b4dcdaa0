use Rattle.std.proofs.Common.{refl}
use Rattle.job_core.specs.Worked.{setup_of, asked_once, second_begun, spread_once, two_agents, two_slots}
use Rattle.board_model.proofs.worked_picks.paths_and_ready_fibers_come_first.Goals as goal

pub returns : goal.returns
unfolding setup_of two_slots second_begun two_agents spread_once asked_once
returns c = record { before_a_draw = refl; thinks_in_order = refl; before_a_think = refl; ready_first = refl }
