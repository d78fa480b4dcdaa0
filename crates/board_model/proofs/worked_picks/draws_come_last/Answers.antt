use Rattle.std.proofs.Common.{refl}
use Rattle.job_core.specs.Worked.{setup_of, one_drawn, no_agents, second_begun, two_slots}
use Rattle.board_model.proofs.worked_picks.draws_come_last.Goals as goal

pub returns : goal.returns
unfolding setup_of two_slots second_begun no_agents one_drawn
returns c = record { think = refl; logic = refl; draw = refl; nothing = refl }
