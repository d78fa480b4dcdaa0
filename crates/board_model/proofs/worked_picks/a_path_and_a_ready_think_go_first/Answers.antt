use Rattle.std.proofs.Common.{◌≡◌, [], ◌∷◌, ◌++◌, refl, arith}
use Rattle.job_core.specs.declared.names.JobName.TheVariants.{Think, Path}
use Rattle.job_core.specs.declared.names.Event.TheVariants.{Start, Finish}
use Rattle.job_core.specs.Core.{Queued, Waits, opening}
use Rattle.job_core.specs.Worked.{setup_of, two_agents, asked_once}
use Rattle.job_core.proofs.Shape.{opens}
use Rattle.job_core.proofs.Decide.{checks-true}
use Rattle.board_model.proofs.Priorities.{new_is_first, resume_is_first}
use Rattle.board_model.proofs.worked_picks.a_path_and_a_ready_think_go_first.Goals as goal

pub returns-clause-path : goal.returns-clause-path
unfolding setup_of two_agents asked_once
returns-clause-path c = (new_is_first (two_agents 3) asked_once (Path 1 0 0) (omega arith) (checks-true (two_agents 3) asked_once (opening (two_agents 3)) (opens (two_agents 3)) refl) refl).1

pub returns-clause-no_think : goal.returns-clause-no_think
unfolding setup_of two_agents asked_once
returns-clause-no_think c = λ g. (g.highest (Path 1 0 0) (omega arith)).1 (new_is_first (two_agents 3) asked_once (Path 1 0 0) (omega arith) (checks-true (two_agents 3) asked_once (opening (two_agents 3)) (opens (two_agents 3)) refl) refl).0

pub returns-clause-ready : goal.returns-clause-ready
unfolding setup_of two_agents asked_once
returns-clause-ready c = resume_is_first (two_agents 3) (asked_once ++ Start 0 (Path 1 0 0) ∷ Finish 0 (Path 1 0 0) ∷ []) 2 (Think 1 0) (omega arith) (checks-true (two_agents 3) (asked_once ++ Start 0 (Path 1 0 0) ∷ Finish 0 (Path 1 0 0) ∷ []) (opening (two_agents 3)) (opens (two_agents 3)) refl) refl refl (1, refl, refl)

pub returns-clause-no_new_one : goal.returns-clause-no_new_one
unfolding setup_of two_agents asked_once
returns-clause-no_new_one c = λ g. g.ready_first (λ r. let e : Queued ≡ Waits r.0 = r.1 in cc) (Think 1 0) refl (1, refl, refl)
