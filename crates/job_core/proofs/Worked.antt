-- Worked settings and runs, by computing: how long they are, which are complete, and where a list stops being legal.
use Rattle.std.proofs.Common.{◌≡◌, ◌<◌, List, [], ◌∷◌, ◌++◌, length, refl, arith}
use Rattle.job_core.specs.declared.names.JobName.TheVariants.{Logic, Think, Path, Draw}
use Rattle.job_core.specs.declared.names.Size.TheVariants.{Small, Large}
use Rattle.job_core.specs.declared.names.Event.{Event}
use Rattle.job_core.specs.declared.names.Event.TheVariants.{Start, Resume, Ask, Spread, Finish}
use Rattle.job_core.specs.Core.{IsLegal, IsLegalList, IsComplete, free, opening, state}
use Rattle.job_core.specs.Amounts.{most, least, holds}
use Rattle.job_core.specs.Worked.{setup_of, lone, one_slot, two_slots, two_agents, no_agents, two_workers, one_frame, held_once, second_begun, second_ended, spread_once, asked_once, one_drawn, shared}
use Rattle.job_core.proofs.Shape.{opens}
use Rattle.job_core.proofs.Once.{shape_at}
use Rattle.job_core.proofs.Decide.{checks-true, may-true}

pub one_frame_complete : IsComplete lone one_frame
unfolding setup_of lone one_frame
one_frame_complete = (checks-true lone one_frame (opening lone) (opens lone) refl, refl, refl)

pub one_frame_length : (length one_frame ≡ 13) × (most lone ≡ 13)
unfolding setup_of lone one_frame
one_frame_length = (refl, refl)

pub held_complete : IsComplete one_slot held_once
unfolding setup_of one_slot held_once
held_complete = (checks-true one_slot held_once (opening one_slot) (opens one_slot) refl, refl, refl)

pub held_length : (holds held_once ≡ 1) × (length held_once ≡ most one_slot)
unfolding setup_of one_slot held_once
held_length = (refl, refl)

-- ---- a Draw and a Path on the only small fiber, with no large one free

pub begun_small : free two_slots (state two_slots second_begun) Small ≡ 1
unfolding setup_of two_slots second_begun
begun_small = refl

pub begun_large : free two_slots (state two_slots second_begun) Large ≡ 0
unfolding setup_of two_slots second_begun
begun_large = refl

begun_legal : IsLegalList two_slots second_begun
unfolding setup_of two_slots second_begun
begun_legal = checks-true two_slots second_begun (opening two_slots) (opens two_slots) refl

pub draw_starts : IsLegal two_slots (state two_slots second_begun) (Start 0 (Draw 1 0))
unfolding setup_of two_slots second_begun
draw_starts = (refl, may-true two_slots (state two_slots second_begun) (shape_at two_slots second_begun begun_legal) (Start 0 (Draw 1 0)) refl)

pub path_starts : IsLegal two_slots (state two_slots second_begun) (Start 0 (Path 2 0 0))
unfolding setup_of two_slots second_begun
path_starts = (refl, may-true two_slots (state two_slots second_begun) (shape_at two_slots second_begun begun_legal) (Start 0 (Path 2 0 0)) refl)

pub second_complete : IsComplete two_slots (second_begun ++ second_ended)
unfolding setup_of two_slots second_begun second_ended
second_complete = (checks-true two_slots (second_begun ++ second_ended) (opening two_slots) (opens two_slots) refl, refl, refl)

pub second_length : length (second_begun ++ second_ended) ≡ least two_slots
unfolding setup_of two_slots second_begun second_ended
second_length = refl

-- ---- a Think on the last large fiber, and not on a small one

pub spread_large : free (two_agents 2) (state (two_agents 2) spread_once) Large ≡ 1
unfolding setup_of two_agents spread_once
spread_large = refl

spread_legal : IsLegalList (two_agents 2) spread_once
unfolding setup_of two_agents spread_once
spread_legal = checks-true (two_agents 2) spread_once (opening (two_agents 2)) (opens (two_agents 2)) refl

pub think_starts : IsLegal (two_agents 2) (state (two_agents 2) spread_once) (Start 0 (Think 1 0))
unfolding setup_of two_agents spread_once
think_starts = (refl, may-true (two_agents 2) (state (two_agents 2) spread_once) (shape_at (two_agents 2) spread_once spread_legal) (Start 0 (Think 1 0)) refl)

pub asked_large : free (two_agents 2) (state (two_agents 2) asked_once) Large ≡ 0
unfolding setup_of two_agents asked_once
asked_large = refl

pub asked_small : free (two_agents 2) (state (two_agents 2) asked_once) Small ≡ 1
unfolding setup_of two_agents asked_once
asked_small = refl

pub think_waits : IsLegal (two_agents 2) (state (two_agents 2) asked_once) (Start 0 (Think 1 1)) → ⊥
unfolding setup_of two_agents asked_once
think_waits h = let l : 0 < 0 = h.1.3 in omega (arith, l)

asked_legal : IsLegalList (two_agents 3) asked_once
unfolding setup_of two_agents asked_once
asked_legal = checks-true (two_agents 3) asked_once (opening (two_agents 3)) (opens (two_agents 3)) refl

pub think_starts_then : IsLegal (two_agents 3) (state (two_agents 3) asked_once) (Start 0 (Think 1 1))
unfolding setup_of two_agents asked_once
think_starts_then = (refl, may-true (two_agents 3) (state (two_agents 3) asked_once) (shape_at (two_agents 3) asked_once asked_legal) (Start 0 (Think 1 1)) refl)

-- ---- a Draw not on a large fiber

pub drawn_small : free (no_agents 1) (state (no_agents 1) one_drawn) Small ≡ 0
unfolding setup_of no_agents one_drawn
drawn_small = refl

pub drawn_large : free (no_agents 1) (state (no_agents 1) one_drawn) Large ≡ 2
unfolding setup_of no_agents one_drawn
drawn_large = refl

pub draw_waits : IsLegal (no_agents 1) (state (no_agents 1) one_drawn) (Start 1 (Draw 1 1)) → ⊥
unfolding setup_of no_agents one_drawn
draw_waits h = let l : 0 < 0 = h.1.3 in omega (arith, l)

drawn_legal : IsLegalList (no_agents 1) one_drawn
unfolding setup_of no_agents one_drawn
drawn_legal = checks-true (no_agents 1) one_drawn (opening (no_agents 1)) (opens (no_agents 1)) refl

pub logic_starts : IsLegal (no_agents 1) (state (no_agents 1) one_drawn) (Start 2 (Logic 2))
unfolding setup_of no_agents one_drawn
logic_starts = (refl, may-true (no_agents 1) (state (no_agents 1) one_drawn) (shape_at (no_agents 1) one_drawn drawn_legal) (Start 2 (Logic 2)) refl)

drawn_legal_then : IsLegalList (no_agents 2) one_drawn
unfolding setup_of no_agents one_drawn
drawn_legal_then = checks-true (no_agents 2) one_drawn (opening (no_agents 2)) (opens (no_agents 2)) refl

pub draw_starts_then : IsLegal (no_agents 2) (state (no_agents 2) one_drawn) (Start 1 (Draw 1 1))
unfolding setup_of no_agents one_drawn
draw_starts_then = (refl, may-true (no_agents 2) (state (no_agents 2) one_drawn) (shape_at (no_agents 2) one_drawn drawn_legal_then) (Start 1 (Draw 1 1)) refl)

-- ---- two workers

pub shared_complete : IsComplete two_workers shared
unfolding setup_of two_workers shared
shared_complete = (checks-true two_workers shared (opening two_workers) (opens two_workers) refl, refl, refl)

pub shared_length : length shared ≡ least two_workers
unfolding setup_of two_workers shared
shared_length = refl

-- ---- amounts

-- 26 agents that ask once each, over two frames in one slot
crowd_length : most (setup_of 2 26 1 1 1 2 1) ≡ 328
unfolding setup_of
crowd_length = refl

-- no agents, two frames of three bands
empty_map_length : most (setup_of 2 0 3 1 8 8 3) ≡ 22
unfolding setup_of
empty_map_length = refl

-- one agent that asks twice in one frame
two_questions_length : most (record { frames = 1; agents = 1; bands = 1; questions = λ f a. 2; workers = 1; small = 8; large = 8; slots = 3 }) ≡ 17
two_questions_length = refl

-- ---- where a list stops being legal

-- the first frame, up to the end of its think
eight : List Event
eight =
    Start 0 (Logic 1) ∷ Spread 0 (Logic 1) ∷ Start 0 (Think 1 0) ∷ Ask 0 (Think 1 0) ∷ Start 0 (Path 1 0 0) ∷ Finish 0 (Path 1 0 0)
    ∷ Resume 0 (Think 1 0) ∷ Finish 0 (Think 1 0) ∷ []

-- a think that is finished a second time is the first event that isn't legal, at index 8
finished_twice : (length eight ≡ 8) × IsLegalList lone eight × (IsLegal lone (state lone eight) (Finish 0 (Think 1 0)) → ⊥)
unfolding setup_of lone eight
finished_twice = (refl, checks-true lone eight (opening lone) (opens lone) refl, λ h. let e = h.1.1 in absurd cc)
