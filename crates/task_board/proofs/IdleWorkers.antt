-- What an idle worker does next, and that nobody starts anything where no job is given.
use Rattle.std.proofs.Common.{◌≡◌, ◌<◌, ◌+◌, ℕ, false, sym, ◌∙◌, subst, ⊎_elim, arith}
use Rattle.std.proofs.lemmas.Bool.{cases_eq}
use Rattle.job_core.specs.declared.names.JobName.{JobName}
use Rattle.job_core.specs.declared.names.Event.TheVariants.{Start, Resume}
use Rattle.job_core.specs.Core.{IsIdle, IsLegal, IsLegalList}
use Rattle.board_model.proofs.Needs.{none_given}
use Rattle.job_scheduler.specs.Looks.{IsIdleOr, IsNotRunning}
use Rattle.job_scheduler.specs.declared.board_fault.BoardFault.{BoardFault}
use Rattle.job_scheduler.specs.declared.board_fault.BoardFault.TheVariants.{Stopped, NoWorker, Busy, NotRunning, WrongResult, Illegal, OutOfMemory}
use Rattle.task_board.specs.Boards.{Played, setup_in, state_in, GivesJob}
use Rattle.task_board.specs.Given.{AllBusy, NobodyStarts}

pub is_idle : (b : Played) (w : ℕ) (fault : BoardFault) → (state_in b).stopped ≡ false → w < b.numbers.workers → IsNotRunning (setup_in b) (state_in b) w fault → IsIdle (state_in b) w
is_idle b w Stopped on l h = let z = sym h ∙ on in absurd cc
is_idle b w NoWorker on l h = absurd (omega (arith, l, h.1))
is_idle b w NotRunning on l h = h.1
is_idle b w Busy on l h = absurd h
is_idle b w WrongResult on l h = absurd h
is_idle b w Illegal on l h = absurd h
is_idle b w OutOfMemory on l h = absurd h

pub not_refused : (b : Played) (w : ℕ) (fault : BoardFault) → (state_in b).stopped ≡ false → w < b.numbers.workers → IsIdle (state_in b) w → IsIdleOr (setup_in b) (state_in b) w fault → ⊥
not_refused b w Stopped on l idle h = let z = sym h ∙ on in cc
not_refused b w NoWorker on l idle h = omega (arith, l, h.1)
not_refused b w Busy on l idle h = h.1 idle
not_refused b w NotRunning on l idle h = h
not_refused b w WrongResult on l idle h = h
not_refused b w Illegal on l idle h = h
not_refused b w OutOfMemory on l idle h = h

-- one more worker is busy
pub busy_more : (b : Played) (n : ℕ) → AllBusy b n → (IsIdle (state_in b) n → ⊥) → AllBusy b (n + 1)
busy_more b n all this v l = ⊎_elim (λ same idle. this (subst (IsIdle (state_in b)) same idle)) (λ differs. all v (omega (arith, l, differs))) (cases_eq v n)

-- what one idle worker can't start, no worker can
pub nobody_starts : (b : Played) (w : ℕ) → w < b.numbers.workers → IsIdle (state_in b) w
    → ((j : JobName) → (IsLegal (setup_in b) (state_in b) (Start w j) → ⊥) × (IsLegal (setup_in b) (state_in b) (Resume w j) → ⊥)) → NobodyStarts b
nobody_starts b w l idle h v j = (λ m. (h j).0 (m.0, (l, idle, m.1.2, m.1.3)), λ m. (h j).1 (m.0, (l, idle, m.1.2)))

-- where no job is given, no worker starts one or goes on with one
pub nobody_given : (b : Played) → IsLegalList (setup_in b) b.events → 0 < b.numbers.slots → (GivesJob b → ⊥) → NobodyStarts b
nobody_given b lawful some never w j = (
  λ m. never (m.0, λ e. ((none_given (setup_in b) b.events w some lawful m.0 m.1.0 m.1.1).0 e j).0 m),
  λ m. never (m.0, λ e. ((none_given (setup_in b) b.events w some lawful m.0 m.1.0 m.1.1).0 e j).1 m),
)

pub all_busy : (b : Played) → AllBusy b b.numbers.workers → NobodyStarts b
all_busy b busy v j = (λ m. busy v m.1.0 m.1.1, λ m. busy v m.1.0 m.1.1)
