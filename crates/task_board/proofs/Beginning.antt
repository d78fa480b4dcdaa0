-- A frame that begins: it spreads where it has a slot, and else it holds.
use Rattle.std.proofs.Common.{◌≤◌, ◌+◌, ℕ, subst, inl, inr}
use Rattle.job_core.specs.declared.names.JobName.TheVariants.{Logic}
use Rattle.job_core.specs.declared.names.Event.TheVariants.{Spread, Hold}
use Rattle.job_core.specs.Core.{IsLegal, IsLegalList}
use Rattle.job_scheduler.specs.declared.board_fault.BoardFault.{BoardFault}
use Rattle.job_scheduler.specs.declared.board_fault.BoardFault.TheVariants.{Stopped, NoWorker, Busy, NotRunning, WrongResult, Illegal, OutOfMemory}
use Rattle.task_board.specs.Boards.{Played, setup_in, state_in, IsBeginning, IsRefused, NoOther}
use Rattle.task_board.specs.HandedIn.{IsBeginRefused}
use Rattle.task_board.proofs.BoardEvents.{runs_one, spread_legal}

-- where no Logic is at its start, neither is legal
pub neither_begins : (b : Played) (w : ℕ) (fault : BoardFault) → IsRefused b w NoOther (Spread w) fault → IsRefused b w NoOther (Hold w) fault → IsBeginRefused b w fault
neither_begins b w Illegal s h = inr (s, h)
neither_begins b w Stopped s h = inl (λ e. cc, s)
neither_begins b w NoWorker s h = inl (λ e. cc, s)
neither_begins b w NotRunning s h = inl (λ e. cc, s)
neither_begins b w OutOfMemory s h = inl (λ e. cc, s)
neither_begins b w WrongResult s h = inl (λ e. cc, s)
neither_begins b w Busy s h = absurd s

-- where the frame has a slot, no spread is illegal
pub spread_begins : (b : Played) → IsLegalList (setup_in b) b.events → (w f : ℕ) → IsBeginning b w f → f ≤ (state_in b).emitted + b.numbers.slots → (fault : BoardFault) → IsRefused b w NoOther (Spread w) fault
    → IsBeginRefused b w fault
spread_begins b lawful w f at_start l fault r =
    inl (
      λ e.
          let h = subst (IsRefused b w NoOther (Spread w)) e r in
          h.1.4 (subst (λ j. IsLegal (setup_in b) (state_in b) (Spread w j)) (runs_one b lawful w 0 h.1.1 (Logic f) h.1.0 at_start.runs h.1.2) (spread_legal b w f at_start l)),
      r,
    )
