-- The statuses that calls answer, by their numbers in btjobs.h, and when each comes.
use Rattle.std.specs.Prelude.{ℕ, ◌≡◌, ◌⊎◌, Option, Some, None}
use Rattle.job_scheduler.specs.declared.board_fault.BoardFault.{BoardFault}
use Rattle.job_scheduler.specs.declared.board_fault.BoardFault.TheVariants.{Stopped, NoWorker, Busy, NotRunning, WrongResult, Illegal, OutOfMemory}
use Rattle.frame_jobs.specs.Boards.{FrameBoard}

abbrev pub done : ℕ
done = 0

abbrev pub no_memory : ℕ
no_memory = 1

-- the handle holds no board
abbrev pub closed : ℕ
closed = 2

-- the handle holds a board already
abbrev pub taken : ℕ
taken = 3

-- there is nothing to take, or no such event
abbrev pub nothing : ℕ
nothing = 9

-- a number is out of its limits
abbrev pub limits : ℕ
limits = 10

-- a buffer is too short
abbrev pub short : ℕ
short = 11

-- a text's first line is that of no log
abbrev pub no_head : ℕ
no_head = 12

-- a line of a text is no event's and no remark
abbrev pub faulty_line : ℕ
faulty_line = 13

abbrev pub status_of : BoardFault → ℕ
status_of Stopped = 4
status_of NoWorker = 5
status_of Busy = 6
status_of NotRunning = 7
status_of WrongResult = 8
status_of Illegal = 8
status_of OutOfMemory = no_memory

-- a board refuses a call, and this is the number of the reason
abbrev pub IsRefusedBy : (BoardFault → Type 0) → ℕ → Type 0
IsRefusedBy why status = (fault : BoardFault) × (status ≡ status_of fault) × why fault

-- the handle is closed, or the board that it holds refuses the call
abbrev pub IsRefusedIn : (FrameBoard → BoardFault → Type 0) → ℕ → Option FrameBoard → Type 0
IsRefusedIn why status None = status ≡ closed
IsRefusedIn why status (Some b) = IsRefusedBy (why b) status

-- a call that no board refuses answers this of a closed handle alone
abbrev pub IsClosedOr : ℕ → Option FrameBoard → Type 0
IsClosedOr status None = status ≡ closed
IsClosedOr status (Some b) = status ≡ done
