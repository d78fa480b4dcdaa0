-- The causes for which a run fails, in their order, and which of several is answered.
use Rattle.std.specs.Prelude.{ℕ, nat_lt, if◌then◌else◌, Option, Some, None, Result, Ok, Err}
use Rattle.run_shared.specs.declared.fault.Cause.{Cause}
use Rattle.run_shared.specs.declared.fault.Cause.TheVariants.{OutOfMemory, Spawn, Write, GateClosed, Stranger}
use Rattle.run_shared.specs.declared.fault.RunFault.{RunFault}

abbrev pub rank : Cause → ℕ
rank OutOfMemory = 0
rank Spawn = 1
rank Write = 2
rank GateClosed = 3
rank Stranger = 4

abbrev pub lower : Cause → Cause → Cause
lower a b = if nat_lt (rank b) (rank a) then b else a

-- the lower of what printing failed for and what a worker met
abbrev pub cause_of : {X : Type 0} → Result X RunFault → Option Cause → Option Cause
cause_of (Ok x) met = met
cause_of (Err fault) None = Some fault.cause
cause_of (Err fault) (Some met) = Some (lower met fault.cause)
