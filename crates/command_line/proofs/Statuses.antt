-- What a status says of how a program ended.
use Rattle.std.proofs.Common.{◌≡◌, ◌<◌, ℕ, arith}
use Rattle.std.specs.Prelude.{⊤, Result, Ok, Err, OnOk, OnErr}
use Rattle.command_line.specs.declared.program_fault.Fault.{Fault}
use Rattle.command_line.specs.declared.program_fault.Fault.TheVariants as faults
use Rattle.command_line.specs.Faults.{status_of, status_in}

pub on_err : {T E : Type 0} (r : Result T E) (P : Type 0) → P → OnErr r P
on_err (Ok x) P p = tt
on_err (Err e) P p = p

pub on_err_map : {T E : Type 0} (r : Result T E) (P Q : Type 0) → (P → Q) → OnErr r P → OnErr r Q
on_err_map (Ok x) P Q f p = tt
on_err_map (Err e) P Q f p = f p

-- each fault has a status of its own
above_zero : (f : Fault) → 0 < status_of f
above_zero (faults.File path) = omega arith
above_zero faults.StandardInput = omega arith
above_zero (faults.SameFile output input) = omega arith
above_zero faults.Json = omega arith
above_zero faults.Shape = omega arith
above_zero faults.MapSize = omega arith
above_zero (faults.MapChar x y) = omega arith
above_zero faults.Letters = omega arith
above_zero faults.AgentCount = omega arith
above_zero (faults.BadTree name limit) = omega arith
above_zero (faults.NoTree letter) = omega arith
above_zero (faults.NoPlace name) = omega arith
above_zero (faults.NoAgent name) = omega arith
above_zero (faults.ScriptLine n) = omega arith
above_zero (faults.ScriptOrder n) = omega arith
above_zero faults.LogHead = omega arith
above_zero (faults.LogLine n) = omega arith
above_zero (faults.IllegalEvent n) = omega arith
above_zero faults.NoSuchAgent = omega arith
above_zero (faults.Incomplete shown frames) = omega arith
above_zero faults.Stopped = omega arith
above_zero faults.JournalHead = omega arith
above_zero faults.AnotherLevel = omega arith
above_zero faults.AnotherScript = omega arith
above_zero faults.Write = omega arith
above_zero faults.Spawn = omega arith
above_zero faults.GateClosed = omega arith
above_zero faults.Stranger = omega arith
above_zero faults.OutOfMemory = omega arith

no_fault : (f : Fault) (n : ℕ) → n ≡ status_of f → n ≡ 0 → 0 < status_of f → ⊥
no_fault f n e zero above = omega arith

pub ok_at_zero : (r : Result (⊤) Fault) (n : ℕ) (P : Type 0) → n ≡ status_in r → n ≡ 0 → OnOk r P → P
ok_at_zero (Ok x) n P e zero p = p
ok_at_zero (Err f) n P e zero p = absurd (no_fault f n e zero (above_zero f))
