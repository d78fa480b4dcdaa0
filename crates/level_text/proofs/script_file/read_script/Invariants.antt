use Rattle.std.proofs.Common.{◌≡◌, ◌≤◌, ◌+◌, ◌++◌, length}
use Rattle.game_session.specs.Changes.{last_frame}
use Rattle.level_text.specs.Scripts.{script_fault}
use Rattle.level_text.proofs.ReadLines.{fault_in, changes_in}
use Rattle.level_text.proofs.script_file.read_script.Given as goal

-- the first fault of all is that of the lines that are left; so far and what is left is the script of all
abbrev pub invariant-loop-rest : goal.invariant-loop-rest
invariant-loop-rest l = record {
  fault : script_fault l.bytes ≡ fault_in (l.n + 1) (last_frame l.script) l.rest;
  made : l.script ++ changes_in l.rest ≡ changes_in l.bytes;
  count : l.n + length l.rest ≤ length l.bytes;
}

abbrev pub decreases-loop-rest : goal.decreases-loop-rest
decreases-loop-rest l = length l.rest
