use Rattle.std.proofs.Common.{◌≡◌, drop}
use Rattle.std.specs.List.{flat_map}
use Rattle.stepping.specs.Digest.{fnv_all}
use Rattle.stepping.specs.LevelDigest.{change_bytes, script_digest_of}
use Rattle.stepping.proofs.digest_of_script.script_digest.Given as goal

abbrev pub invariant-changes : goal.invariant-changes
invariant-changes l = fnv_all l.so_far (flat_map change_bytes (drop l.change-index l.script)) ≡ script_digest_of l.script
