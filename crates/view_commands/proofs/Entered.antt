-- The viewer's rules are simple.
use Rattle.std.proofs.Common.{◌≡◌, true, refl}
use Rattle.clap.specs.Words.{is_simple_and_free}
use Rattle.clap.proofs.OnLiterals.{clap_on_literals}
use Rattle.view_commands.specs.Program.{program}

pub free : is_simple_and_free program ≡ true
unfolding clap_on_literals
free = refl
