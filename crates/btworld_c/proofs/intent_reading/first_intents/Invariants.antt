use Rattle.std.proofs.Common.{◌≡◌, map, get_or}
use Rattle.std.specs.Prelude.{nat_lt, if◌then◌else◌}
use Rattle.std.specs.List.{range_with_len}
use Rattle.grid_world.specs.declared.cell.Intent.TheVariants.{Stay}
use Rattle.btworld_c.proofs.intent_reading.first_intents.Given as goal

abbrev pub invariant-intents : goal.invariant-intents
invariant-intents l = l.them.items ≡ map (λ k. if nat_lt k l.count then get_or l.intents k Stay else Stay) (range_with_len 0 l.number)
