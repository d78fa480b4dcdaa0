-- Distances that are known on the ground of a game are so in each world of that ground.
use Rattle.std.proofs.Common.{◌≡◌, ◌∙◌, ap, List, Bool}
use Rattle.grid_world.specs.Grid.{Grid}
use Rattle.grid_world.specs.Ground.{emptied}
use Rattle.frame_parts.specs.Distances.{DistanceCacheOf, known_of}

module _ (first : Grid) (k before : DistanceCacheOf) (on : List Bool) (brought : k ≡ known_of before.ground on) (known : before.ground ≡ first) where
  pub known_on : k.ground ≡ first
  known_on = ap (λ (b : DistanceCacheOf). b.ground) brought ∙ known

  pub ground_under : (w : Grid) → emptied first ≡ emptied w → emptied k.ground ≡ emptied w
  ground_under w is = ap emptied known_on ∙ is
