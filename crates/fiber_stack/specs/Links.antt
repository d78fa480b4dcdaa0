-- The chunks of a stack, the top one first.
use Rattle.std.specs.Prelude.{List, [], ◌∷◌}
use Rattle.fiber_stack.specs.declared.eight.Eight.{Eight}
use Rattle.fiber_stack.specs.declared.link.Link.{Link}
use Rattle.fiber_stack.specs.declared.link.Link.TheVariants.{End, More'}

abbrev pub chunks : {F A : Type 0} → Link F A → List (Eight F)
chunks End = []
chunks (More' pointer first below) = first ∷ chunks below
