-- That the open nodes stand within one another has one proof at most.
use Rattle.std.proofs.Common.{ℕ, ◌+◌, List, [], ◌∷◌, length}
use Rattle.std.specs.Coded.{×_prop, Unit-prop}
use Rattle.std.proofs.Props.{props}
use Rattle.bt_nodes.specs.Plain.{Plain}
use Rattle.bt_nodes.specs.Sizes.{size}
use Rattle.bt_tick.specs.Suspended.{Open}
use Rattle.bt_tick.specs.Places.{Standing, Nested}

Standing-prop : (whole : Plain) (counting e around : ℕ) (f : Open) → IsProp (Standing whole counting e around f)
Standing-prop whole counting e around f = hlevel props

pub Nested-prop : (whole : Plain) (e : ℕ) (fs : List Open) → IsProp (Nested whole e fs)
Nested-prop whole e [] = Unit-prop
Nested-prop whole e (f ∷ fs) = ×_prop (Standing-prop whole f.next e (length fs) f) (Nested-prop whole (f.number + size f.node) fs)
