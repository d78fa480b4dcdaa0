-- Kinds of nodes.
use Rattle.std.specs.Prelude.{◌≡◌, Bool, true, false}
use Rattle.bt_nodes.specs.Plain.{Plain, Kind, Composite, Star, Par, Move, Forest}

abbrev pub HasList : Plain → Type 0
HasList (Composite kind cs) = Unit {0}
HasList (Star kind cs) = Unit {0}
HasList (Par m cs) = Unit {0}
HasList _ = ⊥

abbrev pub IsStarOf : Plain → Forest → Type 0
IsStarOf p cs = (kind : Kind) × (p ≡ Star kind cs)

abbrev pub IsPar : Plain → Type 0
IsPar (Par m cs) = Unit {0}
IsPar _ = ⊥

abbrev pub is_move : Plain → Bool
is_move (Move p) = true
is_move _ = false
