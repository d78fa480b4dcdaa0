-- The root of a tree: its kind, the number that stands in it, and what stands below it. They say which tree it is.
use Rattle.std.specs.Prelude.{ℕ, ◌==◌, if◌then◌else◌, Bool, true, false, Option, Some, None}
use Rattle.bt_nodes.specs.declared.leaf.Leaf.{Leaf}
use Rattle.bt_nodes.specs.declared.leaf.Leaf.TheVariants.{Take, Drop, At, Carrying, Item, Signal, Near, Give}
use Rattle.bt_nodes.specs.Plain.{Seq, Fallback, Plain, Composite, Star, Par, Not, Tries, Ticks, Wait, Move, Does, Forest, none}
use Rattle.bt_nodes.specs.declared.head.NodeKind.{NodeKind}
use Rattle.bt_nodes.specs.declared.head.NodeKind.TheVariants as kind

abbrev pub leaf_code : Leaf → ℕ
leaf_code Take = 10
leaf_code Drop = 11
leaf_code (At p) = 12
leaf_code Carrying = 13
leaf_code Item = 14
leaf_code (Signal a) = 15
leaf_code (Near n) = 16
leaf_code (Give b) = 17

abbrev pub kind_of : Plain → NodeKind
kind_of (Composite Seq children) = kind.Seq
kind_of (Composite Fallback children) = kind.Fallback
kind_of (Star Seq children) = kind.SeqStar
kind_of (Star Fallback children) = kind.FallbackStar
kind_of (Par m children) = kind.Par
kind_of (Not child) = kind.Not
kind_of (Tries n child) = kind.Tries
kind_of (Ticks n child) = kind.Ticks
kind_of (Wait n) = kind.Wait
kind_of (Move p) = kind.Move
kind_of (Does leaf) = kind.Does leaf

abbrev kind_code : NodeKind → ℕ
kind_code kind.Seq = 0
kind_code kind.Fallback = 1
kind_code kind.SeqStar = 2
kind_code kind.FallbackStar = 3
kind_code kind.Par = 4
kind_code kind.Not = 5
kind_code kind.Tries = 6
kind_code kind.Ticks = 7
kind_code kind.Wait = 8
kind_code kind.Move = 9
kind_code (kind.Does leaf) = leaf_code leaf

-- the number of a node's kind, by which digests know it
abbrev pub code_of : Plain → ℕ
code_of p = kind_code (kind_of p)

abbrev pub leaf_number : Leaf → Option ℕ
leaf_number Take = None
leaf_number Drop = None
leaf_number (At p) = Some p
leaf_number Carrying = None
leaf_number Item = None
leaf_number (Signal a) = Some a
leaf_number (Near n) = Some n
leaf_number (Give b) = Some b

abbrev pub number_of : Plain → Option ℕ
number_of (Composite kind children) = None
number_of (Star kind children) = None
number_of (Par m children) = Some m
number_of (Not child) = None
number_of (Tries n child) = Some n
number_of (Ticks n child) = Some n
number_of (Wait n) = Some n
number_of (Move p) = Some p
number_of (Does leaf) = leaf_number leaf

-- the leaf of such a kind in which this number stands
abbrev pub leaf_by : ℕ → ℕ → Leaf
leaf_by code n =
    if code == 10 then Take else (if code == 11 then Drop else (if code == 12 then At n else (if code == 13 then Carrying else
    (if code == 14 then Item else (if code == 15 then Signal n else (if code == 16 then Near n else Give n))))))

-- the children that it lists
abbrev pub listed : Plain → Forest
listed (Composite kind children) = children
listed (Star kind children) = children
listed (Par m children) = children
listed _ = none

-- whether its kind lists children, of which there may be none
abbrev pub lists : Plain → Bool
lists (Composite kind children) = true
lists (Star kind children) = true
lists (Par m children) = true
lists _ = false

-- the one child that it has by its kind
abbrev pub decorated : Plain → Option Plain
decorated (Not child) = Some child
decorated (Tries n child) = Some child
decorated (Ticks n child) = Some child
decorated _ = None

-- whether it is an action or a condition
abbrev pub is_leaf : Plain → Bool
is_leaf (Does leaf) = true
is_leaf _ = false
