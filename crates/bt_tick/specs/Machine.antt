-- What a machine has left to do, where it stands in its tree, and how many steps are left.
use Rattle.std.specs.Prelude.{◌≡◌, ◌≤◌, ℕ, ◌+◌, ◌*◌, List, length, map}
use Rattle.grid_world.specs.declared.cell.Intent.{Intent}
use Rattle.bt_nodes.specs.Plain.{Plain, plain}
use Rattle.bt_nodes.specs.Sizes.{size}
use Rattle.bt_nodes.specs.Trees.{plain_of}
use Rattle.game_rules.specs.View.{View}
use Rattle.game_rules.specs.Tick.{State, Result, gives, tick}
use Rattle.fiber_stack.specs.declared.frame.Frame.{Frame}
use Rattle.bt_tick.specs.Suspended.{Open, go_on, unwind}
use Rattle.bt_tick.specs.Places.{Sits, Nested, weight_all}
use Rattle.bt_tick.specs.declared.machine.Mode.{Mode}
use Rattle.bt_tick.specs.declared.machine.Mode.TheVariants.{Down, Up}
use Rattle.bt_tick.specs.declared.machine.Machine.{Machine}

-- an open node without where it lies in memory
abbrev pub opened : {T : Type 0} → Frame T → Open
opened f = record { node = plain f.node.now; number = f.number; next = f.next; won = f.successes; lost = f.failures }

abbrev pub opens : {T : Type 0} → List (Frame T) → List Open
opens frames = map opened frames

-- ---- what is left

-- to tick a node, or to hand a status to the innermost open node
abbrev pub left_of : {T : Type 0} → View → Mode T → State → Result
left_of v (Down node n) s = tick v (plain node.now) n s
left_of v (Up st at) s = gives st s

-- what an open node does from its next child on
abbrev pub rest_of : View → Open → State → Result
rest_of v f s = go_on v f.node f.number f.next f.won f.lost s

-- a state with another memory and other wants
abbrev pub with_parts : List ℕ → List Intent → State → State
with_parts memory wants s = record s { memory = memory; wants = wants }

-- the machine's memory and wants go through this, and then through the open nodes
abbrev pub through : {T A : Type 0} → View → Machine T A → List (Frame T) → (State → Result) → State → Result
through v m frames left s = unwind v (opens frames) (left (with_parts m.memory m.wants.items s))

-- what the machine now has left is what this machine had left with these frames
abbrev pub Keeps : {T A : Type 0} → View → Machine T A → Mode T → Machine T A → List (Frame T) → (State → Result) → Type 0
Keeps v now mode old frames left = (s : State) → through v now now.stack (left_of v mode) s ≡ through v old frames left s

-- where only the memory may have changed: what is left with the memory that the machine now has is what was left with this one's
abbrev pub KeepsLeft : {T A : Type 0} → Machine T A → Machine T A → (State → Result) → (State → Result) → Type 0
KeepsLeft now old left was = (s : State) → left (with_parts now.memory old.wants.items s) ≡ was (with_parts old.memory old.wants.items s)

-- ---- where it stands

-- the whole tree
abbrev pub whole_of : {T A : Type 0} → Machine T A → Plain
whole_of m = plain_of m.tree.now

-- the number after the last node of what is ticked, or gave its status
abbrev pub end_of : {T : Type 0} → Mode T → ℕ
end_of (Down node n) = n + size (plain node.now)
end_of (Up st at) = at

-- a node to be ticked stands in the tree, in as many open nodes as are around it
abbrev pub StandsAt : {T : Type 0} → Plain → ℕ → Mode T → Type 0
StandsAt whole around (Down node n) = Sits whole n (plain node.now) × (around ≤ n)
StandsAt whole around (Up st at) = Unit {0}

pub record Placed {T A : Type 0} (m : Machine T A) (mode : Mode T) : Type 0 where
  pub nested : Nested (whole_of m) (end_of mode) (opens m.stack)
  pub stands : StandsAt (whole_of m) (length m.stack) mode

-- ---- how many steps are left at most

abbrev pub weight : {T A : Type 0} → Machine T A → Mode T → ℕ
weight m (Down node n) = 2 * size (plain node.now) + weight_all (opens m.stack)
weight m (Up st at) = 1 + weight_all (opens m.stack)
