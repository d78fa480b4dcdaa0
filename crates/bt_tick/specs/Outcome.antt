-- What a pending tick means, and when an outcome is that of a tick.
use Rattle.std.specs.Prelude.{◌≡◌, ℕ, List, [], Some}
use Rattle.grid_world.specs.declared.cell.Answer.{Answer}
use Rattle.grid_world.specs.declared.cell.Intent.{Intent}
use Rattle.bt_nodes.specs.Plain.{Plain}
use Rattle.bt_nodes.specs.Bounds.{Fits}
use Rattle.bt_nodes.specs.Trees.{plain_of}
use Rattle.game_rules.specs.View.{View}
use Rattle.game_rules.specs.Tick.{State, Result, Gives, Stands, gives}
use Rattle.game_rules.specs.Thought.{last_of, first_want}
use Rattle.bt_tick.specs.Suspended.{unwind, left_of_tick, after}
use Rattle.bt_tick.specs.Machine.{opens, left_of}
use Rattle.bt_tick.specs.declared.machine.Mode.{Mode}
use Rattle.bt_tick.specs.declared.machine.Machine.{Machine}
use Rattle.bt_tick.specs.declared.tick.Pending.{Pending}
use Rattle.bt_tick.specs.declared.tick.Outcome.{Outcome}
use Rattle.bt_tick.specs.declared.tick.Outcome.TheVariants.{Ended, Asks}

-- a state in which nothing was asked yet
abbrev pub fresh : List ℕ → List Intent → List Answer → State
fresh memory wants answers = record { memory = memory; wants = wants; asked = []; left = answers }

-- what is left of a pending tick, for each list of answers
abbrev pub means : {T A : Type 0} → View → Pending T A → List Answer → Result
means v p answers = left_of_tick v (opens p.machine.stack) p.place p.machine.memory p.machine.wants.items answers

-- the place for whose way it asks
abbrev pub place_of : {T A : Type 0} → Pending T A → ℕ
place_of p = p.place

-- the tree that is ticked
abbrev pub tree_of : {T A : Type 0} → Pending T A → Plain
tree_of p = plain_of p.machine.tree.now

-- what a machine has left, for each list of answers
abbrev pub machine_left : {T A : Type 0} → View → Machine T A → Mode T → List Answer → Result
machine_left v m mode answers = unwind v (opens m.stack) (left_of v mode (fresh m.memory m.wants.items answers))

-- What a tick comes to by its answers, whose first questions were for these places: for each list of later answers it
-- has ended with these wants, or what is left is what the pending tick means.
abbrev pub ComesTo : {T A : Type 0} → View → List ℕ → Outcome T A → (List Answer → Result) → Type 0
ComesTo v places (Ended st memory intent) run =
    (wants : List Intent) × (intent ≡ first_want wants) × ((more : List Answer) → run more ≡ after places (gives st (fresh memory wants more)))
ComesTo v places (Asks place p) run =
    (place ≡ place_of p) × ((more : List Answer) → run more ≡ after places (means v p more))

-- the outcome of a tick with this result: its status, memory and first want, or the last of the places that it asks
abbrev pub IsOutcome : {T A : Type 0} → Outcome T A → Result → Type 0
IsOutcome (Ended st memory intent) r = (r.reply ≡ Gives st) × (memory ≡ r.state.memory) × (intent ≡ first_want r.state.wants)
IsOutcome (Asks place p) r = (r.reply ≡ Stands) × (last_of r.state.asked ≡ Some place)

-- an ended tick's memory fits the tree, and a pending one is of it
abbrev pub IsOfTree : {T A : Type 0} → Plain → Outcome T A → Type 0
IsOfTree tree (Ended st memory intent) = Fits tree memory
IsOfTree tree (Asks place p) = tree_of p ≡ tree
