-- An observed tick on its way, as plain data.
use Rattle.std.specs.Prelude.{◌≡◌, ◌<◌, ◌≤◌, ◌+◌, ℕ, Bool, true, false, List, length, drop, Option, Some, None}
use Rattle.grid_world.specs.declared.cell.Answer.{Answer}
use Rattle.grid_world.specs.declared.cell.Intent.{Intent}
use Rattle.bt_nodes.specs.declared.node.Status.{Status}
use Rattle.bt_nodes.specs.declared.node.Status.TheVariants.{Success, Failure, Running}
use Rattle.bt_nodes.specs.Plain.{Kind, Seq, Fallback, Plain, Tries, Ticks, Forest, tree}
use Rattle.bt_nodes.specs.Sizes.{size, sizes, subtree_sizes, subtree_sizes_all}
use Rattle.bt_nodes.specs.Trees.{plain_of}
use Rattle.game_rules.specs.Tick.{Reply, Gives, Stands, State, Result, put, want}
use Rattle.bt_tick.specs.Places.{Segment}
use Rattle.stepping.specs.Answered.{given, written}
use Rattle.stepping.specs.declared.observer.Observer.{Observer}
use Rattle.stepping.specs.declared.progress.Progress.{Progress}
use Rattle.stepping.specs.declared.counter.Counter.{Counter}
use Rattle.stepping.specs.declared.counter.Counter.TheVariants as counts
use Rattle.stepping.specs.declared.order.Order.{Order}
use Rattle.stepping.specs.declared.order.Order.TheVariants as order

-- the state of a tick, and what the nodes have answered so far
pub record Seen : Type 0 where
  pub state : State
  pub told : List (Option Status)

abbrev pub seen : List Answer → Progress → Seen
seen answers p = record {
  state = record { memory = p.numbers.items; wants = p.wants.items; asked = p.asked.items; left = drop p.used answers };
  told = p.told.items;
}

abbrev pub reply_of : Option Status → Reply
reply_of (Some st) = Gives st
reply_of None = Stands

abbrev pub kind_of : Order → Kind
kind_of order.Seq = Seq
kind_of order.Fallback = Fallback

-- the decorator that counts this
abbrev pub counting : Counter → ℕ → Plain → Plain
counting counts.Failures most child = Tries most child
counting counts.Ticks most child = Ticks most child

-- what a not makes of its child's answer
abbrev pub not_of : Option Status → Option Status
not_of (Some Success) = Some Failure
not_of (Some Failure) = Some Success
not_of reply = reply

-- whether it stops at this status of a child
abbrev pub stops_at : Kind → Reply → Bool
stops_at Seq (Gives Failure) = true
stops_at Fallback (Gives Success) = true
stops_at kind reply = false

-- of a par's children, with one more status the successes and the failures
abbrev pub counted : Status → (won lost : ℕ) → ℕ × ℕ
counted Success won lost = (won + 1, lost)
counted Failure won lost = (won, lost + 1)
counted Running won lost = (won, lost)

-- ---- what is written

abbrev pub with_number : ℕ → ℕ → Seen → Seen
with_number n number s = record s { state = put n number s.state }

abbrev pub with_want : Intent → Seen → Seen
with_want i s = record s { state = want i s.state }

abbrev pub with_told : ℕ → Option Status → Seen → Seen
with_told n reply s = record s { told = written (given n (reply_of reply)) s.told }

-- what a tries that has counted so many failures writes behind its child's reply, and a ticks that has counted so many ticks
abbrev pub tried : (n failed : ℕ) → Option Status → State → State
tried n failed (Some Failure) s = put n (failed + 1) s
tried n failed reply s = s

abbrev pub ticked_on : (n past : ℕ) → Option Status → State → State
ticked_on n past (Some Success) s = put n 0 s
ticked_on n past (Some Failure) s = put n 0 s
ticked_on n past (Some Running) s = put n (past + 1) s
ticked_on n past None s = s

abbrev pub with_count : Counter → (n past : ℕ) → Option Status → Seen → Seen
with_count counts.Failures n past reply s = record s { state = tried n past reply s.state }
with_count counts.Ticks n past reply s = record s { state = ticked_on n past reply s.state }

-- and where its number has come to the most
abbrev pub given_up : Counter → ℕ → Seen → Seen
given_up counts.Failures n s = s
given_up counts.Ticks n s = with_number n 0 s

-- what a leaf of this status and this intent wants
abbrev pub wanting : Status → Intent → State → State
wanting Running i s = want i s
wanting st i s = s

-- ---- steps

-- there is room for each node of a tree
pub record HasRoom (whole : Plain) (s : Seen) : Type 0 where
  pub numbers : length s.state.memory ≡ size whole
  pub told : length s.told ≡ size whole

-- a part of a tick, whose nodes tell this, came from one state to another
pub record Observed (whole : Plain) (part : State → Result) (tells : State → List (ℕ × Status)) (old : Seen) (reply : Option Status) (new : Seen) : Type 0 where
  pub result : part old.state ≡ record { reply = reply_of reply; state = new.state }
  pub told : new.told ≡ written (tells old.state) old.told
  pub room : HasRoom whole new

-- such a part, as an observer comes to it
abbrev pub Observes : Observer → (State → Result) → (State → List (ℕ × Status)) → Progress → Option Status → Progress → Type 0
Observes o part tells old reply new = Observed (plain_of o.tree.now) part tells (seen o.answers.now old) reply (seen o.answers.now new)

-- a node, or some behind one another, with the number n in a whole tree: the sizes of the subtrees from n on are theirs
abbrev pub StandsAt : Plain → ℕ → Plain → Type 0
StandsAt whole n p = Segment (subtree_sizes whole) n (subtree_sizes p)

abbrev pub StandAt : Plain → ℕ → Forest → Type 0
StandAt whole n cs = Segment (subtree_sizes whole) n (subtree_sizes_all cs)

-- the first of some nodes behind one another, of which it has the number n, those behind it, and the number of the first of those
pub record IsFirst (whole : Plain) (cs : Forest) (n : ℕ) (c : Plain) (rest : Forest) (next : ℕ) : Type 0 where
  pub is : cs ≡ tree c rest
  pub many : sizes cs ≡ size c + sizes rest
  pub behind : next ≡ n + size c
  pub later : n < next
  pub within : next ≤ 255
  pub stands : StandsAt whole n c
  pub stand : StandAt whole next rest
