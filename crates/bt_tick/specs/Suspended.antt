-- What is left of a tick that stands at a question: the nodes that it has open, each with what it does by the status of its child.
use Rattle.std.specs.Prelude.{ℕ, ◌+◌, List, [], ◌∷◌, ◌++◌}
use Rattle.grid_world.specs.declared.cell.Answer.{Answer}
use Rattle.grid_world.specs.declared.cell.Intent.{Intent}
use Rattle.bt_nodes.specs.declared.node.Status.{Status}
use Rattle.bt_nodes.specs.declared.node.Status.TheVariants.{Success, Failure, Running}
use Rattle.bt_nodes.specs.Plain.{Plain, Composite, Star, Par, Not, Tries, Ticks}
use Rattle.bt_nodes.specs.Sizes.{count}
use Rattle.game_rules.specs.View.{View}
use Rattle.game_rules.specs.Tick.{State, Result, gives, on, on_kind, stops, put, ask, tick_line, tick_star, tick_all}
use Rattle.bt_tick.specs.Children.{from_child, child_number}

-- An open node: its tree, its number, how many of its children were begun or passed over, and how many of those that
-- ended succeeded and failed. Of tries and ticks, lost is the node's number at its opening.
pub record Open : Type 0 where
  pub node : Plain
  pub number : ℕ
  pub next : ℕ
  pub won : ℕ
  pub lost : ℕ

-- what the status of a child adds to those that succeeded, and to those that failed
abbrev pub won_by : Status → ℕ
won_by Success = 1
won_by _ = 0

abbrev pub lost_by : Status → ℕ
lost_by Failure = 1
lost_by _ = 0

-- an open node that has counted this status of a child
abbrev pub with_status : Status → Open → Open
with_status st f = record f { won = f.won + won_by st; lost = f.lost + lost_by st }

module _ (v : View) where
  -- what a node with number n does from child k on
  abbrev pub go_on : Plain → (n k won lost : ℕ) → State → Result
  go_on (Composite kind cs) n k won lost s = tick_line v (from_child k cs) kind (child_number k cs (n + 1)) s
  go_on (Star kind cs) n k won lost s = tick_star v (from_child k cs) kind 0 k n (child_number k cs (n + 1)) s
  go_on (Par m cs) n k won lost s = tick_all v (from_child k cs) m (count cs) won lost (child_number k cs (n + 1)) s
  go_on _ n k won lost s = gives Running s

  -- what it does by what its child before child k came to
  abbrev pub close_at : Plain → (n k won lost : ℕ) → Result → Result
  close_at (Composite kind cs) n k won lost r = on_kind kind r (go_on (Composite kind cs) n k won lost) (gives (stops kind))
  close_at (Star kind cs) n k won lost r =
      on_kind kind r (λ s. go_on (Star kind cs) n k won lost (put n k s)) (λ s. gives (stops kind) (put n 0 s))
  close_at (Par m cs) n k won lost r =
      on r (go_on (Par m cs) n k (won + 1) lost) (go_on (Par m cs) n k won (lost + 1)) (go_on (Par m cs) n k won lost)
  close_at (Not c) n k won lost r = on r (gives Failure) (gives Success) (gives Running)
  close_at (Tries m c) n k won lost r = on r (gives Success) (λ s. gives Failure (put n (lost + 1) s)) (gives Running)
  close_at (Ticks m c) n k won lost r =
      on r (λ s. gives Success (put n 0 s)) (λ s. gives Failure (put n 0 s)) (λ s. gives Running (put n (lost + 1) s))
  close_at _ n k won lost r = r

  abbrev pub close : Open → Result → Result
  close f r = close_at f.node f.number f.next f.won f.lost r

  -- what the open nodes make of it, the innermost first
  abbrev pub unwind : List Open → Result → Result
  unwind [] r = r
  unwind (f ∷ fs) r = unwind fs (close f r)

  -- A tick that stands at a question for this place, with these nodes open, and the memory and the wants so far:
  -- the question takes the first answer, and the open nodes go on with those that follow.
  abbrev pub left_of_tick : List Open → (place : ℕ) → (memory : List ℕ) → (wants : List Intent) → List Answer → Result
  left_of_tick fs place memory wants answers = unwind fs (ask place answers (record { memory = memory; wants = wants; asked = []; left = answers }))

-- the same, where these places were asked before
abbrev pub before : List ℕ → State → State
before places s = record s { asked = places ++ s.asked }

abbrev pub after : List ℕ → Result → Result
after places r = record { reply = r.reply; state = before places r.state }
