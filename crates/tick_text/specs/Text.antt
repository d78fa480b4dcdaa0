-- What is told of an agent's tick in a frame.
use Rattle.std.specs.Prelude.{ℕ, ◌≡◌, ◌++◌, Bool, List, [], codes, decimal, slice_index_or}
use Rattle.grid_world.specs.Grid.{agent_of}
use Rattle.bt_nodes.specs.declared.node.Status.{Status}
use Rattle.bt_nodes.specs.declared.node.Status.TheVariants.{Success}
use Rattle.bt_nodes.specs.declared.leaf.Leaf.TheVariants.{Carrying}
use Rattle.bt_nodes.specs.Plain.{Plain, Does}
use Rattle.game_rules.specs.Play.{Position}
use Rattle.game_rules.specs.Text.{agent_text}
use Rattle.stepping.specs.Answered.{node_answers}
use Rattle.stepping.specs.Played.{Played, IsStepped, sight}
use Rattle.tick_text.specs.Lines.{Tick, node_lines}

-- the tick of an agent in a frame with these signals, between the positions before and after it
abbrev pub tick_in : List Plain → List Bool → (before after : Position) → ℕ → Tick
tick_in trees on before after a =
    let v = sight before.world on a in
    let memory = slice_index_or before.memories a [] in
    record {
      view = v;
      answers = node_answers v (slice_index_or trees a (Does Carrying)) memory;
      before = memory;
      after = slice_index_or after.memories a [];
    }

-- frame f, whose ticks came to these answers: its number, the agent's line of the frame, and its nodes
abbrev pub tick_text : List Plain → List Bool → (before after : Position) → List Status → (f a : ℕ) → List ℕ
tick_text trees on before after answers f a =
    codes "frame " ++ decimal f ++ codes "\n" ++ agent_text a (agent_of after.world a) (slice_index_or answers a Success)
    ++ node_lines (tick_in trees on before after a) (slice_index_or trees a (Does Carrying)) 0 0

-- by a game and the same game a frame on
abbrev pub text_between : List Bool → Played → Played → ℕ → List ℕ
text_between on p q a = tick_text p.game.trees on p.position q.position q.answers q.frame a

-- of the next frame, if that has these signals
abbrev pub IsNextTickText : Played → List Bool → ℕ → List ℕ → Type 0
IsNextTickText p on a text = (q : Played) × IsStepped on p q × (text ≡ text_between on p q a)
