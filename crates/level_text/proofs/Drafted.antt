-- What is known of a draft's parts once its faults were looked for in turn.
use Rattle.std.proofs.Common.{◌≡◌, ℕ, List, length, map, Bool, true, false, ◌==◌, Some, None, refl, sym, ap, ◌∙◌}
use Rattle.std.specs.Str.{chars}
use Rattle.grid_world.specs.Grid.{Grid}
use Rattle.grid_world.specs.Map.{grid_of}
use Rattle.game_session.specs.Parts.{Parts, NamedPlain}
use Rattle.game_session.specs.Faults.{row_fault, count_fault, agent_fault, place_fault, crew_fault, world_of, agent_count}

module _ (parts : Parts) where
  -- the map is read, and there are as many names as agents on it
  pub record IsCounted (w : Grid) : Type 0 where
    pub rows : row_fault parts.rows ≡ None
    pub world : w ≡ world_of parts
    pub count : count_fault parts ≡ None

  pub no_row_fault : (rows : List (List ℕ)) → rows ≡ parts.rows → row_fault rows ≡ None → row_fault parts.rows ≡ None
  no_row_fault rows same h = ap row_fault (sym same) ∙ h

  pub world_is : (rows : List (List ℕ)) (w : Grid) → rows ≡ parts.rows → w ≡ grid_of (map chars rows) → w ≡ world_of parts
  world_is rows w same h = h ∙ ap (λ r. grid_of (map chars r)) same

  pub count_is : (names : List (List ℕ)) (w : Grid) (b : Bool) → names ≡ parts.names → w ≡ world_of parts → b ≡ (length names == length w.agents)
      → (length parts.names == length (world_of parts).agents) ≡ b
  count_is names w b same world h =
      sym (h ∙ ap (λ ns. length ns == length w.agents) same ∙ ap (λ v. length parts.names == length v.agents) world)

  pub no_count_fault : (length parts.names == length (world_of parts).agents) ≡ true → count_fault parts ≡ None
  no_count_fault h = rw h refl

  pub is_count_fault : (length parts.names == length (world_of parts).agents) ≡ false → count_fault parts ≡ Some agent_count
  is_count_fault h = rw h refl

  pub counted : (rows names : List (List ℕ)) (w : Grid) (b : Bool) → rows ≡ parts.rows → (row_fault rows ≡ None) × (w ≡ grid_of (map chars rows)) → names ≡ parts.names
      → b ≡ (length names == length w.agents) → b ≡ true → IsCounted w
  counted rows names w b same read named is all =
      let world = world_is rows w same read.1 in
      record { rows = no_row_fault rows same read.0; world = world; count = no_count_fault (count_is names w b named world is ∙ all) }

  pub agent_fault-same : (names : List (List ℕ)) (ts : List NamedPlain) → names ≡ parts.names → ts ≡ parts.trees → agent_fault 0 names ts ≡ agent_fault 0 parts.names parts.trees
  agent_fault-same names ts n t = ap (λ ns. agent_fault 0 ns ts) n ∙ ap (agent_fault 0 parts.names) t

  pub place_fault-same : (w : Grid) (ts : List NamedPlain) → w ≡ world_of parts → ts ≡ parts.trees → place_fault w ts ≡ place_fault (world_of parts) parts.trees
  place_fault-same w ts v t = ap (λ g. place_fault g ts) v ∙ ap (place_fault (world_of parts)) t

  pub crew_fault-same : (w : Grid) (ts : List NamedPlain) → w ≡ world_of parts → ts ≡ parts.trees → crew_fault w ts ≡ crew_fault (world_of parts) parts.trees
  crew_fault-same w ts v t = ap (λ g. crew_fault g ts) v ∙ ap (crew_fault (world_of parts)) t
