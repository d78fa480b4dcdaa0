-- The places and the agents that trees name, and those that stand in a node itself.
use Rattle.std.specs.Prelude.{ℕ, Bool, List, [], ◌∷◌, Option, Some}
use Rattle.grid_world.specs.Grid.{Grid}
use Rattle.bt_nodes.specs.Plain.{Plain, Forest}
use Rattle.game_session.specs.Places.{places, places_in, has_place}
use Rattle.game_session.specs.Agents.{agents, agents_in, has_agent}
use Rattle.level_text.specs.declared.argument.Argument.{Argument}
use Rattle.level_text.specs.declared.argument.Argument.TheVariants as given
use Rattle.level_text.specs.declared.named.Named.{Named}
use Rattle.level_text.specs.declared.named.Named.TheVariants.{Places, Agents}
use Rattle.level_text.specs.Begun.{argument}

abbrev pub argument_places : Option Argument → List ℕ
argument_places (Some (given.Place p)) = p ∷ []
argument_places _ = []

abbrev pub argument_agents : Option Argument → List ℕ
argument_agents (Some (given.Agent b)) = b ∷ []
argument_agents _ = []

abbrev pub own_places : Plain → List ℕ
own_places p = argument_places (argument p)

abbrev pub own_agents : Plain → List ℕ
own_agents p = argument_agents (argument p)

abbrev pub own : Named → Plain → List ℕ
own Places p = own_places p
own Agents p = own_agents p

abbrev pub named : Named → Plain → List ℕ
named Places p = places p
named Agents p = agents p

abbrev pub named_in : Named → Forest → List ℕ
named_in Places cs = places_in cs
named_in Agents cs = agents_in cs

-- whether it is on the map
abbrev pub is_found : Named → Grid → ℕ → Bool
is_found Places g = has_place g
is_found Agents g = has_agent g
