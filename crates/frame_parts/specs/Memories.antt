-- The memories of all agents, by agent number.
use Rattle.std.specs.Prelude.{ℕ, ◌≡◌, ◌<◌, List, [], length, slice_index_or}
use Rattle.bt_nodes.specs.Plain.{Plain}
use Rattle.bt_nodes.specs.Bounds.{Fits}

-- each agent's memory fits its tree
pub record AllFit (trees : List Plain) (memories : List (List ℕ)) : Type 0 where
  pub one_each : length memories ≡ length trees
  pub fits : (a : ℕ) (p : Plain) → a < length trees → Fits (slice_index_or trees a p) (slice_index_or memories a [])
