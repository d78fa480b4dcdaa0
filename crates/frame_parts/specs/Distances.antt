-- Distances to places that are kept: on which ground, under which signals and to which place they are.
use Rattle.std.specs.Prelude.{ℕ, Bool, ◌≡◌, List, [], All, Option, Some, None, refl}
use Rattle.std.specs.Coded.{Coded, code_by, coded×, coded_ℕ, coded_bool, coded_list}
use Rattle.grid_world.specs.Grid.{Grid}
use Rattle.game_rules.specs.Game.{Game}
use Rattle.game_session.specs.GameCode.{game_code}

-- the distances to a place on a game's ground while the doors of these signals are open
pub record DistancesOf : Type 0 where
  pub ground : Grid
  pub signals : List Bool
  pub place : ℕ

-- those to some places
pub record DistanceCacheOf : Type 0 where
  pub ground : Grid
  pub signals : List Bool

abbrev pub distances_of : Grid → List Bool → ℕ → DistancesOf
distances_of g on place = record { ground = g; signals = on; place = place }

abbrev pub known_of : Grid → List Bool → DistanceCacheOf
known_of g on = record { ground = g; signals = on }

-- each of these is on the ground and under the signals
abbrev pub IsUnder : Grid → List Bool → DistancesOf → Type 0
IsUnder g on d = (d.ground ≡ g) × (d.signals ≡ on)

abbrev pub AllUnder : Grid → List Bool → List DistancesOf → Type 0
AllUnder g on all = All (λ d. IsUnder g on d) all

abbrev pub AllOn : Grid → List DistancesOf → Type 0
AllOn g all = All (λ d. d.ground ≡ g) all

-- those that a search found, if it found any
abbrev pub IsUnderIf : Grid → List Bool → Option DistancesOf → Type 0
IsUnderIf g on None = Unit {0}
IsUnderIf g on (Some d) = IsUnder g on d

-- those that a search is given, if it is given any
abbrev pub IsGivenIf : Grid → List Bool → ℕ → Option DistancesOf → Type 0
IsGivenIf g on place None = Unit {0}
IsGivenIf g on place (Some d) = d ≡ distances_of g on place

-- ---- how the logic stores them

-- a ground as the game on it that has no agents
abbrev ground_code : Coded Grid
ground_code = code_by Game game_code (λ g. record { world = g; trees = []; changes = [] }) (λ g. g.world) (λ _. refl)

abbrev pub distances_code : Coded DistancesOf
distances_code =
    code_by (Grid × (List Bool × ℕ)) (coded× ground_code (coded× (coded_list coded_bool) coded_ℕ)) (λ d. (d.ground, (d.signals, d.place)))
    (λ p. record { ground = p.0; signals = p.1.0; place = p.1.1 }) (λ _. refl)

abbrev pub distance_cache_code : Coded DistanceCacheOf
distance_cache_code =
    code_by (Grid × List Bool) (coded× ground_code (coded_list coded_bool)) (λ k. (k.ground, k.signals)) (λ p. record { ground = p.0; signals = p.1 }) (λ _. refl)
