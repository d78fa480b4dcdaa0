-- What is written of a game, where no contract says which bytes the files hold that spell it.
use Rattle.std.specs.Prelude.{ℕ, ◌≡◌, ◌⊎◌, List, [], Option, Some, None, String, IsSomeAnd, option_map, string_bytes}
use Rattle.std.specs.Io.KnownBytes.{Appends, Keeps}
use Rattle.byte_streams.specs.Streams.{AppendsPart}
use Rattle.game_rules.specs.Game.{Game}
use Rattle.level_text.specs.Games.{spelled_game}
use Rattle.commands.specs.Completing.{Completes, CompletesPart}

-- a path that may be absent
abbrev pub path_of : {A : Type 0} → Option (String A) → Option (List ℕ)
path_of path = option_map (λ s. string_bytes s) path

-- the bytes of the script of this path: none where there is no path
abbrev pub IsScriptOf : (path : Option (List ℕ)) → (script : List ℕ) → Type 0
IsScriptOf None script = script ≡ []
IsScriptOf (Some path) script = Unit {0}

-- a text of the game that some level and the script of this path spell was written
abbrev pub WritesSome : (old new path : Option (List ℕ)) → (Game → List ℕ) → Type 0
WritesSome old new path of =
    (level : List ℕ) × (script : List ℕ) × IsScriptOf path script × IsSomeAnd (spelled_game level script) (λ g. Appends old new (of g))

-- nothing was written, or a first part of such a text
abbrev pub WritesPart : (old new path : Option (List ℕ)) → (Game → List ℕ) → Type 0
WritesPart old new path of =
    Keeps old new ⊎ ((level : List ℕ) × (script : List ℕ) × IsScriptOf path script × IsSomeAnd (spelled_game level script) (λ g. AppendsPart old new (of g)))

-- all frames of a run were written that goes on where some log ends
abbrev pub CompletesSome : (old new : Option (List ℕ)) → Type 0
CompletesSome old new =
    (level : List ℕ) × (script : List ℕ) × (log : List ℕ) × (whole : List ℕ) × IsSomeAnd (spelled_game level script) (Completes old new log whole)

-- nothing was written, or a first part of such frames
abbrev pub CompletesSomePart : (old new : Option (List ℕ)) → Type 0
CompletesSomePart old new =
    Keeps old new ⊎ ((level : List ℕ) × (script : List ℕ) × (log : List ℕ) × IsSomeAnd (spelled_game level script) (CompletesPart old new log))
