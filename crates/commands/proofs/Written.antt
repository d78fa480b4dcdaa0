-- What a command has written, as a first part of it.
use Rattle.std.proofs.Common.{◌≡◌, ◌∙◌, ℕ, List, [], Option, Some, None, inl, inr, refl, sym, subst, append-nil}
use Rattle.std.specs.Prelude.{String, MatchOption, IsSomeAnd, Result, Ok, Err, OnOk}
use Rattle.std.specs.Io.KnownBytes.{Appends, Keeps}
use Rattle.byte_streams.specs.Streams.{AppendsPart}
use Rattle.game_rules.specs.Game.{Game}
use Rattle.level_text.specs.Games.{spelled_game}
use Rattle.commands.specs.Completing.{Completes, CompletesPart, CompletesFile, CompletesFilePart}
use Rattle.commands.specs.Written.{WritesSome, WritesPart, CompletesSome, CompletesSomePart, IsScriptOf, path_of}

pub on_ok_map : {T E : Type 0} (r : Result T E) (P Q : Type 0) → (P → Q) → OnOk r P → OnOk r Q
on_ok_map (Ok x) P Q f p = f p
on_ok_map (Err e) P Q f p = tt

pub on_ok : {T E : Type 0} (r : Result T E) (P : Type 0) → P → OnOk r P
on_ok (Ok x) P p = p
on_ok (Err e) P p = tt

-- what is read where a path may be absent
pub is_script : {A : Type 0} (path : Option (String A)) (script bytes : List ℕ) → (path ≡ None → bytes ≡ []) → script ≡ bytes → IsScriptOf (path_of path) script
is_script None script bytes none e = e ∙ none refl
is_script (Some path) script bytes none e = tt

module _ (of : Game → List ℕ) (old new path : Option (List ℕ)) where
  part_in : (level script : List ℕ) (game : Option Game) → IsScriptOf path script → spelled_game level script ≡ game
      → MatchOption game (Keeps old new) (λ g. AppendsPart old new (of g)) → WritesPart old new path of
  part_in level script None read e h = inl h
  part_in level script (Some g) read e h = inr (level, script, read, subst (λ game. IsSomeAnd game (λ g. AppendsPart old new (of g))) (sym e) h)

  pub some_part : (level script : List ℕ) → IsScriptOf path script → MatchOption (spelled_game level script) (Keeps old new) (λ g. AppendsPart old new (of g))
      → WritesPart old new path of
  some_part level script read h = part_in level script (spelled_game level script) read refl h

  whole_in : (game : Option Game) → IsSomeAnd game (λ g. Appends old new (of g)) → IsSomeAnd game (λ g. AppendsPart old new (of g))
  whole_in None h = absurd h
  whole_in (Some g) h = (of g, [], sym (append-nil (of g)), h)

  module _ (level script : List ℕ) (g : Game) (read : IsScriptOf path script) (e : spelled_game level script ≡ Some g) where
    pub writes_of : Appends old new (of g) → WritesSome old new path of
    writes_of h = (level, script, read, subst (λ game. IsSomeAnd game (λ g. Appends old new (of g))) (sym e) h)

    pub part_of : AppendsPart old new (of g) → WritesPart old new path of
    part_of h = inr (level, script, read, subst (λ game. IsSomeAnd game (λ g. AppendsPart old new (of g))) (sym e) h)

  -- all that is written is a part
  pub writes_part : WritesSome old new path of → WritesPart old new path of
  writes_part h = inr (h.0, h.1, h.2, whole_in (spelled_game h.0 h.1) h.3)

module _ (old new : Option (List ℕ)) where
  completed_in : (level script file : List ℕ) (game : Option Game) → spelled_game level script ≡ game → MatchOption game (Keeps old new) (CompletesFilePart old new file)
      → CompletesSomePart old new
  completed_in level script file None e h = inl h
  completed_in level script file (Some g) e (inl kept) = inl kept
  completed_in level script file (Some g) e (inr held) = inr (level, script, held.0, subst (λ game. IsSomeAnd game (CompletesPart old new held.0)) (sym e) held.2)

  pub completed_part : (level script file : List ℕ) → MatchOption (spelled_game level script) (Keeps old new) (CompletesFilePart old new file) → CompletesSomePart old new
  completed_part level script file h = completed_in level script file (spelled_game level script) refl h

  some_completed : (level script file whole : List ℕ) (game : Option Game) → spelled_game level script ≡ game → IsSomeAnd game (CompletesFile old new file whole)
      → CompletesSome old new
  some_completed level script file whole None e h = absurd h
  some_completed level script file whole (Some g) e h = (level, script, h.0, whole, subst (λ game. IsSomeAnd game (Completes old new h.0 whole)) (sym e) h.2)

  pub completes_some : (level script file whole : List ℕ) → IsSomeAnd (spelled_game level script) (CompletesFile old new file whole) → CompletesSome old new
  completes_some level script file whole h = some_completed level script file whole (spelled_game level script) refl h

  all_completed : (log whole : List ℕ) (game : Option Game) → IsSomeAnd game (Completes old new log whole) → IsSomeAnd game (CompletesPart old new log)
  all_completed log whole None h = absurd h
  all_completed log whole (Some g) h = inr (whole, h.0, (_, [], sym (append-nil _), h.1))

  pub completes_part : CompletesSome old new → CompletesSomePart old new
  completes_part h = inr (h.0, h.1, h.2, all_completed h.2 h.3 (spelled_game h.0 h.1) h.4)
