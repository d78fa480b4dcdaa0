-- A writer that was not called.
use Rattle.std.proofs.Common.{ℕ, List, [], Option, Some, None, IfSome, refl, sym, append-nil}
use Rattle.std.specs.Prelude.{MatchOption, IsSomeAnd}
use Rattle.std.specs.Io.KnownBytes.{Appends, Keeps}
use Rattle.game_rules.specs.Game.{Game}
use Rattle.game_rules.specs.Text.{texts}
use Rattle.byte_streams.specs.Streams.{AppendsPart}
use Rattle.level_text.specs.Games.{spelled_game}

pub kept : (a : Option (List ℕ)) → Keeps a a
kept None = tt
kept (Some xs) = refl

pub none_written : (a : Option (List ℕ)) (all : List ℕ) → AppendsPart a a all
none_written None all = ([], all, refl, tt)
none_written (Some xs) all = ([], all, refl, sym (append-nil xs))

pub no_game_or_part : (a : Option (List ℕ)) (game : Option Game) (n : ℕ) → MatchOption game (Keeps a a) (λ g. AppendsPart a a (texts g n))
no_game_or_part a None n = kept a
no_game_or_part a (Some g) n = none_written a (texts g n)

pub untouched : (known a : Option (List ℕ)) (n : ℕ) → IfSome known (λ bytes. MatchOption (spelled_game bytes []) (Keeps a a) (λ g. AppendsPart a a (texts g n)))
untouched None a n = tt
untouched (Some bytes) a n = no_game_or_part a (spelled_game bytes []) n

part_of_whole : (a b : Option (List ℕ)) (game : Option Game) (n : ℕ) → IsSomeAnd game (λ g. Appends a b (texts g n)) → MatchOption game (Keeps a b) (λ g. AppendsPart a b (texts g n))
part_of_whole a b None n h = absurd h
part_of_whole a b (Some g) n h = (texts g n, [], sym (append-nil (texts g n)), h)

-- the whole text is a first part of itself
pub whole_is_part : (known a b : Option (List ℕ)) (n : ℕ) → IfSome known (λ bytes. IsSomeAnd (spelled_game bytes []) (λ g. Appends a b (texts g n)))
    → IfSome known (λ bytes. MatchOption (spelled_game bytes []) (Keeps a b) (λ g. AppendsPart a b (texts g n)))
whole_is_part None a b n h = tt
whole_is_part (Some bytes) a b n h = part_of_whole a b (spelled_game bytes []) n h
