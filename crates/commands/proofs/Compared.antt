-- What is written of a game, by what the game is.
use Rattle.std.proofs.Common.{◌≡◌, ◌∙◌, ◌++◌, ℕ, List, [], Option, Some, None, Result, Ok, refl, sym, ap, ap₂, subst, append-nil}
use Rattle.std.specs.Prelude.{MatchOption, IsSomeAnd, IfOk}
use Rattle.std.specs.Io.KnownBytes.{Appends, Keeps}
use Rattle.byte_streams.specs.Streams.{AppendsPart}
use Rattle.game_rules.specs.Game.{Game}
use Rattle.game_session.specs.Faults.{Fault}
use Rattle.game_session.specs.Parts.{Parts}
use Rattle.stepping.specs.LevelDigest.{level_digest_of, script_digest_of}
use Rattle.stepping.specs.Played.{Played}
use Rattle.stepping.specs.StateText.{state_text, scripted_state_text}
use Rattle.commands.specs.Opening.{IsSteppedTo}
use Rattle.commands.specs.Texts.{check_line, digests_head, digest_lines, digests_text}
use Rattle.commands.proofs.Stepped.{text_is}

pub digests_are : (game : Option Game) (p : Played) (level script frames : ℕ) (first all : List ℕ) → IsSomeAnd game (λ g. IsSteppedTo g 0 p)
    → IsSomeAnd game (λ g. level ≡ level_digest_of g) → IsSomeAnd game (λ g. script ≡ script_digest_of g.changes) → first ≡ digests_head level script
    → ((g : Game) → IsSteppedTo g 0 p → all ≡ first ++ digest_lines g frames) → IsSomeAnd game (λ g. all ≡ digests_text g frames)
digests_are None p level script frames first all h e f head lines = absurd h
digests_are (Some g) p level script frames first all h e f head lines =
    lines g h ∙ ap (λ l. l ++ digest_lines g frames) (head ∙ ap₂ digests_head e f)

pub state_is_told : (game : Option Game) (p q : Played) (frame : ℕ) (text : List ℕ) → IsSomeAnd game (λ g. IsSteppedTo g 0 p)
    → ((g : Game) → IsSteppedTo g 0 p → IsSteppedTo g frame q) → text ≡ state_text q → IsSomeAnd game (λ g. text ≡ scripted_state_text g frame)
state_is_told None p q frame text h goes is = absurd h
state_is_told (Some g) p q frame text h goes is = is ∙ text_is g q frame (goes g h)

module _ (of : Game → List ℕ) (old new : Option (List ℕ)) where
  pub appended : (game : Option Game) (text : List ℕ) → IsSomeAnd game (λ g. text ≡ of g) → Appends old new text → IsSomeAnd game (λ g. Appends old new (of g))
  appended None text h wrote = absurd h
  appended (Some g) text h wrote = subst (λ l. Appends old new l) h wrote

  pub appended_part : (game : Option Game) (text : List ℕ) → IsSomeAnd game (λ g. text ≡ of g) → AppendsPart old new text
      → MatchOption game (Keeps old new) (λ g. AppendsPart old new (of g))
  appended_part None text h wrote = absurd h
  appended_part (Some g) text h wrote = subst (λ l. AppendsPart old new l) h wrote

kept : (a : Option (List ℕ)) → Keeps a a
kept None = tt
kept (Some xs) = refl

none_written : (a : Option (List ℕ)) (all : List ℕ) → AppendsPart a a all
none_written None all = ([], all, refl, tt)
none_written (Some xs) all = ([], all, refl, sym (append-nil xs))

pub untouched : (of : Game → List ℕ) (a : Option (List ℕ)) (game : Option Game) → MatchOption game (Keeps a a) (λ g. AppendsPart a a (of g))
untouched of a None = kept a
untouched of a (Some g) = none_written a (of g)

-- a part of a right level's line was written
pub line_part : (right : Result Parts Fault) (level : Parts) (line : List ℕ) (old new : Option (List ℕ)) → right ≡ Ok level → line ≡ check_line level
    → AppendsPart old new line → IfOk right (λ l. AppendsPart old new (check_line l))
line_part right level line old new spells is wrote =
    subst (λ r. IfOk r (λ l. AppendsPart old new (check_line l))) (sym spells) (subst (λ t. AppendsPart old new t) is wrote)
