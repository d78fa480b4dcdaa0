-- What a run has written, as a first part of its text.
use Rattle.std.proofs.Common.{ℕ, List, [], Option, Some, None, refl, sym, ◌∙◌, append-nil}
use Rattle.std.specs.Prelude.{MatchOption, IsSomeAnd, IsSome}
use Rattle.std.specs.Io.KnownBytes.{Appends, Keeps}
use Rattle.byte_streams.specs.Streams.{AppendsPart}
use Rattle.byte_streams.proofs.Parts.{first_bytes}
use Rattle.game_rules.specs.Game.{Game}
use Rattle.game_rules.specs.Text.{texts}
use Rattle.job_core.specs.Core.{IsComplete}
use Rattle.job_scheduler.specs.Numbers.{Numbers}
use Rattle.task_board.specs.Setups.{setup_for}
use Rattle.level_text.specs.Games.{spelled_game}
use Rattle.play_run.specs.Plays as plays
use Rattle.run_shared.specs.Printed.{WrotePart}
use Rattle.play_run.specs.declared.report.RunReport.{RunReport}
use Rattle.play_run.specs.declared.play_fault.PlayFault.{PlayFault}
use Rattle.play_run.specs.declared.play_fault.PlayFault.TheVariants.{Level, Script, Run}
use Rattle.commands.specs.Faults.{IsPlayFault}

pub whole_text : (old new : Option (List ℕ)) (game : Option Game) (n : Numbers) (r : RunReport) → IsSomeAnd game (λ g. plays.IsPlayed old new g n r)
    → IsSomeAnd game (λ g. Appends old new (texts g n.frames))
whole_text old new None n r h = absurd h
whole_text old new (Some g) n r h = h.text

pub whole_list : (old new : Option (List ℕ)) (game : Option Game) (n : Numbers) (r : RunReport) → IsSomeAnd game (λ g. plays.IsPlayed old new g n r)
    → IsSomeAnd game (λ g. IsComplete (setup_for g n) r.events.items)
whole_list old new None n r h = absurd h
whole_list old new (Some g) n r h = h.complete

nothing_of : (old new : Option (List ℕ)) (bytes : List ℕ) → Keeps old new → AppendsPart old new bytes
nothing_of None new bytes k = ([], bytes, refl, tt)
nothing_of (Some xs) None bytes k = absurd k
nothing_of (Some xs) (Some ys) bytes k = ([], bytes, refl, k ∙ sym (append-nil xs))

kept_or_part : (old new : Option (List ℕ)) (game : Option Game) (n : ℕ) → Keeps old new → MatchOption game (Keeps old new) (λ g. AppendsPart old new (texts g n))
kept_or_part old new None n k = k
kept_or_part old new (Some g) n k = nothing_of old new (texts g n) k

part_of_run : (old new : Option (List ℕ)) (game : Option Game) (n e : ℕ) → IsSomeAnd game (λ g. WrotePart old new g n e)
    → MatchOption game (Keeps old new) (λ g. AppendsPart old new (texts g n))
part_of_run old new None n e h = absurd h
part_of_run old new (Some g) n e h = first_bytes old new (texts g n) h.bytes h.appends

pub part_of_text : (old new : Option (List ℕ)) (level script : List ℕ) (n : Numbers) (fault : PlayFault) → plays.IsPlayFault old new level script n fault
    → MatchOption (spelled_game level script) (Keeps old new) (λ g. AppendsPart old new (texts g n.frames))
part_of_text old new level script n (Level f) h = kept_or_part old new (spelled_game level script) n.frames h.1
part_of_text old new level script n (Script f) h = kept_or_part old new (spelled_game level script) n.frames h.1
part_of_text old new level script n (Run f) h = part_of_run old new (spelled_game level script) n.frames f.frames h

is_some : (P : Game → Type 0) (game : Option Game) → IsSomeAnd game P → IsSome game
is_some P None h = absurd h
is_some P (Some g) h = refl

pub fault_of_game : (old new : Option (List ℕ)) (level script : List ℕ) (n : Numbers) (fault : PlayFault) → plays.IsPlayFault old new level script n fault
    → IsPlayFault level script fault
fault_of_game old new level script n (Level f) h = h.0
fault_of_game old new level script n (Script f) h = h.0
fault_of_game old new level script n (Run f) h = is_some _ (spelled_game level script) h
