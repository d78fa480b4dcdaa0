-- What the program has written for words that name files.
use Rattle.std.proofs.Common.{◌≡◌, ◌∙◌, ℕ, List, [], Option, Some, None, inl, inr, refl, sym, ap, subst, append-nil, codes}
use Rattle.std.specs.Prelude.{⊤, String, MatchOption, IsSomeAnd, IsOkAnd, IsErr, IfOk, Result, Ok, Err, OnOk, OnErr, string_bytes}
use Rattle.std.specs.Io.KnownBytes.{Appends, Keeps}
use Rattle.byte_streams.specs.Streams.{AppendsPart}
use Rattle.game_rules.specs.Game.{Game}
use Rattle.game_rules.specs.Text.{texts}
use Rattle.game_session.specs.Parts.{Parts}
use Rattle.game_session.specs.Faults.{Fault as LevelFault}
use Rattle.level_text.specs.Games.{spelled_game}
use Rattle.level_text.specs.Levels.{spelled}
use Rattle.command_line.specs.declared.request.Words.{Words}
use Rattle.command_line.specs.declared.request.Words.TheVariants.{Piped, Play, Replay, Check, Explain, Digest, State, Why, Complete, Record}
use Rattle.clap.specs.Words.{Row, Text}
use Rattle.command_line.specs.Program.{IsReading, Enters, IsOptional, AsksToPlay, AsksToReplay, AsksToCheck, AsksToExplain, AsksToDigest, AsksForState, AsksWhy, AsksToComplete, AsksToRecord}
use Rattle.command_line.proofs.Asked.{read_as_play, read_as_replay, read_as_check, read_as_explain, read_as_digest, read_as_state, read_as_why, read_as_complete, read_as_record}
use Rattle.command_line.specs.declared.program_fault.Fault.{Fault}
use Rattle.command_line.specs.Faults.{status_in}
use Rattle.command_line.proofs.Statuses.{ok_at_zero}
use Rattle.commands.specs.Texts.{check_line, digests_text}
use Rattle.commands.specs.Why.{why_text, agent_of_letter}
use Rattle.commands.specs.Written.{WritesSome, WritesPart, CompletesSome, CompletesSomePart, IsScriptOf, path_of}
use Rattle.commands.proofs.Written.{some_part, writes_part, completes_part}
use Rattle.stepping.specs.StateText.{scripted_state_text}
use Rattle.commands.specs.Doing.{PlaysSome, PlaysPart, ReplaysSome, ReplaysPart, ChecksSome, ChecksPart, ExplainsSome, AsksNoReason, IsDone, IsPartDone, script_in, script_named}
use Rattle.commands.specs.Replaying.{Shows, ShowsPart}

-- ---- playing

pub played_part : (old new path : Option (List ℕ)) (level script : List ℕ) (n : ℕ) → IsScriptOf path script
    → MatchOption (spelled_game level script) (Keeps old new) (λ g. AppendsPart old new (texts g n)) → PlaysPart old new path n
played_part old new path level script n read h = some_part (λ g. texts g n) old new path level script read h

-- all that is done is a part
pub plays_part : (old new path : Option (List ℕ)) (n : ℕ) → PlaysSome old new path n → PlaysPart old new path n
plays_part old new path n h = writes_part (λ g. texts g n) old new path h

-- ---- replaying

some_shown : (old new : Option (List ℕ)) (level script log : List ℕ) (game : Option Game) → spelled_game level script ≡ game
    → MatchOption game (Keeps old new) (ShowsPart old new log) → ReplaysPart old new
some_shown old new level script log None e h = inl h
some_shown old new level script log (Some g) e h =
    inr (level, script, log, subst (λ game. IsSomeAnd game (ShowsPart old new log)) (sym e) h)

pub shown_part : (old new : Option (List ℕ)) (level script log : List ℕ)
    → MatchOption (spelled_game level script) (Keeps old new) (ShowsPart old new log) → ReplaysPart old new
shown_part old new level script log h = some_shown old new level script log (spelled_game level script) refl h

shows_part : (old new : Option (List ℕ)) (log : List ℕ) (game : Option Game) → IsSomeAnd game (Shows old new log)
    → IsSomeAnd game (ShowsPart old new log)
shows_part old new log None h = absurd h
shows_part old new log (Some g) h =
    inr (h.0, h.1, h.2.list, (_, [], sym (append-nil _), h.3))

pub replays_part : (old new : Option (List ℕ)) → ReplaysSome old new → ReplaysPart old new
replays_part old new h = inr (h.0, h.1, h.2, shows_part old new h.2 (spelled_game h.0 h.1) h.3)

-- ---- checking

some_checked : (old new : Option (List ℕ)) (level : List ℕ) (read : Result Parts LevelFault) → spelled level ≡ read
    → IfOk read (λ l. AppendsPart old new (check_line l)) → (IsErr read → Keeps old new) → ChecksPart old new
some_checked old new level (Ok l) e part kept = inr (level, subst (λ r. IsOkAnd r (λ l. AppendsPart old new (check_line l))) (sym e) part)
some_checked old new level (Err f) e part kept = inl (kept refl)

pub checked_part : (old new : Option (List ℕ)) (level : List ℕ) → IfOk (spelled level) (λ l. AppendsPart old new (check_line l)) → (IsErr (spelled level) → Keeps old new)
    → ChecksPart old new
checked_part old new level part kept = some_checked old new level (spelled level) refl part kept

all_checked : (old new : Option (List ℕ)) (read : Result Parts LevelFault) → IsOkAnd read (λ l. Appends old new (check_line l))
    → IsOkAnd read (λ l. AppendsPart old new (check_line l))
all_checked old new (Ok l) h = (check_line l, [], sym (append-nil (check_line l)), h)
all_checked old new (Err f) h = absurd h

checks_part : (old new : Option (List ℕ)) → ChecksSome old new → ChecksPart old new
checks_part old new h = inr (h.0, all_checked old new (spelled h.0) h.1)

done_in_part : (old new : Option (List ℕ)) (w : Words) → IsDone old new w → IsPartDone old new w
done_in_part old new Piped h = tt
done_in_part old new (Play level settings script log) h = plays_part old new (path_of script) settings.frames h
done_in_part old new (Replay level log script) h = replays_part old new h
done_in_part old new (Check level) h = checks_part old new h
done_in_part old new (Explain level script log) h = tt
done_in_part old new (Digest level frames script) h = writes_part (λ g. digests_text g frames) old new (path_of script) h
done_in_part old new (State level frame script) h = writes_part (λ g. scripted_state_text g frame) old new (path_of script) h
done_in_part old new (Why level frame agent script) h = writes_part (λ g. why_text g frame (agent_of_letter (string_bytes agent))) old new (path_of script) h
done_in_part old new (Complete level log whole script) h = completes_part old new h
done_in_part old new (Record level journal settings script) h = plays_part old new (path_of script) settings.frames h

-- done or not, it is a part
pub part_of : (r : Result (⊤) Fault) (old new : Option (List ℕ)) (w : Words) → OnOk r (IsDone old new w) → OnErr r (IsPartDone old new w)
    → IsPartDone old new w
part_of (Ok x) old new w done part = done_in_part old new w done
part_of (Err f) old new w done part = part

-- a status of 0 says that it is done
pub done_at_zero : (r : Result (⊤) Fault) (n : ℕ) (old new : Option (List ℕ)) (w : Words) → n ≡ status_in r → OnOk r (IsDone old new w) → n ≡ 0 → IsDone old new w
done_at_zero r n old new w status done zero = ok_at_zero r n (IsDone old new w) status zero done

-- words of no other kind
pub asks_no_reason : (w : Words) → ((level : _) (script : _) (log : _) → w ≡ Explain level script log → ⊥) → AsksNoReason w
asks_no_reason Piped other = tt
asks_no_reason (Play level settings script log) other = tt
asks_no_reason (Replay level log script) other = tt
asks_no_reason (Check level) other = tt
asks_no_reason (Explain level script log) other = other level script log refl
asks_no_reason (Digest level frames script) other = tt
asks_no_reason (State level frame script) other = tt
asks_no_reason (Why level frame agent script) other = tt
asks_no_reason (Complete level log whole script) other = tt
asks_no_reason (Record level journal settings script) other = tt

-- ---- by the words

-- the words name the script that is read
abbrev HasScript : List Text → Words → Type 0
HasScript words (Play level settings script log) = path_of script ≡ script_named words
HasScript words (Digest level frames script) = path_of script ≡ script_named words
HasScript words (State level frame script) = path_of script ≡ script_named words
HasScript words (Why level frame agent script) = path_of script ≡ script_named words
HasScript words (Record level journal settings script) = path_of script ≡ script_named words
HasScript words other = Unit {0}

named : {A : Type 0} (words : List Text) (name : Text) (rows : List Row) (script : Option (String A)) → Enters words name rows → IsOptional rows (codes "script") script
    → path_of script ≡ script_named words
named words name rows script enters is = sym is ∙ ap script_in (sym enters.2)

has_script : (words : List Text) (w : Words) → IsReading words w → HasScript words w
has_script words Piped reading = tt
has_script words (Play level settings script log) reading = named words (codes "play") reading.0 script reading.1 reading.4
has_script words (Replay level log script) reading = tt
has_script words (Check level) reading = tt
has_script words (Explain level script log) reading = tt
has_script words (Digest level frames script) reading = named words (codes "digest") reading.0 script reading.1 reading.4
has_script words (State level frame script) reading = named words (codes "state") reading.0 script reading.1 reading.4
has_script words (Why level frame agent script) reading = named words (codes "why") reading.0 script reading.1 reading.5
has_script words (Complete level log whole script) reading = tt
has_script words (Record level journal settings script) reading = named words (codes "record") reading.0 script reading.1 reading.5

module _ (old new : Option (List ℕ)) (words : List (List ℕ)) (w : Words) (reading : IsReading words w) where
  pub played : (n : ℕ) → AsksToPlay words n → IsDone old new w → PlaysSome old new (script_named words) n
  played n asks done =
      read_as_play words w n (λ v. IsDone old new v × HasScript words v) (PlaysSome old new (script_named words)) reading asks
      (λ level settings script log h. subst (λ path. PlaysSome old new path settings.frames) h.1 h.0) (done, has_script words w reading)

  pub played_in_part : (n : ℕ) → AsksToPlay words n → IsPartDone old new w → PlaysPart old new (script_named words) n
  played_in_part n asks done =
      read_as_play words w n (λ v. IsPartDone old new v × HasScript words v) (PlaysPart old new (script_named words)) reading asks
      (λ level settings script log h. subst (λ path. PlaysPart old new path settings.frames) h.1 h.0) (done, has_script words w reading)

  pub replayed : AsksToReplay words → IsDone old new w → ReplaysSome old new
  replayed asks done = read_as_replay words w (IsDone old new) (ReplaysSome old new) reading asks (λ level log script h. h) done

  pub replayed_in_part : AsksToReplay words → IsPartDone old new w → ReplaysPart old new
  replayed_in_part asks done = read_as_replay words w (IsPartDone old new) (ReplaysPart old new) reading asks (λ level log script h. h) done

  pub checked : AsksToCheck words → IsDone old new w → ChecksSome old new
  checked asks done = read_as_check words w (IsDone old new) (ChecksSome old new) reading asks (λ level h. h) done

  pub checked_in_part : AsksToCheck words → IsPartDone old new w → ChecksPart old new
  checked_in_part asks done = read_as_check words w (IsPartDone old new) (ChecksPart old new) reading asks (λ level h. h) done

  pub explained : AsksToExplain words → IsDone old new w → ExplainsSome old new
  explained asks done = read_as_explain words w (IsDone old new) (ExplainsSome old new) reading asks (λ level script log h. h) done

  pub digested : (n : ℕ) → AsksToDigest words n → IsDone old new w → WritesSome old new (script_named words) (λ g. digests_text g n)
  digested n asks done =
      read_as_digest words w n (λ v. IsDone old new v × HasScript words v) (λ k. WritesSome old new (script_named words) (λ g. digests_text g k)) reading asks
      (λ level frames script h. subst (λ path. WritesSome old new path (λ g. digests_text g frames)) h.1 h.0) (done, has_script words w reading)

  pub digested_in_part : (n : ℕ) → AsksToDigest words n → IsPartDone old new w → WritesPart old new (script_named words) (λ g. digests_text g n)
  digested_in_part n asks done =
      read_as_digest words w n (λ v. IsPartDone old new v × HasScript words v) (λ k. WritesPart old new (script_named words) (λ g. digests_text g k)) reading asks
      (λ level frames script h. subst (λ path. WritesPart old new path (λ g. digests_text g frames)) h.1 h.0) (done, has_script words w reading)

  pub told : (n : ℕ) → AsksForState words n → IsDone old new w → WritesSome old new (script_named words) (λ g. scripted_state_text g n)
  told n asks done =
      read_as_state words w n (λ v. IsDone old new v × HasScript words v) (λ k. WritesSome old new (script_named words) (λ g. scripted_state_text g k)) reading asks
      (λ level frame script h. subst (λ path. WritesSome old new path (λ g. scripted_state_text g frame)) h.1 h.0) (done, has_script words w reading)

  pub told_in_part : (n : ℕ) → AsksForState words n → IsPartDone old new w → WritesPart old new (script_named words) (λ g. scripted_state_text g n)
  told_in_part n asks done =
      read_as_state words w n (λ v. IsPartDone old new v × HasScript words v) (λ k. WritesPart old new (script_named words) (λ g. scripted_state_text g k)) reading asks
      (λ level frame script h. subst (λ path. WritesPart old new path (λ g. scripted_state_text g frame)) h.1 h.0) (done, has_script words w reading)

  pub why_told : (n : ℕ) (letter : List ℕ) → AsksWhy words n letter → IsDone old new w → WritesSome old new (script_named words) (λ g. why_text g n (agent_of_letter letter))
  why_told n letter asks done =
      read_as_why words w n letter (λ v. IsDone old new v × HasScript words v) (λ k l. WritesSome old new (script_named words) (λ g. why_text g k (agent_of_letter l))) reading asks
      (λ level frame agent script h. subst (λ path. WritesSome old new path (λ g. why_text g frame (agent_of_letter (string_bytes agent)))) h.1 h.0)
      (done, has_script words w reading)

  pub why_told_in_part : (n : ℕ) (letter : List ℕ) → AsksWhy words n letter → IsPartDone old new w → WritesPart old new (script_named words) (λ g. why_text g n (agent_of_letter letter))
  why_told_in_part n letter asks done =
      read_as_why words w n letter (λ v. IsPartDone old new v × HasScript words v) (λ k l. WritesPart old new (script_named words) (λ g. why_text g k (agent_of_letter l))) reading asks
      (λ level frame agent script h. subst (λ path. WritesPart old new path (λ g. why_text g frame (agent_of_letter (string_bytes agent)))) h.1 h.0)
      (done, has_script words w reading)

  pub completed : AsksToComplete words → IsDone old new w → CompletesSome old new
  completed asks done = read_as_complete words w (IsDone old new) (CompletesSome old new) reading asks (λ level log whole script h. h) done

  pub completed_in_part : AsksToComplete words → IsPartDone old new w → CompletesSomePart old new
  completed_in_part asks done = read_as_complete words w (IsPartDone old new) (CompletesSomePart old new) reading asks (λ level log whole script h. h) done

  pub recorded : (n : ℕ) → AsksToRecord words n → IsDone old new w → PlaysSome old new (script_named words) n
  recorded n asks done =
      read_as_record words w n (λ v. IsDone old new v × HasScript words v) (PlaysSome old new (script_named words)) reading asks
      (λ level journal settings script h. subst (λ path. PlaysSome old new path settings.frames) h.1 h.0) (done, has_script words w reading)

  pub recorded_in_part : (n : ℕ) → AsksToRecord words n → IsPartDone old new w → PlaysPart old new (script_named words) n
  recorded_in_part n asks done =
      read_as_record words w n (λ v. IsPartDone old new v × HasScript words v) (PlaysPart old new (script_named words)) reading asks
      (λ level journal settings script h. subst (λ path. PlaysPart old new path settings.frames) h.1 h.0) (done, has_script words w reading)
