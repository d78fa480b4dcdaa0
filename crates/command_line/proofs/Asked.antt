-- words are taken for one command
use Rattle.std.proofs.Common.{◌≡◌, ◌∙◌, ℕ, List, [], Bool, true, false, sym, ap, subst, codes}
use Rattle.std.specs.Prelude.{Option, Some, None, string_bytes}
use Rattle.std.specs.Str.{bytes_eq}
use Rattle.clap.specs.Words.{IsAmong, Row, Text, first_of}
use Rattle.clap.specs.declared.error.kind.ErrorKind.TheVariants as kinds
use Rattle.command_line.specs.declared.words_fault.WordsFault.{WordsFault}
use Rattle.command_line.specs.declared.words_fault.WordsFault.TheVariants.{OutOfMemory, Help, Version, Refused}
use Rattle.command_line.specs.declared.request.Words.{Words}
use Rattle.command_line.specs.declared.request.Words.TheVariants.{Piped, Play, Replay, Check, Explain, Digest, State, Why, Complete, Record}
use Rattle.command_line.specs.Program.{AreNumbers, Enters, IsNumber, IsReading, IsText, IsAskedFor, IsNoHelp, AsksToPlay, AsksToReplay, AsksToCheck, AsksToExplain, AsksToDigest, AsksForState, AsksWhy, AsksToComplete, AsksToRecord}

abbrev pub name_in : Option (Text × List Row) → Text
name_in None = []
name_in (Some entered) = entered.0

abbrev pub rows_in : Option (Text × List Row) → List Row
rows_in None = []
rows_in (Some entered) = entered.1

one_row : (words : List Text) (a b : Text) (r q : List Row) → Enters words a r → Enters words b q → r ≡ q
one_row words a b r q h k = ap rows_in (sym h.2 ∙ k.2)

one_entry : (words : List Text) (a b : Text) (r q : List Row) → Enters words a r → Enters words b q → (F : Text → List Row → Type 0) → F a r → F b q
one_entry words a b r q h k F it =
    let one : a ≡ b = ap name_in (sym h.2 ∙ k.2) in
    subst (λ n. F n q) one (subst (F a) (one_row words a b r q h k) it)

one_number : (number : Text) (rows : List Row) (n m : ℕ) → IsNumber (first_of number rows) n → IsNumber (first_of number rows) m → n ≡ m
one_number number rows n m i j =
    let same = sym i.1 ∙ j.1 in
    cc

abbrev choose : Bool → Type 0 → Type 0 → Type 0
choose true one other = one
choose false one other = other

-- P holds of some words that these rows give to the command of this name
abbrev As : (Words → Type 0) → Text → List Row → Type 0
As P name rows =
    choose (bytes_eq name (codes "play")) ((level : _) × (settings : _) × (script : _) × (log : _) × AreNumbers rows settings × P (Play level settings script log))
    (choose (bytes_eq name (codes "replay")) ((level : _) × (log : _) × (script : _) × P (Replay level log script))
    (choose (bytes_eq name (codes "check")) ((level : _) × P (Check level))
    (choose (bytes_eq name (codes "explain")) ((level : _) × (script : _) × (log : _) × P (Explain level script log))
    (choose (bytes_eq name (codes "digest")) ((level : _) × (frames : _) × (script : _) × IsNumber (first_of (codes "frames") rows) frames × P (Digest level frames script))
    (choose (bytes_eq name (codes "state")) ((level : _) × (frame : _) × (script : _) × IsNumber (first_of (codes "frame") rows) frame × P (State level frame script))
    (choose (bytes_eq name (codes "why"))
    ((level : _) × (frame : _) × (agent : _) × (script : _) × IsNumber (first_of (codes "frame") rows) frame × IsText rows (codes "agent") agent × P (Why level frame agent script))
    (choose (bytes_eq name (codes "complete")) ((level : _) × (log : _) × (whole : _) × (script : _) × P (Complete level log whole script))
    ((level : _) × (journal : _) × (settings : _) × (script : _) × AreNumbers rows settings × P (Record level journal settings script)))))))))

-- words are read as those of the command that they enter
read_as : (words : List Text) (w : Words) (P : Words → Type 0) (name : Text) (rows : List Row) → IsReading words w → Enters words name rows → P w → As P name rows
read_as words Piped P name rows reading enters done = absurd (enters.0 reading)
read_as words (Play level settings script log) P name rows reading enters done =
    one_entry words (codes "play") name reading.0 rows reading.1 enters (As P) (level, settings, script, log, reading.3, done)
read_as words (Replay level log script) P name rows reading enters done =
    one_entry words (codes "replay") name reading.0 rows reading.1 enters (As P) (level, log, script, done)
read_as words (Check level) P name rows reading enters done = one_entry words (codes "check") name reading.0 rows reading.1 enters (As P) (level, done)
read_as words (Explain level script log) P name rows reading enters done =
    one_entry words (codes "explain") name reading.0 rows reading.1 enters (As P) (level, script, log, done)
read_as words (Digest level frames script) P name rows reading enters done =
    one_entry words (codes "digest") name reading.0 rows reading.1 enters (As P) (level, frames, script, reading.3, done)
read_as words (State level frame script) P name rows reading enters done =
    one_entry words (codes "state") name reading.0 rows reading.1 enters (As P) (level, frame, script, reading.3, done)
read_as words (Why level frame agent script) P name rows reading enters done =
    one_entry words (codes "why") name reading.0 rows reading.1 enters (As P) (level, frame, agent, script, reading.3, reading.4, done)
read_as words (Complete level log whole script) P name rows reading enters done =
    one_entry words (codes "complete") name reading.0 rows reading.1 enters (As P) (level, log, whole, script, done)
read_as words (Record level journal settings script) P name rows reading enters done =
    one_entry words (codes "record") name reading.0 rows reading.1 enters (As P) (level, journal, settings, script, reading.4, done)

-- a Play of so many frames
pub read_as_play : (words : List Text) (w : Words) (n : ℕ) (P : Words → Type 0) (Q : ℕ → Type 0) → IsReading words w → AsksToPlay words n
    → ((level : _) (settings : _) (script : _) (log : _) → P (Play level settings script log) → Q settings.frames) → P w → Q n
read_as_play words w n P Q reading asks step done =
    let it = read_as words w P (codes "play") asks.0 reading asks.1 done in
    subst Q (one_number (codes "frames") asks.0 it.1.frames n it.4.0 asks.2) (step it.0 it.1 it.2 it.3 it.5)

pub read_as_replay : (words : List Text) (w : Words) (P : Words → Type 0) (Q : Type 0) → IsReading words w → AsksToReplay words
    → ((level : _) (log : _) (script : _) → P (Replay level log script) → Q) → P w → Q
read_as_replay words w P Q reading asks step done =
    let it = read_as words w P (codes "replay") asks.0 reading asks.1 done in
    step it.0 it.1 it.2 it.3

pub read_as_check : (words : List Text) (w : Words) (P : Words → Type 0) (Q : Type 0) → IsReading words w → AsksToCheck words
    → ((level : _) → P (Check level) → Q) → P w → Q
read_as_check words w P Q reading asks step done =
    let it = read_as words w P (codes "check") asks.0 reading asks.1 done in
    step it.0 it.1

pub read_as_explain : (words : List Text) (w : Words) (P : Words → Type 0) (Q : Type 0) → IsReading words w → AsksToExplain words
    → ((level : _) (script : _) (log : _) → P (Explain level script log) → Q) → P w → Q
read_as_explain words w P Q reading asks step done =
    let it = read_as words w P (codes "explain") asks.0 reading asks.1 done in
    step it.0 it.1 it.2 it.3

pub read_as_digest : (words : List Text) (w : Words) (n : ℕ) (P : Words → Type 0) (Q : ℕ → Type 0) → IsReading words w → AsksToDigest words n
    → ((level : _) (frames : _) (script : _) → P (Digest level frames script) → Q frames) → P w → Q n
read_as_digest words w n P Q reading asks step done =
    let it = read_as words w P (codes "digest") asks.0 reading asks.1 done in
    subst Q (one_number (codes "frames") asks.0 it.1 n it.3 asks.2) (step it.0 it.1 it.2 it.4)

pub read_as_state : (words : List Text) (w : Words) (n : ℕ) (P : Words → Type 0) (Q : ℕ → Type 0) → IsReading words w → AsksForState words n
    → ((level : _) (frame : _) (script : _) → P (State level frame script) → Q frame) → P w → Q n
read_as_state words w n P Q reading asks step done =
    let it = read_as words w P (codes "state") asks.0 reading asks.1 done in
    subst Q (one_number (codes "frame") asks.0 it.1 n it.3 asks.2) (step it.0 it.1 it.2 it.4)

pub read_as_why : (words : List Text) (w : Words) (n : ℕ) (letter : Text) (P : Words → Type 0) (Q : ℕ → Text → Type 0) → IsReading words w → AsksWhy words n letter
    → ((level : _) (frame : _) (agent : _) (script : _) → P (Why level frame agent script) → Q frame (string_bytes agent)) → P w → Q n letter
read_as_why words w n letter P Q reading asks step done =
    let it = read_as words w P (codes "why") asks.0 reading asks.1 done in
    let same : string_bytes it.2 ≡ letter = let e = sym it.5 ∙ asks.3 in cc in
    subst (Q n) same (subst (λ k. Q k (string_bytes it.2)) (one_number (codes "frame") asks.0 it.1 n it.4 asks.2) (step it.0 it.1 it.2 it.3 it.6))

pub read_as_complete : (words : List Text) (w : Words) (P : Words → Type 0) (Q : Type 0) → IsReading words w → AsksToComplete words
    → ((level : _) (log : _) (whole : _) (script : _) → P (Complete level log whole script) → Q) → P w → Q
read_as_complete words w P Q reading asks step done =
    let it = read_as words w P (codes "complete") asks.0 reading asks.1 done in
    step it.0 it.1 it.2 it.3 it.4

pub read_as_record : (words : List Text) (w : Words) (n : ℕ) (P : Words → Type 0) (Q : ℕ → Type 0) → IsReading words w → AsksToRecord words n
    → ((level : _) (journal : _) (settings : _) (script : _) → P (Record level journal settings script) → Q settings.frames) → P w → Q n
read_as_record words w n P Q reading asks step done =
    let it = read_as words w P (codes "record") asks.0 reading asks.1 done in
    subst Q (one_number (codes "frames") asks.0 it.2.frames n it.4.0 asks.2) (step it.0 it.1 it.2 it.3 it.5)

-- words in which clap finds no fault ask for no help
pub no_help : (words : List Text) (name : Text) (rows : List Row) (fault : WordsFault) → Enters words name rows → IsAskedFor words fault → IsNoHelp fault
no_help words name rows OutOfMemory h asked = tt
no_help words name rows (Help text) h asked = subst (λ given. IsAmong kinds.DisplayHelp given) h.1 asked
no_help words name rows (Version text) h asked = subst (λ given. IsAmong kinds.DisplayVersion given) h.1 asked
no_help words name rows (Refused text) h asked = tt
