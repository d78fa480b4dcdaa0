-- What a status tells of a level.
use Rattle.std.proofs.Common.{◌≡◌, ◌∙◌, ◌⊎◌, inl, inr, ℕ, Bool, List, Option, Some, None, true, false, sym, ap, arith, Result, Ok, Err}
use Rattle.std.specs.Prelude.{◌≢◌, [], is_some, MatchResult}
use Rattle.std.proofs.lemmas.Bool.{both_ways}
use Rattle.game_session.specs.Parts.{Parts}
use Rattle.game_session.specs.Faults.{Fault}
use Rattle.level_text.specs.Levels.{spelled, fault_view, Names, IsFaultOf}
use Rattle.level_text.specs.Scripts.{script_of}
use Rattle.level_text.specs.Sessions.{IsFaultOfBoth}
use Rattle.level_text.specs.declared.session_fault.SessionFault.TheVariants as faults
use Rattle.level_text.specs.declared.level_fault.LevelFault.{LevelFault}
use Rattle.level_text.specs.declared.script_file.ScriptFault.{ScriptFault}
use Rattle.level_text.specs.declared.script_file.ScriptFault.TheVariants.{OutOfMemory}
use Rattle.game_rules.specs.declared.change.Change.{Change}
use Rattle.game_session.specs.Sessions.{game_of}
use Rattle.stepping.specs.Played.{Played}
use Rattle.stepping.specs.StateText.{IsNoText}
use Rattle.stepping.specs.declared.load_fault.LoadFault.{LoadFault}
use Rattle.stepping.specs.declared.load_fault.LoadFault.TheVariants as loads
use Rattle.btworld_c.specs.Statuses.{no_memory, taken, fault_status, spelled_status, script_status, session_status, load_status, IsLevelStatus, IsSessionStatus, IsStateFault}
use Rattle.btworld_c.specs.Games.{IsOpenStatus, IsOpenBesideStatus, IsUnloadable, IsUnloadableBeside, IsLoadStatus, IsLoadBesideStatus}

named_told : (right : Result Parts Fault) (f : Option Fault) (status : ℕ) → Names f right → status ≡ fault_status f → (status ≡ no_memory) ⊎ (status ≡ spelled_status right)
named_told right None status n e = inl e
named_told right (Some fault) status n e = inr (e ∙ sym (ap spelled_status n))

pub level_told : (bytes : List ℕ) (fault : LevelFault) (status : ℕ) → IsFaultOf (spelled bytes) fault → status ≡ fault_status (fault_view fault) → IsLevelStatus bytes status
level_told bytes fault status is e = named_told (spelled bytes) (fault_view fault) status is e

pub open_told : (bytes : List ℕ) (held : Option Played) (is_open : Bool) (status : ℕ) → is_open ≡ is_some held → is_open ≡ false → IsLevelStatus bytes status → IsOpenStatus bytes held status
open_told bytes None is_open status says closed told = told
open_told bytes (Some game) is_open status says closed told = absurd (both_ways is_open closed says)

pub taken_told : (bytes : List ℕ) (held : Option Played) (is_open : Bool) (status : ℕ) → is_open ≡ is_some held → is_open ≡ true → status ≡ taken → IsOpenStatus bytes held status
taken_told bytes None is_open status says open_now e = absurd (both_ways is_open says open_now)
taken_told bytes (Some game) is_open status says open_now e = e

-- ---- a level and a script

named_first : (right : Result Parts Fault) (script : Result (List Change) ScriptFault) (f : Option Fault) (status : ℕ) → Names f right → status ≡ fault_status f
    → (status ≡ no_memory) ⊎ (status ≡ session_status right script)
named_first right script None status n e = inl e
named_first right script (Some fault) status n e = inr (e ∙ sym (ap (λ r. session_status r script) n))

pub level_first_told : (level script : List ℕ) (fault : LevelFault) (status : ℕ) → IsFaultOf (spelled level) fault → status ≡ fault_status (fault_view fault)
    → IsSessionStatus level script status
level_first_told level script fault status is e = named_first (spelled level) (script_of script) (fault_view fault) status is e

pub script_told : (level script : List ℕ) (parts : Parts) (fault : ScriptFault) (status : ℕ) → spelled level ≡ Ok parts
    → (fault ≡ OutOfMemory) ⊎ (script_of script ≡ Err fault) → status ≡ script_status fault → IsSessionStatus level script status
script_told level script parts fault status spells (inl none) e = inl (e ∙ ap script_status none)
script_told level script parts fault status spells (inr is) e =
    inr (e ∙ sym (ap (λ r. session_status r (script_of script)) spells ∙ ap (session_status (Ok parts)) is))

first_of_script : (answer : Result Parts Fault) (changes : Result (List Change) ScriptFault) (fault : ScriptFault) (status : ℕ)
    → MatchResult answer (λ _. (fault ≡ OutOfMemory) ⊎ (changes ≡ Err fault)) (λ _. ⊥) → status ≡ script_status fault
    → (status ≡ no_memory) ⊎ (status ≡ session_status answer changes)
first_of_script (Ok parts) changes fault status (inl none) e = inl (e ∙ ap script_status none)
first_of_script (Ok parts) changes fault status (inr is) e = inr (e ∙ sym (ap (session_status (Ok parts)) is))
first_of_script (Err f) changes fault status h e = absurd h

pub script_of_both_told : (level script : List ℕ) (fault : ScriptFault) (status : ℕ) → IsFaultOfBoth level script (faults.Script fault)
    → status ≡ script_status fault → IsSessionStatus level script status
script_of_both_told level script fault status is e = first_of_script (spelled level) (script_of script) fault status is e

pub both_told : (level script : List ℕ) (parts : Parts) (changes : List Change) (status : ℕ) → spelled level ≡ Ok parts → script_of script ≡ Ok changes
    → status ≡ 0 → IsSessionStatus level script status
both_told level script parts changes status spells spells_script e =
    inr (e ∙ sym (ap (λ r. session_status r (script_of script)) spells ∙ ap (session_status (Ok parts)) spells_script))

pub beside_told : (level script : List ℕ) (held : Option Played) (is_open : Bool) (status : ℕ) → is_open ≡ is_some held → is_open ≡ false
    → IsSessionStatus level script status → IsOpenBesideStatus level script held status
beside_told level script None is_open status says closed told = told
beside_told level script (Some game) is_open status says closed told = absurd (both_ways is_open closed says)

pub beside_taken_told : (level script : List ℕ) (held : Option Played) (is_open : Bool) (status : ℕ) → is_open ≡ is_some held → is_open ≡ true → status ≡ taken
    → IsOpenBesideStatus level script held status
beside_taken_told level script None is_open status says open_now e = absurd (both_ways is_open says open_now)
beside_taken_told level script (Some game) is_open status says open_now e = e

-- ---- a level and a state

pub load_told : (bytes text : List ℕ) (held : Option Played) (is_open : Bool) (status : ℕ) → is_open ≡ is_some held → is_open ≡ false
    → IsLevelStatus bytes status ⊎ IsUnloadable bytes text status → IsLoadStatus bytes text held status
load_told bytes text None is_open status says closed told = told
load_told bytes text (Some game) is_open status says closed told = absurd (both_ways is_open closed says)

pub load_taken_told : (bytes text : List ℕ) (held : Option Played) (is_open : Bool) (status : ℕ) → is_open ≡ is_some held → is_open ≡ true → status ≡ taken
    → IsLoadStatus bytes text held status
load_taken_told bytes text None is_open status says open_now e = absurd (both_ways is_open says open_now)
load_taken_told bytes text (Some game) is_open status says open_now e = e

-- what a fault tells of the text goes with its number
pub fault_told : (text : Type 0) (fault : LoadFault) (status : ℕ) → (fault ≢ loads.OutOfMemory → text) → status ≡ load_status fault → (status ≡ no_memory) ⊎ (IsStateFault status × text)
fault_told text loads.OutOfMemory status told e = inl e
fault_told text loads.Text status told e = inr (inl e, told (λ o. let z : 64 ≡ 1 = ap load_status o in omega (arith, z)))
fault_told text loads.Level status told e = inr (inr (inl e), told (λ o. let z : 65 ≡ 1 = ap load_status o in omega (arith, z)))
fault_told text loads.World status told e = inr (inr (inr e), told (λ o. let z : 66 ≡ 1 = ap load_status o in omega (arith, z)))

-- why a level's game was not loaded
pub load_refused : (bytes text : List ℕ) (level : Parts) (status : ℕ) → spelled bytes ≡ Ok level
    → (status ≡ no_memory) ⊎ (IsStateFault status × IsNoText (game_of level []) text) → IsLevelStatus bytes status ⊎ IsUnloadable bytes text status
load_refused bytes text level status spells (inl e) = inl (inl e)
load_refused bytes text level status spells (inr is) = inr (record { level = level; spells = spells; no_state = is.1; fault = is.0 })

pub load_done : (bytes text : List ℕ) (level : Parts) (status : ℕ) → spelled bytes ≡ Ok level → status ≡ 0 → IsLevelStatus bytes status ⊎ IsUnloadable bytes text status
load_done bytes text level status spells e = inl (inr (e ∙ sym (ap spelled_status spells)))

-- ---- a level, a script and a state

pub load_beside_told : (bytes script text : List ℕ) (held : Option Played) (is_open : Bool) (status : ℕ) → is_open ≡ is_some held → is_open ≡ false
    → IsSessionStatus bytes script status ⊎ IsUnloadableBeside bytes script text status → IsLoadBesideStatus bytes script text held status
load_beside_told bytes script text None is_open status says closed told = told
load_beside_told bytes script text (Some game) is_open status says closed told = absurd (both_ways is_open closed says)

pub load_beside_taken_told : (bytes script text : List ℕ) (held : Option Played) (is_open : Bool) (status : ℕ) → is_open ≡ is_some held → is_open ≡ true
    → status ≡ taken → IsLoadBesideStatus bytes script text held status
load_beside_taken_told bytes script text None is_open status says open_now e = absurd (both_ways is_open says open_now)
load_beside_taken_told bytes script text (Some game) is_open status says open_now e = e

-- a fault of the level or the script
pub session_refused : (bytes script text : List ℕ) (status : ℕ) → IsSessionStatus bytes script status
    → IsSessionStatus bytes script status ⊎ IsUnloadableBeside bytes script text status
session_refused bytes script text status is = inl is

-- why a level's game was not loaded beside a script
pub load_beside_refused : (bytes script text : List ℕ) (level : Parts) (changes : List Change) (status : ℕ) → spelled bytes ≡ Ok level → script_of script ≡ Ok changes
    → (status ≡ no_memory) ⊎ (IsStateFault status × IsNoText (game_of level []) text)
    → IsSessionStatus bytes script status ⊎ IsUnloadableBeside bytes script text status
load_beside_refused bytes script text level changes status spells spells_script (inl e) = inl (inl e)
load_beside_refused bytes script text level changes status spells spells_script (inr is) =
    inr (record { changes = changes; spells_script = spells_script; of_level = record { level = level; spells = spells; no_state = is.1; fault = is.0 } })

pub load_beside_done : (bytes script text : List ℕ) (level : Parts) (changes : List Change) (status : ℕ) → spelled bytes ≡ Ok level → script_of script ≡ Ok changes
    → status ≡ 0 → IsSessionStatus bytes script status ⊎ IsUnloadableBeside bytes script text status
load_beside_done bytes script text level changes status spells spells_script e = inl (both_told bytes script level changes status spells spells_script e)
