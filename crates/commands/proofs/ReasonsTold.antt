-- What is told of the first fault of a level and a script.
use Rattle.std.proofs.Common.{◌≡◌, ℕ, List, Option, None, Some, inl, inr, sym, subst}
use Rattle.std.specs.Prelude.{◌⊎◌, Result, Ok, Err, IsOk, IfOk, IsSome}
use Rattle.fault_reasons.specs.declared.reason.Reason.{Reason}
use Rattle.fault_reasons.specs.Reasons.{IsOfLevel, IsOfScript, IsOfBoth}
use Rattle.game_rules.specs.declared.change.Change.{Change}
use Rattle.game_session.specs.Parts.{Parts}
use Rattle.game_session.specs.Faults.{Fault}
use Rattle.level_text.specs.Levels.{spelled, fault_view, Names, IsFaultOf}
use Rattle.level_text.specs.Scripts.{script_of}
use Rattle.level_text.specs.declared.level_fault.LevelFault.{LevelFault}
use Rattle.level_text.specs.declared.script_file.ScriptFault.{ScriptFault}
use Rattle.level_text.specs.declared.script_file.ScriptFault.TheVariants.{OutOfMemory}
use Rattle.commands.specs.Explaining.{faulty_name, IsTold, TellsFirst}

first_of_level : (named : Option Fault) (right : Result Parts Fault) (script : Result (List Change) ScriptFault) (reason : Reason) → Names named right → IsSome named
    → IsSome reason.column → IsOfBoth right script reason
first_of_level None right script reason h some column = absurd (cc)
first_of_level (Some fault) right script reason h some column = subst (λ r. IsOfBoth r script reason) (sym h) column

first_of_script : (right : Result Parts Fault) (script : Result (List Change) ScriptFault) (f : ScriptFault) (reason : Reason) → IsOk right
    → (f ≡ OutOfMemory) ⊎ (script ≡ Err f) → IsOfScript f reason → IsOfBoth right script reason
first_of_script (Err fault) script f reason ok h is = absurd (cc)
first_of_script (Ok level) script f reason ok (inl none) is = absurd (subst (λ f. IsOfScript f reason) none is)
first_of_script (Ok level) script f reason ok (inr h) is = subst (λ s. IsOfBoth (Ok level) s reason) (sym h) is

module _ (level_name level script_name script text : List ℕ) (reason : Reason) where
  named_level : (o : Option Fault) → Names o (spelled level) → IsSome o → IsTold level_name reason text → IsTold (faulty_name (spelled level) level_name script_name) reason text
  named_level None h some told = absurd (cc)
  named_level (Some fault) h some told = subst (λ r. IsTold (faulty_name r level_name script_name) reason text) (sym h) told

  pub tells_of_level : (f : LevelFault) → IsFaultOf (spelled level) f → IsOfLevel f reason → IsTold level_name reason text
      → TellsFirst level_name level script_name script text
  tells_of_level f h is told = (reason, first_of_level (fault_view f) (spelled level) (script_of script) reason h is.0 is.1, named_level (fault_view f) h is.0 told)

  pub tells_of_script : (f : ScriptFault) → IsOk (spelled level) → (f ≡ OutOfMemory) ⊎ (script_of script ≡ Err f) → IsOfScript f reason → IsTold script_name reason text
      → TellsFirst level_name level script_name script text
  tells_of_script f ok h is told = (reason, first_of_script (spelled level) (script_of script) f reason ok h is, named_script (spelled level) ok told)
    where
      named_script : (right : Result Parts Fault) → IsOk right → IsTold script_name reason text → IsTold (faulty_name right level_name script_name) reason text
      named_script (Ok parts) ok told = told
      named_script (Err fault) ok told = absurd (cc)

pub told_text : {T E : Type 0} (r : Result T E) (text : T) (none : Type 0) (P : T → Type 0) → IfOk r P → (r ≡ Ok text) ⊎ none → none ⊎ P text
told_text r text none P h (inl is) = inr (subst (λ r. IfOk r P) is h)
told_text r text none P h (inr m) = inl m
