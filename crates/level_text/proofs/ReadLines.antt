-- A script read line by line: what is left of the lines.
use Rattle.std.proofs.Common.{◌≡◌, ◌∙◌, ℕ, ◌+◌, ◌-◌, ◌<◌, ◌≤◌, true, false, List, [], ◌∷◌, ◌++◌, length, map, refl, ap, sym, arith, ltb, Option, Some, None, Ok, Err, append_assoc, append-nil, le-ltb, lt-ltb, get_or}
use Rattle.std.specs.List.{filter_map, cons_option}
use Rattle.std.proofs.lemmas.Grind.{common_steps}
use Rattle.game_rules.specs.declared.change.Change.{Change}
use Rattle.level_text.specs.declared.script_file.ScriptFault.{ScriptFault}
use Rattle.level_text.specs.declared.script_file.ScriptFault.TheVariants.{Line, Order}
use Rattle.game_session.specs.Changes.{last_frame}
use Rattle.game_session.proofs.Rising.{last_frame-at}
use Rattle.level_text.specs.Scripts.{lines_of, change_of, fault_from, script_fault, unless_fault, script_of}

-- the faults and the changes of the bytes that are left
abbrev pub fault_in : ℕ → ℕ → List ℕ → Option ScriptFault
fault_in n before rest = fault_from n before (map change_of (lines_of rest))

abbrev pub changes_in : List ℕ → List Change
changes_in rest = filter_map change_of (lines_of rest)

fault_next : (n before : ℕ) (c : Change) (more : List (Option Change)) → before ≤ c.frame → fault_from n before (Some c ∷ more) ≡ fault_from (n + 1) c.frame more
fault_next n before c more rises = let no : ltb c.frame before ≡ false = le-ltb c.frame before rises in rw no refl

fault_lower : (n before : ℕ) (c : Change) (more : List (Option Change)) → c.frame < before → fault_from n before (Some c ∷ more) ≡ Some (Order n)
fault_lower n before c more falls = let yes : ltb c.frame before ≡ true = lt-ltb c.frame before falls in rw yes refl

module _ (rest line behind : List ℕ) (parted : lines_of rest ≡ line ∷ lines_of behind) where
  pub fault_in-next : (n before : ℕ) (c : Change) → change_of line ≡ Some c → before ≤ c.frame → fault_in n before rest ≡ fault_in (n + 1) c.frame behind
  fault_in-next n before c is rises =
      ap (λ ls. fault_from n before (map change_of ls)) parted ∙ ap (λ o. fault_from n before (o ∷ map change_of (lines_of behind))) is
      ∙ fault_next n before c (map change_of (lines_of behind)) rises

  pub fault_in-line : (n before : ℕ) → change_of line ≡ None → fault_in n before rest ≡ Some (Line n)
  fault_in-line n before is =
      ap (λ ls. fault_from n before (map change_of ls)) parted ∙ ap (λ o. fault_from n before (o ∷ map change_of (lines_of behind))) is

  pub fault_in-order : (n before : ℕ) (c : Change) → change_of line ≡ Some c → c.frame < before → fault_in n before rest ≡ Some (Order n)
  fault_in-order n before c is falls =
      ap (λ ls. fault_from n before (map change_of ls)) parted ∙ ap (λ o. fault_from n before (o ∷ map change_of (lines_of behind))) is
      ∙ fault_lower n before c (map change_of (lines_of behind)) falls

  pub changes_in-next : (cs : List Change) (c : Change) → change_of line ≡ Some c → (cs ++ c ∷ []) ++ changes_in behind ≡ cs ++ changes_in rest
  changes_in-next cs c is =
      append_assoc cs (c ∷ []) (changes_in behind)
      ∙ sym (ap (λ ls. cs ++ filter_map change_of ls) parted ∙ ap (λ o. cs ++ cons_option o (changes_in behind)) is)

-- the frame of a change at the end
pub last_frame-push : (cs : List Change) (c : Change) → last_frame (cs ++ c ∷ []) ≡ c.frame
last_frame-push cs c =
    let last : get_or (cs ++ c ∷ []) (length (cs ++ c ∷ []) - 1) c ≡ c = grind (arith, common_steps) in
    sym (last_frame-at (cs ++ c ∷ []) c (grind (arith, common_steps))) ∙ ap (λ (x : Change). x.frame) last

pub script_of-fault : (bytes : List ℕ) (fault : ScriptFault) → script_fault bytes ≡ Some fault → script_of bytes ≡ Err fault
script_of-fault bytes fault is = ap (λ f. unless_fault f (changes_in bytes)) is

pub script_of-all : (bytes rest : List ℕ) (cs : List Change) → rest ≡ [] → script_fault bytes ≡ fault_in 0 0 [] → cs ++ changes_in rest ≡ changes_in bytes → script_of bytes ≡ Ok cs
script_of-all bytes rest cs done none made =
    ap (λ f. unless_fault f (changes_in bytes)) none ∙ ap Ok (sym made ∙ ap (λ r. cs ++ changes_in r) done ∙ append-nil cs)
