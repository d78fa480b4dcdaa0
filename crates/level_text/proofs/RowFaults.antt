-- The fault of a map's rows beside that of their characters.
use Rattle.std.proofs.Common.{◌≡◌, ◌⊎◌, inl, inr, List, [], ◌∷◌, map, Some, None, option_and_then, String, Global, string_bytes, refl, sym, ap, ◌∙◌}
use Rattle.std.specs.Str.{chars}
use Rattle.grid_world.specs.MapFaults.{map_fault, rows_of}
use Rattle.grid_world.specs.declared.fault.MapFault.{MapFault}
use Rattle.grid_world.specs.declared.fault.MapFault.TheVariants.{OutOfMemory}
use Rattle.game_session.specs.Faults.{Fault, fault_of_map, row_fault}
use Rattle.game_session.specs.Kept.{texts_view}

pub rows_of-texts : (texts : List (String Global)) → rows_of texts ≡ map chars (texts_view texts)
rows_of-texts [] = refl
rows_of-texts (t ∷ ts) = ap (λ rs. chars (string_bytes t) ∷ rs) (rows_of-texts ts)

pub row_fault-None : (rows : List (String Global)) → map_fault (rows_of rows) ≡ None → row_fault (texts_view rows) ≡ None
row_fault-None rows h = ap (λ r. option_and_then fault_of_map (map_fault r)) (sym (rows_of-texts rows)) ∙ ap (option_and_then fault_of_map) h

pub row_fault-Some : (rows : List (String Global)) (e : MapFault) (fault : Fault) → (e ≡ OutOfMemory) ⊎ (map_fault (rows_of rows) ≡ Some e)
    → fault_of_map e ≡ Some fault → row_fault (texts_view rows) ≡ Some fault
row_fault-Some rows e fault (inl memory) named = let none : fault_of_map e ≡ None = ap fault_of_map memory in cc
row_fault-Some rows e fault (inr h) named =
    ap (λ r. option_and_then fault_of_map (map_fault r)) (sym (rows_of-texts rows)) ∙ ap (option_and_then fault_of_map) h ∙ named
