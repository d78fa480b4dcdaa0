-- What holds of a level's parts in which there is no fault.
use Rattle.std.proofs.Common.{◌≡◌, Option, Some, None, Bool, true, false, cond, refl}
use Rattle.std.specs.Option.{option_or}
use Rattle.game_session.specs.Parts.{Parts}
use Rattle.game_session.specs.Faults.{row_fault, count_fault, limit_fault, agent_fault, place_fault, crew_fault, parts_fault, world_of}

-- where two tests in turn find nothing, neither does
neither : {T : Type 0} (a b : Option T) → option_or a b ≡ None → (a ≡ None) × (b ≡ None)
neither None b h = (refl, h)
neither (Some x) b h = (cc, cc)

pub passes : {T : Type 0} (b : Bool) (later : Option T) (x : T) → cond b later (Some x) ≡ None → (b ≡ true) × (later ≡ None)
passes true later x h = (refl, h)
passes false later x h = (cc, cc)

pub record Faultless (parts : Parts) : Type 0 where
  pub rows : row_fault parts.rows ≡ None
  pub count : count_fault parts ≡ None
  pub limits : limit_fault parts.trees ≡ None
  pub agents : agent_fault 0 parts.names parts.trees ≡ None
  pub places : place_fault (world_of parts) parts.trees ≡ None
  pub crew : crew_fault (world_of parts) parts.trees ≡ None

pub faultless : (parts : Parts) → parts_fault parts ≡ None → Faultless parts
faultless parts h =
    let a : (row_fault parts.rows ≡ None) × _ = neither (row_fault parts.rows) _ h in
    let b : (count_fault parts ≡ None) × _ = neither (count_fault parts) _ a.1 in
    let c : (limit_fault parts.trees ≡ None) × _ = neither (limit_fault parts.trees) _ b.1 in
    let d : (agent_fault 0 parts.names parts.trees ≡ None) × _ = neither (agent_fault 0 parts.names parts.trees) _ c.1 in
    let e : (place_fault (world_of parts) parts.trees ≡ None) × _ = neither (place_fault (world_of parts) parts.trees) _ d.1 in
    record { rows = a.0; count = b.0; limits = c.0; agents = d.0; places = e.0; crew = e.1 }

pub faultless_is : (parts : Parts) → Faultless parts → parts_fault parts ≡ None
faultless_is parts f = rw (f.rows, f.count, f.limits, f.agents, f.places, f.crew) refl
