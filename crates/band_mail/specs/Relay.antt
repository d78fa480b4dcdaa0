-- What was put is what was taken, followed by what the queue holds. One pass at most may put, and it has the list of what was put. The same for takes.
use Rattle.std.specs.Prelude.{◌≡◌, ℕ, Bool, true, List, [], ◌++◌}
use mathlib.Core.Option.{some}
use lib.ListN.{get_elem?}
use Rattle.crossbeam_queue.specs.Passes.{Pass, view}
use Rattle.band_mail.specs.declared.relay.PassLog.{PassLog}

module _ {T : Type 0} where
  abbrev pub log : (puts takes : Bool) (put taken : List T) → PassLog T
  log a b put taken = record { puts = a; takes = b; put = put; taken = taken }

  abbrev pub Fits : ℕ → ℕ → List T → List T → ℕ → PassLog T → Type 0
  Fits writer reader put taken port v = (v.puts ≡ true → (port ≡ writer) × (v.put ≡ put)) × (v.takes ≡ true → (port ≡ reader) × (v.taken ≡ taken))

  abbrev pub Relayed : List T → List (PassLog T) → Type 0
  Relayed items views = (writer : ℕ) × (reader : ℕ) × (put : List T) × (taken : List T) × (put ≡ taken ++ items)
      × ((port : ℕ) (v : PassLog T) → get_elem? views port ≡ some v → Fits writer reader put taken port v)

  -- no slot of the queue is out with the pass, and it may put
  abbrev pub MayPut : Pass T (PassLog T) → Type 0
  MayPut p = (p.me.1 ≡ []) × ((view p).puts ≡ true)

  abbrev pub MayTake : Pass T (PassLog T) → Type 0
  MayTake p = (p.me.1 ≡ []) × ((view p).takes ≡ true)
