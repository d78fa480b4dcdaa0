-- One of many handles changes.
use Rattle.std.proofs.Common.{◌≡◌, ◌≢◌, ◌∙◌, ℕ, ◌<◌, List, Option, None, length, set, get_or, sym, ap, subst}
use Rattle.std.proofs.Math.Seq.{map-set_same}
use Rattle.std.proofs.lemmas.List.{get_or-map, get_or-set_same, get_or-set_other, length-set, map-set}
use Rattle.stepping.specs.Played.{Played}
use Rattle.btworld_c.specs.declared.game.Game.{Game}
use Rattle.btworld_c.specs.Many.{held_at, held_by}

abbrev value_of : Game → Option Played
value_of g = g.handle.value

written_at : (games : List Game) (i : ℕ) (g : Game) → i < length games → held_at (set games i g) i ≡ g.handle.value
written_at games i g inside =
    let long : i < length (set games i g) = subst (λ (n : ℕ). i < n) (sym (length-set games i g)) inside in
    get_or-map value_of (set games i g) i g None long ∙ ap value_of (get_or-set_same games i g g inside)

pub others_stay : (games : List Game) (i : ℕ) (g : Game) (k : ℕ) → k ≢ i → held_at (set games i g) k ≡ held_at games k
others_stay games i g k other =
    ap (λ (l : List (Option Played)). get_or l k None) (map-set value_of games i g) ∙ get_or-set_other (held_by games) i k (value_of g) None other

-- what is so of a game before and after is so of the handle's
pub changed_at : (R : Option Played → Option Played → Type 0) (games : List Game) (i : ℕ) (d new : Game) → i < length games
    → R (get_or games i d).handle.value new.handle.value → R (held_at games i) (held_at (set games i new) i)
changed_at R games i d new inside r =
    subst (λ (o : Option Played). R (held_at games i) o) (sym (written_at games i new inside))
    (subst (λ (o : Option Played). R o new.handle.value) (sym (get_or-map value_of games i d None inside)) r)

-- a game that is as it was
pub stays_held : (games : List Game) (i : ℕ) (d new : Game) → new.handle.value ≡ (get_or games i d).handle.value → held_by (set games i new) ≡ held_by games
stays_held games i d new kept = map-set_same value_of games i new d kept
