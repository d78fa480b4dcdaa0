-- Where slices begin and end.
use Rattle.std.proofs.Common.{◌≡◌, ◌≤◌, ℕ, suc, ◌+◌, Bool, true, false, if◌then◌else◌, List, [], ◌∷◌, length, Option, Some, None, refl, sym, ap, ◌∙◌, arith}
use Rattle.std.specs.Prelude.{IfSome}
use Rattle.std.specs.List.{All, AllPairs, sum_by}
use Rattle.std.proofs.lemmas.Bool.{true≢false, eq-eqb}
use Rattle.std.proofs.lemmas.List.Elements.{All-nil, All-cons}
use Rattle.std.proofs.lemmas.List.Kept.{AllPairs-cons}
use Rattle.std.proofs.lemmas.List.Sums.{sum_by-cons}
use Rattle.job_core.specs.declared.names.Event.{Event}
use Rattle.job_core.specs.declared.names.Event.TheVariants.{Start, Resume, Ask, Spread, Hold, Finish, Emit, Stop}
use Rattle.trace_text.specs.declared.slice.Slice.{Slice}
use Rattle.trace_text.specs.Slices.{is_by, until, begun_at, before, slices_from}
use Rattle.trace_text.specs.Laws.{AreApart, BeginsBefore, IsWithin, begins}

-- ---- a slice in front of others

pub all_before : (P : Slice → Type 0) (o : Option Slice) (slices : List Slice) → IfSome o P → All P slices → All P (before o slices)
all_before P None slices first others = others
all_before P (Some slice) slices first others = All-cons P slice slices first others

pub pairs_before : (R : Slice → Slice → Type 0) (o : Option Slice) (slices : List Slice) → IfSome o (λ slice. All (R slice) slices) → AllPairs R slices → AllPairs R (before o slices)
pairs_before R None slices first others = others
pairs_before R (Some slice) slices first others = AllPairs-cons R slice slices first others

-- ---- slices begin at the place of their list or later

here : (at : ℕ) (event : Event) (behind : List Event) → IfSome (begun_at at event behind) (λ slice. at ≤ slice.begin)
here at (Start v job) behind = omega arith
here at (Resume v job) behind = omega arith
here at _ behind = tt

pub from_place : (at : ℕ) (events : List Event) → All (λ slice. at ≤ slice.begin) (slices_from at events)
from_place at [] = All-nil (λ slice. at ≤ slice.begin)
from_place at (event ∷ events) =
    all_before (λ slice. at ≤ slice.begin) (begun_at at event events) (slices_from (suc at) events) (here at event events)
    (λ k d l. let h = from_place (suc at) events k d l in omega (arith, h))

-- ---- those of a worker behind its next event

another : (w at : ℕ) (P : Slice → Type 0) (event : Event) (behind : List Event) → is_by w event ≡ false → IfSome (begun_at at event behind) (λ slice. w ≡ slice.worker → P slice)
another w at P (Start v job) behind other = λ same. absurd (true≢false (sym (eq-eqb v w (sym same)) ∙ other))
another w at P (Resume v job) behind other = λ same. absurd (true≢false (sym (eq-eqb v w (sym same)) ∙ other))
another w at P _ behind other = tt

step : (w at : ℕ) (event : Event) (events : List Event) (own : Bool) → is_by w event ≡ own
    → All (λ slice. w ≡ slice.worker → suc at + until w events ≤ slice.begin) (slices_from (suc at) events)
    → All (λ slice. w ≡ slice.worker → at + (if own then 0 else suc (until w events)) ≤ slice.begin) (slices_from at (event ∷ events))
step w at event events true e later = λ k d l same. let h = from_place at (event ∷ events) k d l in omega (arith, h)
step w at event events false e later =
    all_before (λ slice. w ≡ slice.worker → at + suc (until w events) ≤ slice.begin) (begun_at at event events) (slices_from (suc at) events)
    (another w at (λ slice. at + suc (until w events) ≤ slice.begin) event events e)
    (λ k d l same. let h = later k d l same in omega (arith, h))

waits : (w at : ℕ) (events : List Event) → All (λ slice. w ≡ slice.worker → at + until w events ≤ slice.begin) (slices_from at events)
waits w at [] = All-nil (λ slice. w ≡ slice.worker → at + 0 ≤ slice.begin)
waits w at (event ∷ events) = step w at event events (is_by w event) refl (waits w (suc at) events)

ends : (at : ℕ) (event : Event) (behind : List Event) → IfSome (begun_at at event behind) (λ slice. All (AreApart slice) (slices_from (suc at) behind))
ends at (Start v job) behind = waits v (suc at) behind
ends at (Resume v job) behind = waits v (suc at) behind
ends at _ behind = tt

pub apart : (at : ℕ) (events : List Event) → AllPairs AreApart (slices_from at events)
apart at [] = λ i j d less within. absurd (omega (arith, within))
apart at (event ∷ events) = pairs_before AreApart (begun_at at event events) (slices_from (suc at) events) (ends at event events) (apart (suc at) events)

-- ---- their order

begins_before : (at : ℕ) (event : Event) (behind : List Event) → IfSome (begun_at at event behind) (λ slice. All (BeginsBefore slice) (slices_from (suc at) behind))
begins_before at (Start v job) behind = λ k d l. let h = from_place (suc at) behind k d l in omega (arith, h)
begins_before at (Resume v job) behind = λ k d l. let h = from_place (suc at) behind k d l in omega (arith, h)
begins_before at _ behind = tt

pub ordered : (at : ℕ) (events : List Event) → AllPairs BeginsBefore (slices_from at events)
ordered at [] = λ i j d less within. absurd (omega (arith, within))
ordered at (event ∷ events) = pairs_before BeginsBefore (begun_at at event events) (slices_from (suc at) events) (begins_before at event events) (ordered (suc at) events)

-- ---- where they end

step_most : (w : ℕ) (own : Bool) (rest most : ℕ) → rest ≤ most → (if own then 0 else suc rest) ≤ suc most
step_most w true rest most h = omega arith
step_most w false rest most h = omega (arith, h)

pub until_most : (w : ℕ) (events : List Event) → until w events ≤ length events
until_most w [] = omega arith
until_most w (event ∷ events) = step_most w (is_by w event) (until w events) (length events) (until_most w events)

inside : (at : ℕ) (event : Event) (behind : List Event) → IfSome (begun_at at event behind) (IsWithin (at + suc (length behind)))
inside at (Start v job) behind = let h = until_most v behind in (omega arith, omega (arith, h))
inside at (Resume v job) behind = let h = until_most v behind in (omega arith, omega (arith, h))
inside at _ behind = tt

pub within : (at : ℕ) (events : List Event) → All (IsWithin (at + length events)) (slices_from at events)
within at [] = All-nil (IsWithin (at + 0))
within at (event ∷ events) =
    all_before (IsWithin (at + suc (length events))) (begun_at at event events) (slices_from (suc at) events) (inside at event events)
    (λ k d l. let h = within (suc at) events k d l in (h.0, omega (arith, h.1)))

-- ---- their number

one_more : (at : ℕ) (event : Event) (behind : List Event) (slices : List Slice) → length (before (begun_at at event behind) slices) ≡ begins event + length slices
one_more at (Start v job) behind slices = omega arith
one_more at (Resume v job) behind slices = omega arith
one_more at (Ask v job) behind slices = omega arith
one_more at (Spread v job) behind slices = omega arith
one_more at (Hold v job) behind slices = omega arith
one_more at (Finish v job) behind slices = omega arith
one_more at (Emit f) behind slices = omega arith
one_more at Stop behind slices = omega arith

pub counted : (at : ℕ) (events : List Event) → length (slices_from at events) ≡ sum_by begins events
counted at [] = refl
counted at (event ∷ events) =
    one_more at event events (slices_from (suc at) events) ∙ ap (λ n. begins event + n) (counted (suc at) events) ∙ sym (sum_by-cons begins event events)
