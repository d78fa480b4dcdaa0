-- A pick takes the picked job or fiber out: an earlier entry of the same job would have been picked.
use Rattle.std.proofs.Common.{◌≡◌, ◌+◌, ℕ, length, Bool, true, false, not, List, [], ◌∷◌, Option, Some, None, find, position, nat_lt, slice_get, cond, if◌then◌else◌, refl, sym, ap, subst, ◌∙◌}
use Rattle.std.specs.List.{position_or_len}
use Rattle.job_core.specs.declared.names.JobName.{JobName}
use Rattle.job_core.specs.Core.{same}
use Rattle.job_core.proofs.ByCases.{by_same}
use Rattle.board_model.specs.Lists.{has, drop_first}
use Rattle.board_model.specs.Board.{Queues}
use Rattle.board_model.specs.Pick.{Pick, New, first_new, lane, pick}
use Rattle.board_model.proofs.Kit.{by_bool}
use Rattle.job_queues.specs.Places.{IsFirst, IsFirstPlace}
use Rattle.job_queues.proofs.Places.{first_place_found}

abbrev or_else : Option Pick → Option Pick → Option Pick
or_else None other = other
or_else (Some x) other = Some x

abbrev pub found_new : Option JobName → Option Pick
found_new None = None
found_new (Some job) = Some (New job)

-- ---- one priority

pub first_new_is : (may : JobName → Bool) (jobs : List JobName) → first_new may jobs None ≡ found_new (find may jobs)
first_new_is may [] = refl
first_new_is may (j ∷ js) = by_bool (may j) (λ b. (if b then Some (New j) else first_new may js None) ≡ found_new (cond b (Some j) (find may js))) (λ e. refl) (λ e. first_new_is may js)

first_new_or : (may : JobName → Bool) (jobs : List JobName) (other : Option Pick) → first_new may jobs other ≡ or_else (first_new may jobs None) other
first_new_or may [] other = refl
first_new_or may (j ∷ js) other = by_bool (may j) (λ b. (if b then Some (New j) else first_new may js other) ≡ or_else (if b then Some (New j) else first_new may js None) other) (λ e. refl) (λ e. first_new_or may js other)

-- where a priority gives nothing the next one gives
pub lane_or : (may : JobName → Bool) (ready : List ℕ) (fresh : List JobName) (other : Option Pick) → lane may ready fresh other ≡ or_else (lane may ready fresh None) other
lane_or may [] fresh other = first_new_or may fresh other
lane_or may (f ∷ fs) fresh other = refl

pub lane_none : (may : JobName → Bool) (ready : List ℕ) (fresh : List JobName) (other : Option Pick) → None ≡ lane may ready fresh None → lane may ready fresh other ≡ other
lane_none may ready fresh other e = lane_or may ready fresh other ∙ ap (λ x. or_else x other) (sym e)

pub lane_some : (may : JobName → Bool) (ready : List ℕ) (fresh : List JobName) (other : Option Pick) (x : Pick) → Some x ≡ lane may ready fresh None → lane may ready fresh other ≡ Some x
lane_some may ready fresh other x e = lane_or may ready fresh other ∙ ap (λ y. or_else y other) (sym e)

-- ---- the first that may start is the first of its name

same_start : (may : JobName → Bool) (job other : JobName) → may job ≡ true → may other ≡ false → same job other ≡ false
same_start may job other t f = by_same job other (λ b. b ≡ false) (λ e. let g = sym t ∙ (ap may e ∙ f) in absurd cc) (λ n. refl)

-- jobs of which none may start don't have one that may
pub none_starts : (may : JobName → Bool) (job : JobName) (jobs : List JobName) → may job ≡ true → has may jobs ≡ false → has (same job) jobs ≡ false
none_starts may job [] t h = refl
none_starts may job (j ∷ js) t h = by_bool (may j) (λ b. may j ≡ b → (if b then true else has may js) ≡ false → has (same job) (j ∷ js) ≡ false)
    (λ e d g. absurd cc)
    (λ e d g. rw (same_start may job j t d) (none_starts may job js t g)) refl h

abbrev IsFirstOfName : JobName → (JobName → Bool) → List JobName → Type 0
IsFirstOfName job p jobs = (p job ≡ true) × (has (same job) jobs ≡ true) × (drop_first p jobs ≡ drop_first (same job) jobs)

pub first_of_name : (may : JobName → Bool) (job : JobName) (jobs : List JobName) → find may jobs ≡ Some job → IsFirstOfName job may jobs
first_of_name may job [] e = absurd cc
first_of_name may job (j ∷ js) e = by_bool (may j)
    (λ b. may j ≡ b → cond b (Some j) (find may js) ≡ Some job → (may job ≡ true) × (has (same job) (j ∷ js) ≡ true) × ((if b then js else (j ∷ drop_first may js)) ≡ drop_first (same job) (j ∷ js)))
    (λ d t g.
    let i : j ≡ job = cc in
    let s : same job j ≡ true = by_same job j (λ b. b ≡ true) (λ _. refl) (λ n. absurd (n (sym i))) in
    (sym (ap may i) ∙ t, rw s refl, rw s refl))
    (λ d f g.
    let h = first_of_name may job js g in
    let s : same job j ≡ false = same_start may job j h.0 f in
    (h.0, rw s h.1, rw s (ap (λ l. j ∷ l) h.2))) refl e

same_place : (may : JobName → Bool) (job : JobName) (jobs : List JobName) → find may jobs ≡ Some job → position_or_len (same job) jobs ≡ position_or_len may jobs
same_place may job [] e = absurd cc
same_place may job (j ∷ js) e = by_bool (may j)
    (λ b. may j ≡ b → cond b (Some j) (find may js) ≡ Some job → cond (not (same job j)) (1 + position_or_len (same job) js) 0 ≡ cond (not b) (1 + position_or_len may js) 0)
    (λ d t g.
    let i : j ≡ job = cc in
    let s : same job j ≡ true = by_same job j (λ b. b ≡ true) (λ _. refl) (λ n. absurd (n (sym i))) in
    rw s refl)
    (λ d f g.
    let s : same job j ≡ false = same_start may job j (first_of_name may job js g).0 f in
    rw s (ap (λ n. 1 + n) (same_place may job js g))) refl e

pub first_entry : (may : JobName → Bool) (job : JobName) (jobs : List JobName) (i : ℕ) → find may jobs ≡ Some job → Some i ≡ position may jobs → IsFirst (same job) jobs i
first_entry may job jobs i f e =
    let at : position (same job) jobs ≡ Some i = ap (λ n. cond (nat_lt n (length jobs)) (Some n) None) (same_place may job jobs f) ∙ sym e in
    subst (IsFirstPlace (same job) jobs) at (first_place_found (same job) jobs)

-- the very job is of its name
pub own_name : (job : JobName) → same job job ≡ true
own_name job = by_same job job (λ b. b ≡ true) (λ _. refl) (λ n. absurd (n refl))

-- ---- what one priority gives, by what its lists are

pub none_given : (may : JobName → Bool) (ready : List ℕ) (fresh : List JobName) → ready ≡ [] → find may fresh ≡ None → lane may ready fresh None ≡ None
none_given may ready fresh e f = ap (λ r. lane may r fresh None) e ∙ (first_new_is may fresh ∙ ap found_new f)

pub new_given : (may : JobName → Bool) (ready : List ℕ) (fresh : List JobName) (job : JobName) → ready ≡ [] → find may fresh ≡ Some job → lane may ready fresh None ≡ Some (New job)
new_given may ready fresh job e f = ap (λ r. lane may r fresh None) e ∙ (first_new_is may fresh ∙ ap found_new f)

-- where nothing stands first, nothing stands
pub nothing_there : (may : JobName → Bool) (ready : List ℕ) (fresh : List JobName) → slice_get ready 0 ≡ None → slice_get fresh 0 ≡ None → lane may ready fresh None ≡ None
nothing_there may [] [] e f = refl
nothing_there may [] (j ∷ js) e f = absurd cc
nothing_there may (r ∷ rs) fresh e f = absurd cc

pub first_given : (may : JobName → Bool) (ready : List ℕ) (fresh : List JobName) (job : JobName) → slice_get ready 0 ≡ None → slice_get fresh 0 ≡ Some job → may job ≡ true → lane may ready fresh None ≡ Some (New job)
first_given may [] [] job e f t = absurd cc
first_given may [] (j ∷ js) job e f t = let i : j ≡ job = cc in rw (i, t) refl
first_given may (r ∷ rs) fresh job e f t = absurd cc

-- ---- the three priorities

module _ (may : JobName → Bool) (q : Queues) where
  pub pick_high : (x : Pick) → Some x ≡ lane may q.ready.high q.fresh.high None → Some x ≡ pick may q
  pick_high x e = sym (lane_some may q.ready.high q.fresh.high _ x e)

  pub pick_normal : (x : Pick) → None ≡ lane may q.ready.high q.fresh.high None → Some x ≡ lane may q.ready.normal q.fresh.normal None → Some x ≡ pick may q
  pick_normal x n e = sym (lane_none may q.ready.high q.fresh.high _ n ∙ lane_some may q.ready.normal q.fresh.normal _ x e)

  pub pick_low : None ≡ lane may q.ready.high q.fresh.high None → None ≡ lane may q.ready.normal q.fresh.normal None → lane may q.ready.low q.fresh.low None ≡ pick may q
  pick_low n m = sym (lane_none may q.ready.high q.fresh.high _ n ∙ lane_none may q.ready.normal q.fresh.normal _ m)

-- ---- a priority that gives nothing has nothing that could be given

first_new_none : (may : JobName → Bool) (jobs : List JobName) → None ≡ first_new may jobs None → has may jobs ≡ false
first_new_none may [] e = refl
first_new_none may (j ∷ js) e = by_bool (may j) (λ b. None ≡ (if b then Some (New j) else first_new may js None) → (if b then true else has may js) ≡ false) (λ t d. absurd cc) (λ f d. first_new_none may js d) e

pub nothing_given : (may : JobName → Bool) (ready : List ℕ) (fresh : List JobName) → None ≡ lane may ready fresh None → (ready ≡ []) × (has may fresh ≡ false)
nothing_given may [] fresh e = (refl, first_new_none may fresh e)
nothing_given may (f ∷ fs) fresh e = absurd cc

pub found_new-some : (o : Option JobName) (job : JobName) → Some (New job) ≡ found_new o → o ≡ Some job
found_new-some None job e = absurd cc
found_new-some (Some other) job e = let i : other ≡ job = cc in ap Some i

pub given_may_start : (may : JobName → Bool) (ready : List ℕ) (fresh : List JobName) (job : JobName) → Some (New job) ≡ lane may ready fresh None → may job ≡ true
given_may_start may [] fresh job e = (first_of_name may job fresh (found_new-some (find may fresh) job (e ∙ first_new_is may fresh))).0
given_may_start may (f ∷ fs) fresh job e = absurd cc
