-- What is kept after more events.
use Rattle.std.proofs.Common.{◌+◌, ◌≡◌, ◌<◌, ◌≤◌, ℕ, false, Option, None, List, [], ◌∷◌, ◌++◌, length, refl, sym, ap, ◌∙◌, arith}
use Rattle.std.proofs.lemmas.List.{length-replicate}
use Rattle.job_core.specs.declared.names.JobName.TheVariants.{Logic, Think, Path, Draw}
use Rattle.job_core.specs.declared.names.Event.{Event}
use Rattle.job_core.specs.declared.names.Event.TheVariants.{Start, Resume, Ask, Spread, Hold, Finish, Emit, Stop}
use Rattle.job_core.specs.Core.{Setup}
use Rattle.board_model.specs.Board.{Core, Held, core_after, core_from, core_opening, core_of}
use Rattle.board_model.proofs.Kit.{length_write}
use Rattle.job_scheduler.specs.Logged.{Logged, setup_of, kept, IsKept}

core_along : (s : Setup) (c : Core) (es more : List Event) → core_from s c (es ++ more) ≡ core_from s (core_from s c es) more
core_along s c [] more = refl
core_along s c (x ∷ xs) more = core_along s (core_after s c x) xs more

pub kept_after : (v : Logged) (c d : Core) (now capacity length_then room : ℕ) (later : List Event) (e : Event) → IsKept v c now capacity → later ≡ v.events ++ e ∷ []
    → ((questions : ℕ → ℕ → ℕ) → d ≡ core_after (setup_of v questions) c e) → (d.stopped ≡ false → length_then < room) → IsKept (record v { events = later }) d length_then room
kept_after v c d now capacity length_then room later e k written does place =
    record {
      within = k.within;
      core = λ q. does q ∙ (ap (λ x. core_after (setup_of v q) x e) (k.core q) ∙ (sym (core_along (setup_of v q) (core_opening (setup_of v q)) v.events (e ∷ [])) ∙ ap (core_of (setup_of v q)) (sym written)));
      room = place;
    }

-- ---- no event changes how many fibers there are

jobs_length : (s : Setup) (c : Core) (e : Event) → length (core_after s c e).seats.jobs ≡ length c.seats.jobs
jobs_length s c (Start w j) = length_write c.seats.jobs _ _
jobs_length s c (Resume w j) = length_write c.seats.jobs _ _
jobs_length s c (Spread w (Logic f)) = length_write c.seats.jobs _ _
jobs_length s c (Hold w (Logic f)) = length_write c.seats.jobs _ _
jobs_length s c (Ask w (Think f a)) = length_write c.seats.jobs _ _
jobs_length s c (Finish w (Logic f)) = length_write c.seats.jobs _ _
jobs_length s c (Finish w (Think f a)) = length_write c.seats.jobs _ _
jobs_length s c (Finish w (Path f a i)) = length_write c.seats.jobs _ _
jobs_length s c (Finish w (Draw f b)) = length_write c.seats.jobs _ _
jobs_length s c (Emit f) = refl
jobs_length s c Stop = refl
jobs_length s c (Spread w (Think f a)) = refl
jobs_length s c (Spread w (Path f a i)) = refl
jobs_length s c (Spread w (Draw f b)) = refl
jobs_length s c (Hold w (Think f a)) = refl
jobs_length s c (Hold w (Path f a i)) = refl
jobs_length s c (Hold w (Draw f b)) = refl
jobs_length s c (Ask w (Logic f)) = refl
jobs_length s c (Ask w (Path f a i)) = refl
jobs_length s c (Ask w (Draw f b)) = refl

jobs_from : (s : Setup) (c : Core) (es : List Event) → length (core_from s c es).seats.jobs ≡ length c.seats.jobs
jobs_from s c [] = refl
jobs_from s c (e ∷ es) = jobs_from s (core_after s c e) es ∙ jobs_length s c e

pub few_jobs : (v : Logged) (c : Core) (now capacity : ℕ) → IsKept v c now capacity → length c.seats.jobs ≤ 128
few_jobs v c now capacity k =
    let a : length c.seats.jobs ≡ length (kept v (λ _ _. 0)).seats.jobs = ap (λ (x : Core). length x.seats.jobs) (k.core (λ _ _. 0)) in
    let b = jobs_from (setup_of v (λ _ _. 0)) (core_opening (setup_of v (λ _ _. 0))) v.events in
    let none : Option Held = None in
    let d = length-replicate (v.numbers.small + v.numbers.large) none in
    let e = k.within.most_small in
    let f = k.within.most_large in
    omega arith
