-- What events need of a frame store and what they store there, by setups of the same sizes.
use Rattle.std.proofs.Common.{◌≡◌, ◌<◌, ◌%◌, zero, suc, ℕ, Some, None, length, slice_get, slice_set, refl, ap, ◌∙◌, subst}
use Rattle.job_core.specs.declared.names.JobName.{JobName}
use Rattle.job_core.specs.declared.names.JobName.TheVariants.{Logic, Think, Path, Draw}
use Rattle.job_core.specs.declared.names.Event.{Event}
use Rattle.job_core.specs.declared.names.Event.TheVariants.{Start, Resume, Ask, Spread, Hold, Finish, Emit, Stop}
use Rattle.job_core.specs.Core.{Setup, State, step_of}
use Rattle.board_model.specs.Stored.{Stored, parts, store}
use Rattle.board_model.specs.Needed.{HasParts, IsThere}

pub same_parts : (s t : Setup) → s.slots ≡ t.slots → s.agents ≡ t.agents → s.bands ≡ t.bands → (k : Stored) (j : JobName) (n : ℕ) → HasParts s k j n → HasParts t k j n
same_parts s t x y z k (Logic f) zero h = tt
same_parts s t x y z k (Logic f) (suc n) h = (subst (λ m. slice_get k.slots (f % m) ≡ Some (Some f)) x h.0, h.1 ∙ ap (parts f) y)
same_parts s t x y z k (Think f a) zero h = (subst (λ m. slice_get k.slots (f % m) ≡ Some (Some f)) x h.0, subst (λ m. a < m) y h.1)
same_parts s t x y z k (Think f a) (suc i) h = (subst (λ m. slice_get k.slots (f % m) ≡ Some (Some f)) x h.0, subst (λ m. a < m) y h.1, h.2)
same_parts s t x y z k (Path f a i) n h = (subst (λ m. slice_get k.slots (f % m) ≡ Some (Some f)) x h.0, h.1)
same_parts s t x y z k (Draw f b) n h = (subst (λ m. slice_get k.turns (f % m) ≡ Some (Some f)) x h.0, subst (λ m. b < m) z h.1)

pub same_store : (s t : Setup) → s.slots ≡ t.slots → (st : State) (k : Stored) (e : Event) → store s st k e ≡ store t st k e
same_store s t x st k (Spread w (Logic f)) = ap (λ m. record k { next = None; slots = slice_set k.slots (f % m) (Some f) }) x
same_store s t x st k (Finish w (Logic f)) = ap (λ m. record k { next = Some (suc f); turns = slice_set k.turns (f % m) (Some f) }) x
same_store s t x st k (Finish w (Draw f b)) = refl
same_store s t x st k (Emit f) = ap (λ m. record k { slots = slice_set k.slots (f % m) None; turns = slice_set k.turns (f % m) None }) x
same_store s t x st k (Ask w (Think f a)) = refl
same_store s t x st k (Finish w (Think f a)) = refl
same_store s t x st k (Finish w (Path f a i)) = refl
same_store s t x st k (Start w j) = refl
same_store s t x st k (Resume w (Logic f)) = refl
same_store s t x st k (Resume w (Think f a)) = refl
same_store s t x st k (Resume w (Path f a i)) = refl
same_store s t x st k (Resume w (Draw f b)) = refl
same_store s t x st k (Hold w j) = refl
same_store s t x st k Stop = refl
same_store s t x st k (Ask w (Logic f)) = refl
same_store s t x st k (Ask w (Path f a i)) = refl
same_store s t x st k (Ask w (Draw f b)) = refl
same_store s t x st k (Spread w (Think f a)) = refl
same_store s t x st k (Spread w (Path f a i)) = refl
same_store s t x st k (Spread w (Draw f b)) = refl

pub same_there : (s t : Setup) → s.slots ≡ t.slots → s.agents ≡ t.agents → s.bands ≡ t.bands → (st : State) (k : Stored) (e : Event) → IsThere s st k e → IsThere t st k e
same_there s t x y z st k (Start w j) h = same_parts s t x y z k j 0 h
same_there s t x y z st k (Resume w j) h = same_parts s t x y z k j (step_of (st.phase j)) h
same_there s t x y z st k (Spread w (Logic f)) h = (h.0, subst (λ m. slice_get k.slots (f % m) ≡ Some None) x h.1)
same_there s t x y z st k (Ask w (Think f a)) h = h
same_there s t x y z st k (Finish w (Logic f)) h = subst (λ m. slice_get k.turns (f % m) ≡ Some None) x h
same_there s t x y z st k (Finish w (Think f a)) h = (h.0, subst (λ m. length k.thoughts < m) y h.1)
same_there s t x y z st k (Finish w (Path f a i)) h = h
same_there s t x y z st k (Finish w (Draw f b)) h = tt
same_there s t x y z st k (Emit f) h = (subst (λ m. slice_get k.slots (f % m) ≡ Some (Some f)) x h.0, subst (λ m. slice_get k.turns (f % m) ≡ Some (Some f)) x h.1)
same_there s t x y z st k (Hold w j) h = tt
same_there s t x y z st k Stop h = tt
same_there s t x y z st k (Ask w (Logic f)) h = tt
same_there s t x y z st k (Ask w (Path f a i)) h = tt
same_there s t x y z st k (Ask w (Draw f b)) h = tt
same_there s t x y z st k (Spread w (Think f a)) h = tt
same_there s t x y z st k (Spread w (Path f a i)) h = tt
same_there s t x y z st k (Spread w (Draw f b)) h = tt
