-- What a pick finds, where it stands, and what the queues are once it is taken out: nothing else is.
use Rattle.std.specs.Prelude.{◌≡◌, ◌==◌, ℕ, Bool, false, Option, Some, None}
use Rattle.job_core.specs.Core.{same}
use Rattle.job_core.specs.declared.names.Priority.{Priority}
use Rattle.job_core.specs.declared.names.Priority.TheVariants.{High, Normal, Low}
use Rattle.board_model.specs.Lists.{Three, all, has}
use Rattle.board_model.specs.Board.{Queues}
use Rattle.job_queues.specs.declared.pick.Pick.{Pick}
use Rattle.job_queues.specs.declared.pick.Pick.TheVariants.{Ready, New}
use Rattle.job_queues.specs.declared.queue_index.QueueIndex.{QueueIndex}
use Rattle.job_queues.specs.Places.{IsFirst}
use Rattle.job_queues.specs.Waiting.{BoundedQueues, without_job, without_fiber}

-- the first item that passes stands here in the list of this priority, and none stands in those above it
abbrev pub IsFirstIn : {X : Type 0} → (X → Bool) → Three X → Priority → ℕ → Type 0
IsFirstIn p t High i = IsFirst p t.high i
IsFirstIn p t Normal i = (has p t.high ≡ false) × IsFirst p t.normal i
IsFirstIn p t Low i = (has p t.high ≡ false) × (has p t.normal ≡ false) × IsFirst p t.low i

abbrev pub IsFirstAt : {X : Type 0} → (X → Bool) → Three X → QueueIndex → Type 0
IsFirstAt p t place = IsFirstIn p t place.priority place.index

-- where the first item that passes stands, if one does
abbrev pub IsFirstOf : {X : Type 0} → (X → Bool) → Three X → Option QueueIndex → Type 0
IsFirstOf p t None = has p (all t) ≡ false
IsFirstOf p t (Some place) = IsFirstAt p t place

-- the first entry of what is picked stands here
abbrev pub IsAt : Queues → Pick → QueueIndex → Type 0
IsAt q (Ready fiber) place = IsFirstAt (λ other. fiber == other) q.ready place
IsAt q (New job) place = IsFirstAt (same job) q.fresh place

abbrev pub after_pick : Option Pick → BoundedQueues → BoundedQueues
after_pick None q = q
after_pick (Some (Ready fiber)) q = without_fiber fiber q
after_pick (Some (New job)) q = without_job job q
