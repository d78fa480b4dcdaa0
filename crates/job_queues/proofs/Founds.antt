-- Where what one of the priorities gives stands among them all, if those above it gave nothing.
use Rattle.std.proofs.Common.{◌≡◌, ℕ, Bool, true, false, ◌==◌, List, [], Some, None, ap}
use Rattle.job_core.specs.declared.names.JobName.{JobName}
use Rattle.job_core.specs.declared.names.Priority.{Priority}
use Rattle.job_core.specs.declared.names.Priority.TheVariants.{High, Normal, Low}
use Rattle.job_core.specs.Core.{same}
use Rattle.board_model.specs.Lists.{has, Three, all}
use Rattle.board_model.specs.Board.{Queues}
use Rattle.board_model.specs.Pick.{lane}
use Rattle.job_queues.specs.declared.pick.Pick.{Pick}
use Rattle.job_queues.specs.declared.pick.Pick.TheVariants.{Ready, New}
use Rattle.job_queues.specs.declared.queue_index.QueueIndex.{QueueIndex}
use Rattle.job_queues.specs.Names.{picked}
use Rattle.job_queues.specs.Lanes.{IsPlaceOf}
use Rattle.job_queues.specs.Picks.{IsAt, IsFirstAt, IsFirstIn}
use Rattle.job_queues.proofs.Threes.{there_high, there_normal, there_low}
use Rattle.job_queues.proofs.Picks.{nothing_given, given_may_start, none_starts}

-- no entry of what is picked
abbrev pub HasNoneOf : Pick → List ℕ → List JobName → Type 0
HasNoneOf (Ready fiber) ready fresh = has (λ other. fiber == other) ready ≡ false
HasNoneOf (New job) ready fresh = has (same job) fresh ≡ false

no_fiber : (fiber : ℕ) (fibers : List ℕ) → fibers ≡ [] → has (λ other. fiber == other) fibers ≡ false
no_fiber fiber fibers e = ap (has (λ other. fiber == other)) e

-- a priority that gives nothing has no entry of what another one gives
pub none_above : (may : JobName → Bool) (x : Pick) (ready other_ready : List ℕ) (fresh other_fresh : List JobName)
    → None ≡ lane may ready fresh None → Some (picked x) ≡ lane may other_ready other_fresh None → HasNoneOf x ready fresh
none_above may (Ready fiber) ready other_ready fresh other_fresh n e = no_fiber fiber ready (nothing_given may ready fresh n).0
none_above may (New job) ready other_ready fresh other_fresh n e = none_starts may job fresh (given_may_start may other_ready other_fresh job e) (nothing_given may ready fresh n).1

-- ---- the place among all priorities

module _ (q : Queues) (i : ℕ) where
  pub at_normal : (x : Pick) → HasNoneOf x q.ready.high q.fresh.high → IsPlaceOf x i q.ready.normal q.fresh.normal → IsAt q x (record { priority = Normal; index = i })
  at_normal (Ready fiber) n h = (n, h)
  at_normal (New job) n h = (n, h)

  pub at_low : (x : Pick) → HasNoneOf x q.ready.high q.fresh.high → HasNoneOf x q.ready.normal q.fresh.normal → IsPlaceOf x i q.ready.low q.fresh.low
      → IsAt q x (record { priority = Low; index = i })
  at_low (Ready fiber) n m h = (n, m, h)
  at_low (New job) n m h = (n, m, h)

-- what stands at a place is there
pub there_at : {X : Type 0} (p : X → Bool) (t : Three X) (place : QueueIndex) → IsFirstAt p t place → has p (all t) ≡ true
there_at p t place h = go place.priority h
  where
    go : (priority : Priority) → IsFirstIn p t priority place.index → has p (all t) ≡ true
    go High f = there_high p t f.there
    go Normal f = there_normal p t f.1.there
    go Low f = there_low p t f.2.there
