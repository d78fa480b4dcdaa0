-- The queues of a mail, and the passes of its Taker.
use Rattle.std.specs.Prelude.{◌≡◌, ℕ, Option, List, All, map}
use Rattle.crossbeam_queue.specs.declared.array_queue.Doing.{Doing}
use Rattle.crossbeam_queue.specs.declared.array_queue.Slotted.{Slotted}
use Rattle.crossbeam_queue.specs.Passes.{Pass, view, ruled_capacity}
use Rattle.band_mail.specs.declared.relay.PassLog.{PassLog}
use Rattle.band_mail.specs.Mails.{QueueName}

module _ {T Q A : Type 0} where
  abbrev pub queue_name : Slotted (Option T) (Doing T (PassLog T)) Q A → QueueName
  queue_name q = q.table.shared.table_id

  abbrev pub queue_names : List (Slotted (Option T) (Doing T (PassLog T)) Q A) → List QueueName
  queue_names queues = map queue_name queues

  abbrev pub HaveCapacity : List (Slotted (Option T) (Doing T (PassLog T)) Q A) → ℕ → Type 0
  HaveCapacity queues capacity = All (λ q. ruled_capacity q ≡ capacity) queues

module _ {T : Type 0} where
  abbrev pub pass_name : Pass T (PassLog T) → QueueName
  pass_name p = p.table_id

  abbrev pub pass_names : List (Pass T (PassLog T)) → List QueueName
  pass_names passes = map pass_name passes

  abbrev pub taken_by : Pass T (PassLog T) → List T
  taken_by p = (view p).taken

  -- what was taken of each queue
  abbrev pub all_taken : List (Pass T (PassLog T)) → List (List T)
  all_taken passes = map taken_by passes
