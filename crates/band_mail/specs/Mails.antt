-- A mail is known by the names of its queues, in the order of its workers.
use Rattle.std.specs.Prelude.{◌≡◌, ℕ, ◌<◌, ◌+◌, ◌==◌, if◌then◌else◌, All, List, [], ◌∷◌, ◌++◌, length, map, filter, slice_index_or, slice_set}
use Rattle.atomic_table.specs.Seated.{TableId}

-- the name of a queue: no other queue has it
abbrev pub QueueName : Type 0
QueueName = TableId

abbrev pub Mail : Type 0
Mail = List QueueName

-- whose a Putter is, the queue that it puts into, and what it has put, in order
pub record Putting (T : Type 0) : Type 0 where
  pub worker : ℕ
  pub queue : QueueName
  pub put : List T

-- the queues that a Taker takes from, and what it has taken of each, in order
pub record Taking (T : Type 0) : Type 0 where
  pub mail : Mail
  pub taken : List (List T)

module _ {T : Type 0} where
  -- it puts into its worker's queue of this mail
  abbrev pub IsPutterOf : Mail → Putting T → Type 0
  IsPutterOf mail p = (p.worker < length mail) × (slice_index_or mail p.worker p.queue ≡ p.queue)

  abbrev pub all_queues : List (Putting T) → List QueueName
  all_queues putters = map (λ (p : Putting T). p.queue) putters

  abbrev pub all_put : List (Putting T) → List (List T)
  all_put putters = map (λ (p : Putting T). p.put) putters

  -- Putter k is worker k's. They are all Putters of the mail where there are as many as it has queues
  abbrev pub ArePuttersOf : Mail → List (Putting T) → Type 0
  ArePuttersOf mail putters = (k : ℕ) (p : Putting T) → k < length putters → ((slice_index_or putters k p).worker ≡ k) × IsPutterOf mail (slice_index_or putters k p)

  -- how many of them are worker w's
  abbrev pub putters_of : ℕ → List (Putting T) → ℕ
  putters_of w [] = 0
  putters_of w (p ∷ putters) = (if p.worker == w then 1 else 0) + putters_of w putters

  -- all Putters of the mail, in any order: one of each worker
  pub record AreAllPuttersOf (mail : Mail) (putters : List (Putting T)) : Type 0 where
    pub many : length putters ≡ length mail
    pub each : All (IsPutterOf mail) putters
    pub one : (w : ℕ) → w < length mail → putters_of w putters ≡ 1

  -- what worker w has put, by its Putter among these
  abbrev pub put_by : List (Putting T) → ℕ → List T
  put_by [] w = []
  put_by (p ∷ putters) w = if p.worker == w then p.put else put_by putters w

  -- the bands of worker w, in order
  abbrev pub of_worker : ℕ → List (ℕ × T) → List T
  of_worker w bands = map (λ (b : ℕ × T). b.1) (filter (λ (b : ℕ × T). b.0 == w) bands)

  -- of each worker, what it put is what was taken of it, followed by what is held of it
  abbrev pub IsAllDelivered : (put : ℕ → List T) → (taken : List (List T)) → (held : List (ℕ × T)) → Type 0
  IsAllDelivered put taken held = (w : ℕ) → put w ≡ slice_index_or taken w [] ++ of_worker w held

  abbrev pub with_put : Putting T → T → Putting T
  with_put p band = record { worker = p.worker; queue = p.queue; put = p.put ++ band ∷ [] }

  abbrev pub with_taken : Taking T → ℕ → T → Taking T
  with_taken t w band = record { mail = t.mail; taken = slice_set t.taken w (slice_index_or t.taken w [] ++ band ∷ []) }
