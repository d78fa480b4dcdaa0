-- The numbers of a run, and their limits.
use Rattle.std.specs.Prelude.{◌≤◌, ℕ}

pub record Numbers : Type 0 where
  pub frames : ℕ
  pub workers : ℕ
  pub small : ℕ
  pub large : ℕ
  pub slots : ℕ

abbrev pub settings_of : (frames workers small large slots : ℕ) → Numbers
settings_of frames workers small large slots = record { frames = frames; workers = workers; small = small; large = large; slots = slots }

-- of a play of a level
pub record IsWithinLimits (frames workers small large slots : ℕ) : Type 0 where
  pub most_frames : frames ≤ 9999
  pub a_worker : 1 ≤ workers
  pub most_workers : workers ≤ 16
  pub a_small : 1 ≤ small
  pub most_small : small ≤ 16
  pub two_large : 2 ≤ large
  pub most_large : large ≤ 63
  pub a_slot : 1 ≤ slots
  pub most_slots : slots ≤ 16

-- of a board of jobs alone
pub record IsWithinWideLimits (frames workers small large slots : ℕ) : Type 0 where
  pub most_frames : frames ≤ 9999
  pub a_worker : 1 ≤ workers
  pub most_workers : workers ≤ 64
  pub a_small : 1 ≤ small
  pub most_small : small ≤ 64
  pub two_large : 2 ≤ large
  pub most_large : large ≤ 64
  pub a_slot : 1 ≤ slots
  pub most_slots : slots ≤ 16
