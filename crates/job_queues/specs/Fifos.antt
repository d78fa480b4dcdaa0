-- A queue that lies in a list: what waits in it, how many places of the list are in use, and how many it has.
use Rattle.std.specs.Prelude.{ℕ, List}

pub record Fifo (X : Type 0) : Type 0 where
  pub items : List X
  pub used : ℕ
  pub room : ℕ
