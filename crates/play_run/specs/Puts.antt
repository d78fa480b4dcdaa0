-- How many bands Putters have put.
use Rattle.std.specs.Prelude.{ℕ, List, length}
use Rattle.std.specs.List.{sum_by}
use Rattle.band_mail.specs.Mails.{Putting}

module _ {T : Type 0} where
  abbrev pub bands_put : List (Putting T) → ℕ
  bands_put putters = sum_by (λ (p : Putting T). length p.put) putters
