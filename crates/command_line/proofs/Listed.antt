-- one more command of the table
use Rattle.std.proofs.Common.{◌≡◌, ◌∙◌, ◌<◌, ◌+◌, ℕ, List, ap, sym, length, take, slice_index_or}
use Rattle.std.specs.Prelude.{fold}
use Rattle.std.proofs.lemmas.List.Sums.{fold_more}
use Rattle.clap.specs.Words.{App, with_subcommand}
use Rattle.command_line.specs.Table.{app_in, with_listed}
use Rattle.command_line.specs.declared.table.Subcommand.{Subcommand}

pub listed_more : (start old made : App) (listed : List Subcommand) (i : ℕ) (d : Subcommand) → i < length listed
    → old ≡ fold with_listed start (take i listed) → made ≡ app_in (slice_index_or listed i d)
    → with_subcommand old made.top ≡ fold with_listed start (take (i + 1) listed)
listed_more start old made listed i d within h k =
    ap (λ a. with_subcommand a made.top) h ∙ ap (λ (m : App). with_subcommand (fold with_listed start (take i listed)) m.top) k
    ∙ sym (fold_more with_listed start listed i d within)
