use Rattle.std.proofs.Common.{◌≡◌, ◌++◌, OnOk, ℕ, subst}
use Rattle.trace_text.specs.Trace.{told_text}
use Rattle.trace_text.proofs.emits.push_told.Goals as goal

pub returns : goal.returns
returns c =
    subst (λ (n : ℕ). OnOk c.push_two.result (c.push_two.new.text.items ≡ c.args.text.now.items ++ told_text n)) c.from-number.ensures c.push_two.ensures
