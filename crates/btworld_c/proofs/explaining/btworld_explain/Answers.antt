use Rattle.std.proofs.Common.{◌∙◌, ap, sym, length}
use Rattle.btworld_c.proofs.Explained.{nothing_told}
use Rattle.btworld_c.proofs.explaining.btworld_explain.Goals as goal

pub returns-in-Ok-clause-faultless : goal.returns-in-Ok-clause-faultless
returns-in-Ok-clause-faultless c =
    λ ok none. let filled = c.fill.ensures.ok ok in
    nothing_told c.args.level.now c.args.script.now c.in-Ok.told.items c.in-Ok.ensures (ap length (sym c.deref.ensures.value) ∙ sym filled.0 ∙ none)
