use Rattle.std.proofs.Common.{◌∙◌, List, length, ap, sym}
use Rattle.grid_world.specs.Grid.{Grid}
use Rattle.grid_world.specs.declared.cell.Intent.{Intent}
use Rattle.btworld_c.proofs.Intents.{length_of_first}
use Rattle.btworld_c.proofs.intent_reading.world_by.Goals as goal

pub resolved-requires : goal.resolved-requires
resolved-requires c =
    ap (λ (l : List Intent). length l) (c.deref.ensures.value ∙ c.in_ok-first.ensures) ∙ length_of_first c.args.count c.args.intents.now ∙ c.requires.many
    ∙ ap (λ (w : Grid). length w.agents) (sym c.world.ensures.value)
