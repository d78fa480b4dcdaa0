use Rattle.std.proofs.Common.{◌≡◌, drop}
use Rattle.game_session.specs.Kept.{texts_view}
use Rattle.level_text.specs.Written.{texts_data}
use Rattle.level_text.specs.Begun.{items_before}
use Rattle.level_text.proofs.write.texts_value.Given as goal

abbrev pub invariant-texts : goal.invariant-texts
invariant-texts l = items_before l.values.items (texts_data (texts_view (drop l.text-index l.texts))) ≡ texts_data (texts_view l.texts)
