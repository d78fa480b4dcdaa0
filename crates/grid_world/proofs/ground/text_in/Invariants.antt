use Rattle.std.proofs.Common.{◌≡◌, ◌++◌, map}
use Rattle.grid_world.specs.Glyphs.{glyph}
use Rattle.grid_world.specs.Ground.{bare, no_signals}
use Rattle.grid_world.specs.Map.{count_up}
use Rattle.grid_world.specs.Rows.{lines}
use Rattle.grid_world.specs.World.{point}
use Rattle.grid_world.proofs.ground.text_in.Given as goal

abbrev pub invariant-rows : goal.invariant-rows
invariant-rows l = l.text.items ≡ lines (bare l.columns l.rows l.kinds) no_signals 0 l.y

abbrev pub invariant-columns : goal.invariant-columns
invariant-columns l = l.text.items ≡ lines (bare l.columns l.rows l.kinds) no_signals 0 l.y
    ++ map (λ x. glyph (bare l.columns l.rows l.kinds) no_signals (point x l.y)) (count_up 0 l.x)
