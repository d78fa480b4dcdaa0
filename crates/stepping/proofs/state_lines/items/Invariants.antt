use Rattle.std.proofs.Common.{◌≡◌, ◌*◌, ◌-◌, length, replicate, false}
use Rattle.stepping.specs.StateReading.{items_from}
use Rattle.stepping.proofs.state_lines.items.Given as goal

abbrev pub invariant-items : goal.invariant-items
invariant-items l = record {
  long : length l.items.items ≡ l.world.width * l.world.height;
  same : items_from l.world.width l.world.height (l.world.width * l.world.height - l.number) l.items.items l.rest
      ≡ items_from l.world.width l.world.height (l.world.width * l.world.height) (replicate (l.world.width * l.world.height) false) l.text;
}
