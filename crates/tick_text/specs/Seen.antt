-- A tick that is looked at between a game and the same game a frame on.
use Rattle.stepping.specs.Played.{sight}
use Rattle.tick_text.specs.Lines.{Tick}
use Rattle.tick_text.specs.declared.seen_tick.SeenTick.{SeenTick}

abbrev pub tick_of : SeenTick → Tick
tick_of t = record {
  view = sight t.game.now.position.world t.signals t.agent;
  answers = t.answers.items;
  before = t.before.items;
  after = t.after.items;
}
