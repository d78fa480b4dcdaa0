-- The code's keys as the core's counters.
use Rattle.counters.specs.declared.key.CounterKey.{CounterKey}
use Rattle.counters.specs.declared.key.CounterKey.TheVariants as key
use Rattle.job_core.specs.Core.{Counter, Thinks, Way, Draws, Shown}

abbrev pub counter_of : CounterKey → Counter
counter_of (key.Thinks frame) = Thinks frame
counter_of (key.Way frame agent question) = Way frame agent question
counter_of (key.Draws frame) = Draws frame
counter_of (key.Shown frame) = Shown frame
