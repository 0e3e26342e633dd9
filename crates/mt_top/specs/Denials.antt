-- Access is denied exactly where no entry grants it, whatever is asked in a run, and at whichever moment.
use Rattle.mt_events.specs.Denials as events
use Rattle.mt_invoke.specs.Laws as invoking
use Rattle.mt_read.specs.Denials as reading
use Rattle.mt_write.specs.Laws as writing

-- Each law speaks of whatever is seen, whoever asks and whatever is asked: so of each line of a run, with what its fabric sees just before it.
pub record DenialsAreExact : Type 0 where
  -- a path of a read that names one place is answered with UNSUPPORTED_ACCESS
  pub reads : reading.DeniesReadsExactly
  -- a place that a wildcard of a read names is left out, but for data that the reader has
  pub wildcards : reading.LeavesOutAttributesExactly
  -- a path of a read of events that names one place is
  pub event_paths : events.DeniesEventsExactly
  -- an event that is asked for is left out
  pub untold : events.LeavesOutEventsExactly
  -- an item of a write is
  pub writes : writing.DeniesWritesExactly
  -- a command is
  pub commands : invoking.DeniesCommandsExactly
