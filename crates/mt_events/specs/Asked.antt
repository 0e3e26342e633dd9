-- What a reader at hand asks.
use Rattle.mt_events.specs.Reading.{Asking}
use Rattle.mt_events.specs.declared.reading.Reader.{Reader}

abbrev pub asked_by : Reader → Asking
asked_by reader = record { entries = reader.entries.now; actor = reader.actor.now; minimum = reader.minimum; paths = reader.paths.now }
