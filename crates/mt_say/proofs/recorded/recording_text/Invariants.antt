-- the lines so far and those of the events to come are those of all
use Rattle.std.proofs.Common.{◌≡◌, ◌++◌, drop, map}
use Rattle.mt_files.specs.Event.{event_line}
use Rattle.mt_files.specs.Lines.{text_of}
use Rattle.mt_files.specs.Recording.{recording_text}
use Rattle.mt_say.proofs.recorded.recording_text.Given as goal

abbrev pub invariant-loop-event : goal.invariant-loop-event
invariant-loop-event l = l.text.items ++ text_of (map event_line (drop l.event-index l.fn.events)) ≡ recording_text l.fn.events
