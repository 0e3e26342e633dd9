-- When the event of a recording's line is.
use Rattle.std.specs.Prelude.{ℕ, Option, Some, None}
use Rattle.mt_model.specs.declared.texts.recording.Event.{Event}
use Rattle.mt_model.specs.declared.texts.recording.Event.TheVariants.{Ask, Datagram, Tick, Report, Resend, Stop}

-- the time of an event, in ms; a stop has none
abbrev pub event_time : Event → Option ℕ
event_time (Ask ms fabric node cats opcode payload) = Some ms
event_time (Datagram ms peer bytes) = Some ms
event_time (Tick ms) = Some ms
event_time (Report ms fabric subscription) = Some ms
event_time (Resend ms session) = Some ms
event_time (Stop calls fate) = None
