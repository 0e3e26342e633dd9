-- The messages of a script that lines of words come to.
use Rattle.std.specs.Prelude.{Option, Some, None}
use Rattle.mt_model.specs.declared.texts.recording.Event.{Event}
use Rattle.mt_model.specs.declared.texts.recording.Event.TheVariants.{Ask, Datagram, Report, Resend, Stop, Tick}
use Rattle.mt_ctl.specs.declared.steps.Kind.TheVariants.{New}
use Rattle.mt_ctl.specs.declared.steps.Step.{Step}

-- a request on a new exchange, at the time and with the bytes of an actor's line; no other line has one
abbrev pub step_of : Event → Option Step
step_of (Ask ms fabric node cats opcode payload) = Some (record { ms = ms; kind = New; opcode = opcode; payload = payload })
step_of (Datagram ms peer bytes) = None
step_of (Tick ms) = None
step_of (Report ms fabric subscription) = None
step_of (Resend ms session) = None
step_of (Stop calls fate) = None
