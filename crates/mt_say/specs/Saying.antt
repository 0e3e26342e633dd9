-- What a line of words says, and the event of a recording that it comes to.
use Rattle.std.specs.Prelude.{◌≡◌, List, Ok, ⊤}
use Rattle.mt_tlv.specs.declared.value.Tag.TheVariants.{Anonymous}
use Rattle.mt_tlv.specs.Narrow.{narrow}
use Rattle.mt_model.specs.declared.texts.recording.Event.{Event}
use Rattle.mt_model.specs.declared.texts.recording.Event.TheVariants as events
use Rattle.mt_im.specs.Reading.{request_in}
use Rattle.mt_im.specs.Requests.{opcode_of, request_tree}
use Rattle.mt_say.specs.declared.saying.Said.{Said}
use Rattle.mt_say.specs.declared.saying.Said.TheVariants.{Asks, Tells}
use Rattle.mt_say.specs.declared.saying.Saying.{Saying}

-- the event that is said: a request as a line of its actor, whose payload is the request's narrow encoding
abbrev pub event_said : Said → Event
event_said (Asks ms by request) = events.Ask ms by.fabric by.node by.cats (opcode_of request) (narrow Anonymous (request_tree request))
event_said (Tells event) = event

abbrev pub event_of : Saying → Event
event_of saying = event_said saying.what

-- A node decodes the payload of a request that is said to exactly this request.
abbrev pub IsDecoded : Said → Type 0
IsDecoded (Asks ms by request) = request_in (opcode_of request) (narrow Anonymous (request_tree request)) ≡ Ok request
IsDecoded (Tells event) = ⊤

abbrev pub IsHeard : Saying → Type 0
IsHeard saying = IsDecoded saying.what
