-- What a message of the interaction model says of its exchange.
use Rattle.std.specs.Prelude.{ℕ, ◌==◌, ◌&&◌, Bool, false, not, List, Option, Some, None, Result, Ok, Err, if◌then◌else◌}
use Rattle.mt_tlv.specs.declared.value.Tag.{Tag}
use Rattle.mt_tlv.specs.declared.fault.TlvFault.{TlvFault}
use Rattle.mt_tlv.specs.Tree.{Tree, Elements, none, bool}
use Rattle.mt_tlv.specs.Reading.{element_at}
use Rattle.mt_im.specs.Blocks.{number_in}
use Rattle.mt_model.specs.Trees.{field_in, structure_in}
use Rattle.mt_im.specs.Reading.{request_in}
use Rattle.mt_im.specs.declared.fault.ImFault.{ImFault}
use Rattle.mt_model.specs.declared.messages.message.Payload.{Payload}
use Rattle.mt_model.specs.declared.messages.message.Request.{Request}
use Rattle.mt_model.specs.declared.messages.message.Request.TheVariants as requests

-- the members of the structure at the front, or none
abbrev pub members_in : Option Elements → Elements
members_in (Some members) = members
members_in None = none

abbrev pub members_of : Result ((Tag × Tree) × List ℕ) TlvFault → Elements
members_of (Ok x) = members_in (structure_in x.0.1)
members_of (Err fault) = none

abbrev pub fields : List ℕ → Elements
fields bytes = members_of (element_at bytes)

abbrev pub number_of_field : Option Tree → Option ℕ
number_of_field None = None
number_of_field (Some value) = number_in 32 value

abbrev pub is_true_field : Option Tree → Bool
is_true_field (Some (bool truth)) = truth
is_true_field _ = false

-- the subscription of a report, its field 0
abbrev pub subscription_in : List ℕ → Option ℕ
subscription_in bytes = number_of_field (field_in 0 (fields bytes))

-- whether a report wants no confirmation: its field 4 is true
abbrev pub is_suppressed : List ℕ → Bool
is_suppressed bytes = is_true_field (field_in 4 (fields bytes))

abbrev pub is_report : Payload → Bool
is_report payload = payload.opcode == 5

-- whether the confirmation of a payload is awaited once it was sent
abbrev pub awaits : Payload → Bool
awaits payload = is_report payload && not (is_suppressed payload.bytes)

abbrev pub or_before : Option ℕ → Option ℕ → Option ℕ
or_before (Some id) before = Some id
or_before None before = before

-- the subscription of an exchange once a payload was sent on it
abbrev pub subscription_with : Payload → Option ℕ → Option ℕ
subscription_with payload before = if is_report payload then or_before (subscription_in payload.bytes) before else before

abbrev pub is_status_0 : Result Request ImFault → Bool
is_status_0 (Ok (requests.Status code)) = code == 0
is_status_0 _ = false

-- a StatusResponse that says success
abbrev pub is_success : ℕ → List ℕ → Bool
is_success opcode payload = is_status_0 (request_in opcode payload)
