-- What a run sends, and to which fabric, and the node behind it.
use Rattle.std.specs.Prelude.{ℕ, ◌==◌, Bool, true, List, [], ◌∷◌, ◌++◌, filter, map}
use Rattle.mt_model.specs.declared.texts.config.SessionRow.{SessionRow}
use Rattle.mt_model.specs.declared.texts.recording.Event.{Event}
use Rattle.mt_model.specs.declared.texts.recording.Sent.{Sent}
use Rattle.mt_model.specs.declared.texts.recording.To.{To}
use Rattle.mt_model.specs.declared.texts.recording.To.TheVariants.{Plain}
use Rattle.mt_machine.specs.Environment.{Environment}
use Rattle.mt_runs.specs.Course.{Course, Going, course, goes, stepped, stops}
use Rattle.mt_runs.specs.Lines.{fabric_of, sent}
use Rattle.mt_runs.specs.Whole.{Whole}

-- WHAT A RUN SENDS.

-- A line in which the disk stops sends nothing, whether its change survives or not.
abbrev pub sent_in : Environment → Whole → Event → Course → List Sent
sent_in given w event (goes stop) = sent given w event
sent_in given w event (stops line survived) = []

-- what one line sends, on its way
abbrev pub sent_on_way : Environment → Going → Event → List Sent
sent_on_way given g event = sent_in given g.whole event (course given g event)

abbrev pub run : Environment → List SessionRow → Going → List Event → List Sent
run given sessions g [] = []
run given sessions g (event ∷ events) = sent_on_way given g event ++ run given sessions (stepped given sessions g event) events

-- the node behind all lines
abbrev pub behind : Environment → List SessionRow → Going → List Event → Going
behind given sessions g [] = g
behind given sessions g (event ∷ events) = behind given sessions (stepped given sessions g event) events

-- A message, and the fabric to which it is sent: that for which its line acts.
pub record Message : Type 0 where
  pub fabric : ℕ
  pub sent : Sent

abbrev pub message_to : ℕ → Sent → Message
message_to fabric sent = record { fabric = fabric; sent = sent }

-- what one line sends where it is carried out
abbrev pub messages_at : Environment → Whole → Event → List Message
messages_at given w event = map (message_to (fabric_of w.state.node event)) (sent given w event)

abbrev pub messages_in : Environment → Whole → Event → Course → List Message
messages_in given w event (goes stop) = messages_at given w event
messages_in given w event (stops line survived) = []

abbrev pub messages_on_way : Environment → Going → Event → List Message
messages_on_way given g event = messages_in given g.whole event (course given g event)

-- ALL THAT A RUN SENDS, each message with the fabric to which it is sent
abbrev pub messages : Environment → List SessionRow → Going → List Event → List Message
messages given sessions g [] = []
messages given sessions g (event ∷ events) = messages_on_way given g event ++ messages given sessions (stepped given sessions g event) events

abbrev pub is_to : ℕ → Message → Bool
is_to fabric message = message.fabric == fabric

-- what a fabric is sent of it, in the order of sending
abbrev pub messages_to : ℕ → List Message → List Message
messages_to fabric all = filter (is_to fabric) all

-- Whether what is sent to a plain actor names the fabric to which it is sent.

abbrev pub names : ℕ → To → Bool
names fabric (Plain other opcode) = other == fabric
names fabric to = true

abbrev pub names_its_fabric : Message → Bool
names_its_fabric message = names message.fabric message.sent.to
