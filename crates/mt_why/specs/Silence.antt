-- Sessions, subscriptions and requests, as far as a line is sent nothing by them.
use Rattle.std.specs.Prelude.{ℕ, ◌≡◌, ◌==◌, ◌&&◌, ◌||◌, nat_lt, not, Bool, true, false, List, Option, Some, None, Result, Ok, Err, IsSome}
use Rattle.std.specs.List.{find, list_any}
use Rattle.std.specs.Option.{option_map}
use Rattle.mt_frame.specs.Reading.{message_at}
use Rattle.mt_frame.specs.declared.fault.FrameFault.{FrameFault}
use Rattle.mt_frame.specs.declared.header.MessageHeader.{MessageHeader}
use Rattle.mt_machine.specs.Lines.{line_actor}
use Rattle.mt_machine.specs.Step.{asker, session_actor}
use Rattle.mt_meta.specs.Places.{is_named_by}
use Rattle.mt_model.specs.declared.messages.message.Request.{Request}
use Rattle.mt_model.specs.declared.messages.message.Request.TheVariants as requests
use Rattle.mt_model.specs.declared.node.state.ChangeNumber.{ChangeNumber}
use Rattle.mt_model.specs.declared.node.state.NodeSession.{NodeSession}
use Rattle.mt_model.specs.declared.node.state.NodeState.{NodeState}
use Rattle.mt_model.specs.declared.node.state.Standing.{Standing}
use Rattle.mt_model.specs.declared.tables.access.AclEntry.{AclEntry}
use Rattle.mt_model.specs.declared.tables.access.Actor.{Actor}
use Rattle.mt_model.specs.declared.tables.access.Auth.{Auth}
use Rattle.mt_model.specs.declared.tables.access.Auth.TheVariants.{Case, Group, Pase}
use Rattle.mt_model.specs.declared.tables.fabric.Fabric.{Fabric}
use Rattle.mt_model.specs.declared.texts.recording.Event.{Event}
use Rattle.mt_model.specs.declared.texts.recording.Event.TheVariants as events
use Rattle.mt_model.specs.texts.Config.{has_identity}
use Rattle.mt_subs.specs.Owed.{has_passed, may_read}
use Rattle.mt_subs.specs.Subscriptions.{kept_at}
use Rattle.mt_subs.specs.declared.subscription.Kept.{Kept}
use Rattle.mt_subs.specs.declared.subscription.SubState.{SubState}

-- Sessions.

abbrev pub has_id : ℕ → NodeSession → Bool
has_id id session = session.session == id

abbrev pub session_of : ℕ → NodeState → Option NodeSession
session_of id s = find (has_id id) s.sessions

-- how the session of this id stands, None where this boot has none
abbrev pub standing_of : ℕ → NodeState → Option Standing
standing_of id s = option_map (λ (session : NodeSession). session.standing) (session_of id s)

-- whether a fabric of the table has the identity of the session
abbrev pub has_fabric : List Fabric → NodeSession → Bool
has_fabric fabrics session = list_any (has_identity session.root_key session.fabric_id) fabrics

-- whether a session on CASE has an identity that none of the table has, by whether one has it; on PASE it has none
abbrev pub is_lost : Auth → Bool → Bool
is_lost Case is_there = not is_there
is_lost Pase is_there = false
is_lost Group is_there = false

abbrev pub has_lost_fabric : List Fabric → NodeSession → Bool
has_lost_fabric fabrics session = is_lost session.auth (has_fabric fabrics session)

-- Requests.

-- whether a request says that it wants no answer
abbrev pub wants_none : Request → Bool
wants_none (requests.Write suppress timed items) = suppress
wants_none (requests.Invoke suppress timed command fields) = suppress
wants_none request = false

abbrev pub asks_no_answer : Option Request → Bool
asks_no_answer None = false
asks_no_answer (Some request) = wants_none request

-- Subscriptions.

-- an attribute that the subscription names and that its subscriber may read has changed since its latest report
abbrev pub is_news : List AclEntry → Kept → ChangeNumber → Bool
is_news entries kept change = nat_lt kept.change change.number && (is_named_by kept.sub.paths change.place && may_read entries kept.sub.actor change.place)

abbrev pub has_news : NodeState → Kept → Bool
has_news s kept = list_any (is_news s.entries kept) s.changes

-- it is live, and its ceiling has passed, or its floor has and there is news
abbrev pub may_be_due : NodeState → ℕ → Option Kept → Bool
may_be_due s now None = false
may_be_due s now (Some kept) = kept.live && (has_passed kept.sub.ceiling kept.time now || (has_passed kept.sub.floor kept.time now && has_news s kept))

-- Who asks in a line.

abbrev pub asking_over : NodeState → Result (MessageHeader × ℕ) FrameFault → Option Actor
asking_over s (Ok (header, len)) = session_actor s header.session
asking_over s (Err fault) = None

abbrev pub asking_in : NodeState → Event → Option Actor
asking_in s (events.Ask ms fabric node cats opcode payload) = asker s (line_actor fabric node cats)
asking_in s (events.Datagram ms peer bytes) = asking_over s (message_at bytes)
asking_in s other = None

-- Lines for which no cause may be found: somebody is taken as asking, a subscription may be due; and time steps and stops.
abbrev pub IsSpared : NodeState → SubState → ℕ → Event → Type 0
IsSpared s subs now (events.Ask ms fabric node cats opcode payload) = IsSome (asker s (line_actor fabric node cats))
IsSpared s subs now (events.Datagram ms peer bytes) = ⊥
IsSpared s subs now (events.Tick ms) = Unit {0}
IsSpared s subs now (events.Report ms fabric subscription) = may_be_due s now (kept_at fabric subscription subs) ≡ true
IsSpared s subs now (events.Resend ms session) = ⊥
IsSpared s subs now (events.Stop calls fate) = Unit {0}
