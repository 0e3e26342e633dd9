-- When a cause holds, and of which line or wish it is.
use Rattle.std.specs.Prelude.{ℕ, ◌≡◌, ◌≢◌, List, [], ◌∷◌, Bool, true, false, Option, Some, None, Result, Ok, Err, is_some, option_copied, slice_index, IsOkAnd, IsSome}
use Rattle.std.specs.List.{list_any}
use Rattle.std.specs.Option.{option_map}
use Rattle.mt_acl.specs.Access.{is_granted}
use Rattle.mt_frame.specs.Reading.{message_at}
use Rattle.mt_frame.specs.declared.fault.FrameFault.{FrameFault}
use Rattle.mt_frame.specs.declared.header.MessageHeader.{MessageHeader}
use Rattle.mt_machine.specs.State.{is_member}
use Rattle.mt_machine.specs.Step.{session_actor}
use Rattle.mt_meta.specs.Finding.{find_of, privilege_of}
use Rattle.mt_meta.specs.declared.meta.Meta.{Meta}
use Rattle.mt_model.specs.Optional.{is_that}
use Rattle.mt_model.specs.declared.messages.message.Request.{Request}
use Rattle.mt_model.specs.declared.messages.message.Request.TheVariants as requests
use Rattle.mt_model.specs.declared.messages.status.Status.{Status}
use Rattle.mt_model.specs.declared.messages.status.Status.TheVariants as statuses
use Rattle.mt_model.specs.declared.rows.place.Place.{Place}
use Rattle.mt_model.specs.declared.node.state.Standing.TheVariants.{Waits, Ended}
use Rattle.mt_model.specs.declared.texts.recording.Event.{Event}
use Rattle.mt_model.specs.declared.texts.recording.Event.TheVariants as events
use Rattle.mt_model.specs.messages.Status.{code_of}
use Rattle.mt_names.specs.Words.{status_of as status_named}
use Rattle.mt_subs.specs.Owed.{has_passed}
use Rattle.mt_subs.specs.Subscriptions.{kept_at}
use Rattle.mt_subs.specs.declared.subscription.Kept.{Kept}
use Rattle.mt_tlv.specs.View.{tree}
use Rattle.mt_why.specs.Refusal.{has_form_at, is_scoped_change, is_timed, missing_at, version_at}
use Rattle.mt_why.specs.Silence.{IsSpared, asks_no_answer, has_lost_fabric, has_news, session_of, standing_of}
use Rattle.mt_why.specs.declared.cause.Cause.{Cause}
use Rattle.mt_why.specs.declared.cause.Cause.TheVariants as causes
use Rattle.mt_why.specs.declared.refusals.Wish.{Wish}
use Rattle.mt_why.specs.declared.scene.Scene.{Scene}

-- This command is invoked, with fields that have the form of the table, or with such that have not.
abbrev pub IsInvoked : Place → Bool → Option Request → Type 0
IsInvoked command form (Some (requests.Invoke suppress timed asked fields)) = (command ≡ asked) × (has_form_at asked (tree fields) ≡ form)
IsInvoked command form other = ⊥

-- The cause holds of the node as the line begins, and of what was answered.
abbrev pub Holds : Scene → Cause → Type 0
Holds scene (causes.NoFabric fabric) = is_member fabric scene.state.now ≡ false
Holds scene causes.PlainEnded = scene.state.now.plain ≡ None
Holds scene (causes.NoSession id) = session_of id scene.state.now ≡ None
Holds scene (causes.SessionWaits id) = standing_of id scene.state.now ≡ Some Waits
Holds scene (causes.SessionEnded id) = standing_of id scene.state.now ≡ Some Ended
Holds scene (causes.FabricLeft id) = (standing_of id scene.state.now ≡ Some Ended) × (option_map (has_lost_fabric scene.state.now.fabrics) (session_of id scene.state.now) ≡ Some true)
Holds scene (causes.NoHeader fault) = Unit {0}
Holds scene (causes.NotLetIn id) = scene.is_let_in ≡ false
Holds scene causes.Suppressed = asks_no_answer (option_copied scene.request) ≡ true
Holds scene (causes.NothingToAnswer id) = (is_some (session_actor scene.state.now id) ≡ true) × (scene.is_let_in ≡ true)
Holds scene (causes.NothingToResend id) = is_some (session_actor scene.state.now id) ≡ true
Holds scene (causes.NotSubscribed fabric id) = kept_at fabric id scene.subs.now ≡ None
Holds scene (causes.NotConfirmed fabric id) = option_map (λ (kept : Kept). kept.live) (kept_at fabric id scene.subs.now) ≡ Some false
Holds scene (causes.TooEarly fabric id floor last) = (option_map (λ (kept : Kept). kept.sub.floor) (kept_at fabric id scene.subs.now) ≡ Some floor)
    × (option_map (λ (kept : Kept). kept.time) (kept_at fabric id scene.subs.now) ≡ Some last) × (has_passed floor last scene.ms ≡ false)
Holds scene (causes.NothingDue fabric id ceiling last) = (option_map (λ (kept : Kept). kept.sub.ceiling) (kept_at fabric id scene.subs.now) ≡ Some ceiling)
    × (option_map (λ (kept : Kept). kept.time) (kept_at fabric id scene.subs.now) ≡ Some last) × (has_passed ceiling last scene.ms ≡ false)
    × (option_map (has_news scene.state.now) (kept_at fabric id scene.subs.now) ≡ Some false)
Holds scene (causes.NoEntry actor what privilege place) = (privilege_of place what ≡ Some privilege) × (is_granted scene.state.now.entries actor place privilege (is_scoped_change what place) ≡ false)
Holds scene (causes.Missing what place status) = missing_at what place ≡ Some status
Holds scene (causes.NotWritable place) = IsOkAnd (find_of place) (λ (meta : Meta). meta.write ≡ None)
Holds scene (causes.SingleItem place) = Unit {0}
Holds scene (causes.NeedsTimed what place) = is_timed what place ≡ true
Holds scene (causes.OtherVersion place wanted version) = (version_at scene.state.now place ≡ version) × (wanted ≢ version)
Holds scene (causes.OtherForm command) = IsInvoked command false (option_copied scene.request)
Holds scene (causes.RefusedFields command) = IsInvoked command true (option_copied scene.request)
Holds scene (causes.Answered status) = slice_index scene.codes.now (code_of status) ≢ 0

-- The status with which a refusal is answered.
abbrev pub status_of : Cause → Option Status
status_of (causes.NoEntry actor what privilege place) = Some statuses.UnsupportedAccess
status_of (causes.Missing what place status) = Some status
status_of (causes.NotWritable place) = Some statuses.UnsupportedWrite
status_of (causes.SingleItem place) = Some statuses.UnsupportedWrite
status_of (causes.NeedsTimed what place) = Some statuses.NeedsTimedInteraction
status_of (causes.OtherVersion place wanted version) = Some statuses.DataVersionMismatch
status_of (causes.OtherForm command) = Some statuses.InvalidCommand
status_of (causes.RefusedFields command) = Some statuses.InvalidCommand
status_of (causes.Answered status) = Some status
status_of other = None

-- The cause is of the line of this fabric, of this session, of this subscription.

abbrev pub IsOfFabric : ℕ → Cause → Type 0
IsOfFabric fabric (causes.NoFabric named) = named ≡ fabric
IsOfFabric fabric causes.PlainEnded = fabric ≡ 0
IsOfFabric fabric causes.Suppressed = Unit {0}
IsOfFabric fabric other = ⊥

abbrev pub IsOfSession : ℕ → Cause → Type 0
IsOfSession id (causes.NoSession named) = named ≡ id
IsOfSession id (causes.SessionWaits named) = named ≡ id
IsOfSession id (causes.SessionEnded named) = named ≡ id
IsOfSession id (causes.FabricLeft named) = named ≡ id
IsOfSession id (causes.NotLetIn named) = named ≡ id
IsOfSession id (causes.NothingToAnswer named) = named ≡ id
IsOfSession id (causes.NothingToResend named) = named ≡ id
IsOfSession id causes.Suppressed = Unit {0}
IsOfSession id other = ⊥

abbrev pub IsOfHeader : Result (MessageHeader × ℕ) FrameFault → Cause → Type 0
IsOfHeader (Err fault) (causes.NoHeader named) = named ≡ fault
IsOfHeader (Err fault) other = ⊥
IsOfHeader (Ok (header, len)) cause = IsOfSession header.session cause

abbrev pub IsOfSubscription : ℕ → ℕ → Cause → Type 0
IsOfSubscription fabric id (causes.NotSubscribed named_fabric named) = (named_fabric ≡ fabric) × (named ≡ id)
IsOfSubscription fabric id (causes.NotConfirmed named_fabric named) = (named_fabric ≡ fabric) × (named ≡ id)
IsOfSubscription fabric id (causes.TooEarly named_fabric named floor last) = (named_fabric ≡ fabric) × (named ≡ id)
IsOfSubscription fabric id (causes.NothingDue named_fabric named ceiling last) = (named_fabric ≡ fabric) × (named ≡ id)
IsOfSubscription fabric id other = ⊥

-- The cause is of this line.
abbrev pub IsOfLine : Event → Cause → Type 0
IsOfLine (events.Ask ms fabric node cats opcode payload) cause = IsOfFabric fabric cause
IsOfLine (events.Datagram ms peer bytes) cause = IsOfHeader (message_at bytes) cause
IsOfLine (events.Tick ms) cause = ⊥
IsOfLine (events.Report ms fabric subscription) cause = IsOfSubscription fabric subscription cause
IsOfLine (events.Resend ms session) cause = IsOfSession session cause
IsOfLine (events.Stop calls fate) cause = ⊥

-- The cause is of this wish, and stands in its way.
abbrev pub IsOfWish : Wish → Cause → Type 0
IsOfWish wish (causes.NoEntry actor what privilege place) = (actor ≡ wish.actor) × (what ≡ wish.what) × (place ≡ wish.place)
IsOfWish wish (causes.Missing what place status) = (what ≡ wish.what) × (place ≡ wish.place)
IsOfWish wish (causes.NotWritable place) = place ≡ wish.place
IsOfWish wish (causes.SingleItem place) = (place ≡ wish.place) × (wish.is_item ≡ true)
IsOfWish wish (causes.NeedsTimed what place) = (what ≡ wish.what) × (place ≡ wish.place) × (wish.is_timed ≡ false)
IsOfWish wish (causes.OtherVersion place wanted version) = (place ≡ wish.place) × (wish.version ≡ Some wanted)
IsOfWish wish other = ⊥

-- It is for want of an entry.
abbrev pub is_denial : Option Cause → Bool
is_denial (Some (causes.NoEntry actor what privilege place)) = true
is_denial other = false

-- Where no cause is told of a line, it is one for which none may be found.
abbrev pub IsSparedIfNone : Scene → List Cause → Type 0
IsSparedIfNone scene [] = IsSpared scene.state.now scene.subs.now scene.ms scene.event.now
IsSparedIfNone scene (cause ∷ causes) = Unit {0}

-- The status of the cause has this code.
abbrev pub has_code : ℕ → Cause → Bool
has_code code cause = is_that code (option_map code_of (status_of cause))

-- A status of this code that is in what was sent is that of one of the causes.
abbrev pub IsAccounted : Scene → List Cause → ℕ → Type 0
IsAccounted scene causes code = slice_index scene.codes.now code ≢ 0 → IsSome (status_named code) → list_any (has_code code) causes ≡ true
