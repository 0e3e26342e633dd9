-- The codes that stand one to one for what marks hold, by which a definition tells whether two are the same.
use Rattle.std.specs.Prelude.{◌≡◌, ◌⊎◌, ℕ, Bool, List, Option, Some, None, refl}
use mathlib.Core.Logic.{inl, inr}
use Rattle.std.specs.Coded.{Coded, code_by, coded_bool, coded_list, coded_option, coded_ℕ, coded×, coded⊎}
use Rattle.mt_outside.specs.contracts.network.Peer as peers
use Rattle.mt_outside.specs.declared.network.Peer.{Peer}
use Rattle.mt_frame.specs.contracts.header.ProtocolHeader as headers
use Rattle.mt_frame.specs.declared.header.ProtocolHeader.{ProtocolHeader}
use Rattle.mt_model.specs.contracts.messages.message.Happened as happened
use Rattle.mt_model.specs.contracts.node.action.PlainDeadline as deadlines
use Rattle.mt_model.specs.contracts.node.state.ChangeNumber as changes
use Rattle.mt_model.specs.contracts.node.state.NodeSession as sessions
use Rattle.mt_model.specs.contracts.node.state.Version as versions
use Rattle.mt_model.specs.contracts.rows.place.Row as rows
use Rattle.mt_model.specs.contracts.tables.access.AclEntry as entries
use Rattle.mt_model.specs.contracts.tables.fabric.Credentials as credentials
use Rattle.mt_model.specs.contracts.tables.fabric.Fabric as fabrics
use Rattle.mt_model.specs.contracts.tables.network.Armed as armed
use Rattle.mt_model.specs.contracts.tables.network.Network as networks
use Rattle.mt_model.specs.contracts.texts.config.SessionRow as session_rows
use Rattle.mt_model.specs.contracts.texts.recording.Event as events
use Rattle.mt_model.specs.declared.messages.message.Happened.{Happened}
use Rattle.mt_model.specs.declared.node.action.PlainDeadline.{PlainDeadline}
use Rattle.mt_model.specs.declared.node.state.ChangeNumber.{ChangeNumber}
use Rattle.mt_model.specs.declared.node.state.NodeSession.{NodeSession}
use Rattle.mt_model.specs.declared.node.state.Version.{Version}
use Rattle.mt_model.specs.declared.rows.place.Row.{Row}
use Rattle.mt_model.specs.declared.tables.access.AclEntry.{AclEntry}
use Rattle.mt_model.specs.declared.tables.fabric.Credentials.{Credentials}
use Rattle.mt_model.specs.declared.tables.fabric.Fabric.{Fabric}
use Rattle.mt_model.specs.declared.tables.network.Armed.{Armed}
use Rattle.mt_model.specs.declared.tables.network.Network.{Network}
use Rattle.mt_model.specs.declared.texts.config.SessionRow.{SessionRow}
use Rattle.mt_model.specs.declared.texts.recording.Event.{Event}
use Rattle.mt_model.specs.rows.Same.{are_same_codes}
use Rattle.mt_subs.specs.contracts.subscription.Subscription as subscriptions
use Rattle.mt_subs.specs.declared.subscription.Subscription.{Subscription}
use Rattle.mt_session.specs.Opening.{Arrival}
use Rattle.mt_session.specs.Sessions.{Message}
use Rattle.mt_exchange.specs.Shown.{Outgoing, Shown, again, closed, heard, sent, told}
use Rattle.mt_exchange.specs.contracts.exchange.Exchange as exchanges
use Rattle.mt_exchange.specs.declared.exchange.Exchange.{Exchange}
use Rattle.mt_runs.specs.mt_machine.Isolation.{Descriptor, Own, OwnOfWhole}
use Rattle.mt_runs.specs.mt_ledger.Isolation.{OwnLedger}
use Rattle.mt_runs.specs.Isolation.{OwnPart}
use Rattle.mt_runs.specs.Marks.{Unanswered}
use Rattle.mt_runs.specs.Whole.{SessionTalk}

-- whether two values have the same code
abbrev pub are_same : {A : Type 0} → Coded A → A → A → Bool
are_same coded one other = are_same_codes (coded.code one) (coded.code other)

-- Of what is public.

abbrev pub of_events : Coded Event
of_events = events.the_row.coded

abbrev pub of_rows : Coded (List Row)
of_rows = coded_list rows.the_row.coded

abbrev pub of_owners : Coded (List ℕ)
of_owners = coded_list coded_ℕ

abbrev pub of_descriptor : Coded Descriptor
of_descriptor = code_by ((ℕ × (List ℕ × ℕ)) × (ℕ × (ℕ × List ℕ)))
    (coded× (coded× coded_ℕ (coded× of_owners coded_ℕ)) (coded× coded_ℕ (coded× coded_ℕ of_owners)))
    (λ (d : Descriptor). ((d.index, (d.root_key, d.vendor)), (d.fabric_id, (d.node_id, d.label))))
    (λ t. record { index = t.0.0; root_key = t.0.1.0; vendor = t.0.1.1; fabric_id = t.1.0; node_id = t.1.1.0; label = t.1.1.1 })
    (λ _. refl)

abbrev pub of_fabrics : Coded (List Descriptor)
of_fabrics = coded_list of_descriptor

abbrev pub of_roots : Coded (List (List ℕ))
of_roots = coded_list of_owners

abbrev pub of_networks : Coded (List Network)
of_networks = coded_list networks.the_row.coded

abbrev pub of_failsafe : Coded (Option Armed)
of_failsafe = coded_option armed.the_row.coded

abbrev pub of_versions : Coded (List Version)
of_versions = coded_list versions.the_row.coded

abbrev pub of_changes : Coded (List ChangeNumber)
of_changes = coded_list changes.the_row.coded

abbrev pub of_happened : Coded (List Happened)
of_happened = coded_list happened.the_row.coded

-- Of an event that was left unanswered.

abbrev pub of_left : Coded Unanswered
of_left = code_by (Event × Bool) (coded× of_events coded_bool) (λ (u : Unanswered). (u.event, u.survived)) (λ t. record { event = t.0; survived = t.1 }) (λ _. refl)

abbrev pub of_unanswered : Coded (Option Unanswered)
of_unanswered = coded_option of_left

-- Of a fabric's own.

abbrev pub of_own_node : Coded Own
of_own_node = code_by ((List Row × (List AclEntry × List Fabric)) × (Option Credentials × (List NodeSession × Bool)))
    (coded× (coded× of_rows (coded× (coded_list entries.the_row.coded) (coded_list fabrics.the_row.coded))) (coded× (coded_option credentials.the_row.coded) (coded× (coded_list sessions.the_row.coded) coded_bool)))
    (λ (o : Own). ((o.rows, (o.entries, o.fabrics)), (o.saved, (o.sessions, o.is_plain))))
    (λ t. record { rows = t.0.0; entries = t.0.1.0; fabrics = t.0.1.1; saved = t.1.0; sessions = t.1.1.0; is_plain = t.1.1.1 })
    (λ _. refl)

abbrev pub of_own_whole : Coded OwnOfWhole
of_own_whole = code_by (Own × List PlainDeadline) (coded× of_own_node (coded_list deadlines.the_row.coded))
    (λ (o : OwnOfWhole). (o.node, o.deadlines)) (λ t. record { node = t.0; deadlines = t.1 }) (λ _. refl)

abbrev pub of_own_ledger : Coded OwnLedger
of_own_ledger = code_by (List Happened × (List Subscription × ℕ)) (coded× of_happened (coded× (coded_list subscriptions.the_row.coded) coded_ℕ))
    (λ (o : OwnLedger). (o.events, (o.subs, o.next))) (λ t. record { events = t.0; subs = t.1.0; next = t.1.1 }) (λ _. refl)

-- Of what is said over a session.

abbrev pub of_arrival : Coded Arrival
of_arrival = code_by (ℕ × (ProtocolHeader × List ℕ)) (coded× coded_ℕ (coded× headers.the_row.coded of_owners))
    (λ (a : Arrival). (a.counter, (a.header, a.payload))) (λ t. record { counter = t.0; header = t.1.0; payload = t.1.1 }) (λ _. refl)

abbrev pub of_message : Coded Message
of_message = code_by (ProtocolHeader × List ℕ) (coded× headers.the_row.coded of_owners) (λ (m : Message). (m.header, m.payload)) (λ t. record { header = t.0; payload = t.1 }) (λ _. refl)

abbrev pub of_outgoing : Coded Outgoing
of_outgoing = code_by (Message × Option ℕ) (coded× of_message (coded_option coded_ℕ)) (λ (o : Outgoing). (o.message, o.deadline)) (λ t. record { message = t.0; deadline = t.1 }) (λ _. refl)

-- what is shown is one of these four, or a drop, which is an arrival that is none
abbrev pub ShownAs : Type 0
ShownAs = (Option (Bool × Arrival)) ⊎ ((Outgoing × ℕ) ⊎ ((ℕ × (Outgoing × ℕ)) ⊎ ℕ))

abbrev pub as_shown : Shown → ShownAs
as_shown (heard live arrival) = inl (Some (live, arrival))
as_shown (sent message now) = inr (inl (message, now))
as_shown (told subscription message now) = inr (inr (inl (subscription, (message, now))))
as_shown (again now) = inr (inr (inr now))
as_shown closed = inl None

abbrev pub of_parts : ShownAs → Shown
of_parts (inl (Some t)) = heard t.0 t.1
of_parts (inl None) = closed
of_parts (inr (inl t)) = sent t.0 t.1
of_parts (inr (inr (inl t))) = told t.0 t.1.0 t.1.1
of_parts (inr (inr (inr now))) = again now

pub shown_again : (s : Shown) → of_parts (as_shown s) ≡ s
shown_again (heard live arrival) = refl
shown_again (sent message now) = refl
shown_again (told subscription message now) = refl
shown_again (again now) = refl
shown_again closed = refl

abbrev pub of_shown : Coded Shown
of_shown = code_by ShownAs (coded⊎ (coded_option (coded× coded_bool of_arrival)) (coded⊎ (coded× of_outgoing coded_ℕ) (coded⊎ (coded× coded_ℕ (coded× of_outgoing coded_ℕ)) coded_ℕ))) as_shown of_parts shown_again

abbrev pub of_exchanges : Coded (List Exchange)
of_exchanges = coded_list exchanges.the_row.coded

abbrev pub of_talk : Coded SessionTalk
of_talk = code_by (SessionRow × (List Shown × (List Exchange × (ℕ × Option Peer))))
    (coded× session_rows.the_row.coded (coded× (coded_list of_shown) (coded× of_exchanges (coded× coded_ℕ (coded_option peers.the_row.coded)))))
    (λ (t : SessionTalk). (t.row, (t.talk.shown, (t.talk.open_ones, (t.talk.next_id, t.talk.latest)))))
    (λ t. record { row = t.0; talk = record { shown = t.1.0; open_ones = t.1.1.0; next_id = t.1.1.1.0; latest = t.1.1.1.1 } })
    (λ _. refl)

abbrev pub of_own : Coded OwnPart
of_own = code_by (OwnOfWhole × (OwnLedger × List SessionTalk)) (coded× of_own_whole (coded× of_own_ledger (coded_list of_talk)))
    (λ (o : OwnPart). (o.whole, (o.ledger, o.talks))) (λ t. record { whole = t.0; ledger = t.1.0; talks = t.1.1 }) (λ _. refl)
