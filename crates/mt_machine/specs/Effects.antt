-- What a step makes of the state. A step that the fail-safe, the fabric table or the limit on networks refuses makes nothing of it.
use Rattle.std.specs.Prelude.{ℕ, ◌==◌, ◌&&◌, nat_le, not, Bool, true, false, List, [], ◌∷◌, ◌++◌, Option, Some, None, is_none, bytes_eq, drop, filter, length, map, take, if◌then◌else◌}
use Rattle.std.specs.List.{list_all, list_any}
use Rattle.std.specs.Option.{option_map}
use Rattle.mt_commission.specs.NetworkCommissioning.{has_id}
use Rattle.mt_fabrics.specs.Table.{add_refusal, added, credentials_at, is_used, label_refusal, labelled, least_unused, removed, update_refusal, updated}
use Rattle.mt_failsafe.specs.Calls.{armed_by, is_armed_by, is_context, renewed}
use Rattle.mt_failsafe.specs.Notes as notes
use Rattle.mt_model.specs.Optional.{is_that}
use Rattle.mt_model.specs.rows.Setting.{is_entry_of, with_entries, with_rows}
use Rattle.mt_model.specs.rows.Stored.{is_stored_place}
use Rattle.mt_model.specs.tables.Leaving.{stays}
use Rattle.mt_model.specs.declared.limits.TheConstants.{NETWORKS, NETWORK_ID_BYTES, NETWORK_SECRET_BYTES, NONCE_BYTES}
use Rattle.mt_model.specs.texts.Config.{are_credentials, has_identity, has_up_to, is_certificate, is_fabric, is_label}
use Rattle.mt_model.specs.texts.Config as config
use Rattle.mt_model.specs.declared.tables.access.AclEntry.{AclEntry}
use Rattle.mt_model.specs.declared.tables.access.Actor.{Actor}
use Rattle.mt_model.specs.declared.tables.access.Auth.{Auth}
use Rattle.mt_model.specs.declared.tables.access.Auth.TheVariants.{Pase}
use Rattle.mt_model.specs.declared.tables.fabric.Credentials.{Credentials}
use Rattle.mt_model.specs.declared.tables.fabric.Fabric.{Fabric}
use Rattle.mt_model.specs.declared.node.action.NodeStep.{NodeStep}
use Rattle.mt_model.specs.declared.node.action.NodeStep.TheVariants.{SetRow, SetEntries, PutNetwork, RemoveNetwork, ConnectNetwork, MoveNetwork, Arm, Renew, Expire, Complete, AddRoot, Csr, AddFabric, UpdateFabric, RemoveFabric, Label, Emit}
use Rattle.mt_model.specs.declared.tables.network.Armed.{Armed}
use Rattle.mt_model.specs.declared.tables.network.Network.{Network}
use Rattle.mt_model.specs.declared.rows.place.Row.{Row}
use Rattle.mt_model.specs.declared.node.state.NodeSession.{NodeSession}
use Rattle.mt_model.specs.declared.node.state.NodeState.{NodeState}
use Rattle.mt_model.specs.declared.node.state.Standing.{Standing}
use Rattle.mt_model.specs.declared.node.state.Standing.TheVariants.{Waits, Live, Ended}
use Rattle.mt_subs.specs.Leaving.{is_live_as}
use Rattle.mt_machine.specs.Rollback.{rollback, roots_behind}
use Rattle.mt_machine.specs.State as states

-- Networks.

abbrev pub with_secret : List ℕ → List ℕ → Network → Network
with_secret id secret network = if has_id id network then record network { secret = secret } else network

-- a new network stands last, where there is room
abbrev pub with_new : List ℕ → List ℕ → List Network → List Network
with_new id secret networks = if nat_le NETWORKS (length networks) then networks else networks ++ record { id = id; secret = secret; connected = false } ∷ []

-- a network that is there keeps its place and whether it is connected
abbrev pub with_network : List ℕ → List ℕ → List Network → List Network
with_network id secret networks = if list_any (has_id id) networks then map (with_secret id secret) networks else with_new id secret networks

abbrev pub others_than : List ℕ → List Network → List Network
others_than id networks = filter (λ (network : Network). not (has_id id network)) networks

-- it alone is connected
abbrev pub connected_to : List ℕ → Network → Network
connected_to id network = record network { connected = has_id id network }

abbrev pub moved_to : List ℕ → ℕ → List Network → List Network
moved_to id index networks = take index (others_than id networks) ++ (filter (has_id id) networks ++ drop index (others_than id networks))

-- The fail-safe.

-- Armed at this time, where nobody has armed it. The networks as they stand are saved.
abbrev pub armed_behind : ℕ → ℕ → ℕ → List Network → Option Armed → Option Armed
armed_behind owner now seconds networks None = Some (armed_by owner now seconds networks)
armed_behind owner now seconds networks (Some armed) = Some armed

-- Commissioning is complete: sessions of PASE that have the fabric for which it went on end, and roots that no fabric uses go.

abbrev pub standing_completed : ℕ → Auth → Standing → Standing
standing_completed context Pase (Live fabric) = if fabric == context then Ended else Live fabric
standing_completed context auth standing = standing

abbrev pub session_completed : ℕ → NodeSession → NodeSession
session_completed context session = record session { standing = standing_completed context session.auth session.standing }

-- the plain PASE session, which ends where it has this fabric
abbrev pub plain_without : ℕ → Option ℕ → Option ℕ
plain_without fabric None = None
plain_without fabric (Some other) = if other == fabric then None else Some other

abbrev pub completed : Option Armed → NodeState → NodeState
completed None s = s
completed (Some armed) s = record s {
  roots = roots_behind s.fabrics s.roots;
  armed = None;
  sessions = map (session_completed armed.context) s.sessions;
  plain = plain_without armed.context s.plain;
}

-- Root certificates and signing requests.

-- roots with one more, unless it is there
abbrev pub with_root : List (List ℕ) → List ℕ → List (List ℕ)
with_root roots root = if list_any (bytes_eq root) roots then roots else roots ++ root ∷ []

abbrev pub trusting : List ℕ → NodeState → NodeState
trusting cert s = if notes.may_note_root s.armed then record s { roots = with_root s.roots cert; armed = option_map (notes.with_root cert) s.armed } else s

abbrev pub with_request : List ℕ → Bool → NodeState → NodeState
with_request nonce update s = if notes.may_note_csr update s.armed then record s { armed = option_map (notes.with_csr nonce update) s.armed } else s

-- A fabric that joins the table.

abbrev pub is_pase : Option Actor → Bool
is_pase None = false
is_pase (Some asker) = config.is_pase asker.auth

-- whether it was asked on this session
abbrev pub is_on : Option Actor → NodeSession → Bool
is_on None session = false
is_on (Some asker) session = is_that session.session asker.session

-- The session of PASE on which it was asked has the fabric from now on; one that waited for the fabric may be used.
abbrev pub standing_joined : Bool → ℕ → Bool → Auth → Standing → Standing
standing_joined asks index fits auth Waits = if fits then Live index else Waits
standing_joined asks index fits Pase (Live fabric) = if asks then Live index else Live fabric
standing_joined asks index fits auth (Live fabric) = Live fabric
standing_joined asks index fits auth Ended = Ended

abbrev pub session_joined : Option Actor → ℕ → Fabric → NodeSession → NodeSession
session_joined asker index fabric session = record session { standing = standing_joined (is_on asker session) index (has_identity session.root_key session.fabric_id fabric) session.auth session.standing }

-- so does the plain session of PASE, where it was asked on that
abbrev pub is_plain : Option Actor → Bool
is_plain None = false
is_plain (Some asker) = is_pase (Some asker) && is_none asker.session

abbrev pub plain_joined : Option Actor → ℕ → Option ℕ → Option ℕ
plain_joined asker index plain = if is_plain asker then option_map (λ (fabric : ℕ). index) plain else plain

abbrev pub may_join : Fabric → NodeState → Bool
may_join fabric s = notes.may_note_added s.armed && is_none (add_refusal fabric s.fabrics)

abbrev pub joined_as : Option Actor → ℕ → Fabric → NodeState → NodeState
joined_as asker index fabric s = record s {
  fabrics = added fabric s.fabrics;
  armed = option_map (notes.with_added index (is_pase asker)) s.armed;
  sessions = map (session_joined asker index fabric) s.sessions;
  plain = plain_joined asker index s.plain;
}

abbrev pub joined : Option Actor → Fabric → NodeState → NodeState
joined asker fabric s = if may_join fabric s then joined_as asker (least_unused s.fabrics) fabric s else s

-- A fabric that gets new credentials. They keep its root and its identity.

abbrev pub is_renewed_by : ℕ → Credentials → Fabric → Bool
is_renewed_by index given fabric = fabric.index == index && (bytes_eq fabric.credentials.root given.root && has_identity given.root_key given.fabric_id fabric)

abbrev pub may_update : ℕ → Credentials → NodeState → Bool
may_update index given s = notes.may_note_updated s.armed && (is_armed_by index s.armed && (list_any (is_renewed_by index given) s.fabrics && is_none (update_refusal index given s.fabrics)))

abbrev pub with_saved_credentials : Option Credentials → Armed → Armed
with_saved_credentials None armed = armed
with_saved_credentials (Some old) armed = notes.with_updated old armed

abbrev pub updated_in : ℕ → Credentials → NodeState → NodeState
updated_in index given s = if may_update index given s then record s {
  fabrics = updated index given s.fabrics;
  armed = option_map (with_saved_credentials (credentials_at index s.fabrics)) s.armed;
} else s

-- A fabric that leaves the table, with all that is its own: its rows, its entries, its sessions. Its root goes unless another fabric
-- or commissioning uses it. That for which commissioning goes on leaves by an expiry alone.

abbrev pub may_leave : ℕ → NodeState → Bool
may_leave index s = is_used index s.fabrics && not (is_context index s.armed)

abbrev pub session_without : ℕ → NodeSession → NodeSession
session_without index session = if is_live_as index session.standing then record session { standing = Ended } else session

abbrev pub without_fabric : ℕ → NodeState → NodeState
without_fabric index s = if may_leave index s then record s {
  rows = filter (λ (row : Row). stays (Some index) row.fabric) s.rows;
  entries = filter (λ (entry : AclEntry). stays (Some index) entry.fabric) s.entries;
  fabrics = removed index s.fabrics;
  roots = filter (states.is_used (removed index s.fabrics) s.armed) s.roots;
  sessions = map (session_without index) s.sessions;
  plain = plain_without index s.plain;
} else s

-- A fabric's label.
abbrev pub labelled_in : ℕ → List ℕ → NodeState → NodeState
labelled_in index label s = if is_none (label_refusal index label s.fabrics) then record s { fabrics = labelled index label s.fabrics } else s

-- The state behind a step, where this actor is taken as asking.
abbrev pub after : Option Actor → NodeStep → NodeState → NodeState
after asker (SetRow place fabric values) s = record s { rows = with_rows place fabric values s.rows }
after asker (SetEntries fabric entries) s = record s { entries = with_entries fabric entries s.entries }
after asker (PutNetwork id secret) s = record s { networks = with_network id secret s.networks }
after asker (RemoveNetwork id) s = record s { networks = others_than id s.networks }
after asker (ConnectNetwork id) s = record s { networks = map (connected_to id) s.networks }
after asker (MoveNetwork id index) s = record s { networks = moved_to id index s.networks }
after asker (Arm owner seconds) s = record s { armed = armed_behind owner s.clock seconds s.networks s.armed }
after asker (Renew seconds) s = record s { armed = option_map (renewed s.clock seconds) s.armed }
after asker Expire s = rollback s
after asker Complete s = completed s.armed s
after asker (AddRoot cert) s = trusting cert s
after asker (Csr nonce update) s = with_request nonce update s
after asker (AddFabric fabric) s = joined asker fabric s
after asker (UpdateFabric index credentials) s = updated_in index credentials s
after asker (RemoveFabric index) s = without_fabric index s
after asker (Label index label) s = labelled_in index label s
after asker (Emit place priority fabric value) s = s  -- events are remembered beside the state

-- one step after the other
abbrev pub after_all : Option Actor → List NodeStep → NodeState → NodeState
after_all asker [] s = s
after_all asker (step ∷ steps) s = after_all asker steps (after asker step s)

-- What steps tell of: events, which change nothing that is kept.

abbrev pub is_event : NodeStep → Bool
is_event (Emit place priority fabric value) = true
is_event step = false

-- the events among steps, in their order
abbrev pub events_in : List NodeStep → List NodeStep
events_in steps = filter is_event steps

-- a step that sets rows of a stored place, or entries of the fabric that it names, or tells of an event
abbrev pub is_setting_step : NodeStep → Bool
is_setting_step (SetRow place fabric values) = is_stored_place place
is_setting_step (SetEntries fabric entries) = list_all (is_entry_of fabric) entries
is_setting_step (Emit place priority fabric value) = true
is_setting_step step = false

-- a step that sets rows or entries, or tells of an event, whatever they are
abbrev pub sets_values : NodeStep → Bool
sets_values (SetRow place fabric values) = true
sets_values (SetEntries fabric entries) = true
sets_values (Emit place priority fabric value) = true
sets_values step = false

-- A step on networks, the fail-safe or the fabric table, whose values have their form.
abbrev pub is_sound_step : NodeStep → Bool
is_sound_step (SetRow place fabric values) = false
is_sound_step (SetEntries fabric entries) = false
is_sound_step (PutNetwork id secret) = has_up_to NETWORK_ID_BYTES id && nat_le (length secret) NETWORK_SECRET_BYTES
is_sound_step (AddFabric fabric) = is_fabric fabric
is_sound_step (UpdateFabric index credentials) = are_credentials credentials
is_sound_step (AddRoot cert) = is_certificate cert
is_sound_step (Csr nonce update) = length nonce == NONCE_BYTES
is_sound_step (Label index label) = is_label label
is_sound_step step = true
