-- The state of the node and of the whole around it, and what holds of every state.
use Rattle.std.specs.Prelude.{◌≡◌, ℕ, ◌-◌, ◌^◌, ◌==◌, ◌&&◌, ◌||◌, not, nat_le, is_ok, Bool, true, false, List, Option, Some, None, Result, Ok, Err, bytes_eq, count_by, filter, length, map, if◌then◌else◌}
use Rattle.std.specs.List.{flat_map, list_all, list_any}
use Rattle.mt_fabrics.specs.Table.{has_index_up_to}
use Rattle.mt_fabrics.specs.Table as table
use Rattle.mt_failsafe.specs.Facts.{is_added_to, is_updated_in}
use Rattle.mt_failsafe.specs.Notes.{was_added}
use Rattle.mt_meta.specs.Finding.{find_data_of, find_of}
use Rattle.mt_meta.specs.Forms.{has_form}
use Rattle.mt_meta.specs.Places.{all_places}
use Rattle.mt_meta.specs.Stored.{is_stored}
use Rattle.mt_meta.specs.Table.{clusters_of, endpoints}
use Rattle.mt_meta.specs.declared.meta.Meta.{Meta}
use Rattle.mt_model.specs.texts.Config.{ascend_from, has_identity, have_one_identity, have_one_label, is_certificate, is_entry, is_fabric, is_of, none_alike}
use Rattle.mt_model.specs.rows.Order.{are_ascending, fabrics_ascend}
use Rattle.mt_model.specs.rows.Setting.{is_at}
use Rattle.mt_model.specs.rows.Sight.{stands_at}
use Rattle.mt_model.specs.tables.Holding.{have_one_id, is_network, is_owned, is_root_of, saves_identity}
use Rattle.mt_model.specs.declared.tables.access.AclEntry.{AclEntry}
use Rattle.mt_model.specs.declared.tables.access.Auth.{Auth}
use Rattle.mt_model.specs.declared.tables.access.Auth.TheVariants.{Pase}
use Rattle.mt_model.specs.declared.node.action.PlainDeadline.{PlainDeadline}
use Rattle.mt_model.specs.declared.tables.fabric.Fabric.{Fabric}
use Rattle.mt_model.specs.declared.tables.network.Armed.{Armed}
use Rattle.mt_model.specs.declared.tables.network.Network.{Network}
use Rattle.mt_model.specs.declared.rows.place.Place.{Place}
use Rattle.mt_model.specs.declared.rows.place.Row.{Row}
use Rattle.mt_model.specs.declared.node.state.ChangeNumber.{ChangeNumber}
use Rattle.mt_model.specs.declared.node.state.NodeSession.{NodeSession}
use Rattle.mt_model.specs.declared.node.state.NodeState.{NodeState}
use Rattle.mt_model.specs.declared.node.state.Standing.{Standing}
use Rattle.mt_model.specs.declared.node.state.Standing.TheVariants.{Waits, Live, Ended}
use Rattle.mt_model.specs.declared.node.state.Version.{Version}
use Rattle.mt_model.specs.declared.limits.TheConstants.{ENTRIES, FABRICS, NETWORKS, NONCE_BYTES}
use Rattle.mt_model.specs.declared.messages.status.Status.{Status}
use Rattle.mt_opcreds.specs.Laws.{are_credentials_if}
use Rattle.mt_subs.specs.Changes as changes_of
use Rattle.mt_subs.specs.Changes.{IsChanges, newest_of}
use Rattle.mt_apps.specs.Computed.{computed_rows}
use Rattle.mt_apps.specs.Parts.{Parts}

-- The whole: the node, and until when the next requests of plain actors must come.
pub record State : Type 0 where
  pub node : NodeState
  pub deadlines : List PlainDeadline

-- The rows of a place, which are stored or computed.

abbrev pub parts : NodeState → Parts
parts s = record { entries = s.entries; fabrics = s.fabrics; roots = s.roots; networks = s.networks }

abbrev pub rows_of : NodeState → Place → List Row
rows_of s place = if is_stored place then filter (stands_at place) s.rows else computed_rows (parts s) place

-- Fabrics of the table.

abbrev pub is_among : List Fabric → ℕ → Bool
is_among fabrics index = table.is_used index fabrics

abbrev pub is_member : ℕ → NodeState → Bool
is_member fabric s = is_among s.fabrics fabric

-- What holds of a state's parts.

abbrev pub has_entries_up_to : ℕ → List AclEntry → Fabric → Bool
has_entries_up_to most entries fabric = nat_le (count_by (is_of fabric) entries) most

-- a row of a scoped list is of a fabric of the table, any other of none
abbrev pub is_row_of : List Fabric → Bool → ℕ → Bool
is_row_of fabrics scoped fabric = if scoped then is_among fabrics fabric else fabric == 0

abbrev pub is_row_at : List Fabric → Row → Result Meta Status → Bool
is_row_at fabrics row (Ok meta) = has_form meta row.fabric row.value && is_row_of fabrics meta.scoped row.fabric
is_row_at fabrics row (Err status) = false

-- a row stands at a stored place of the table, with a value of its form within its limits
abbrev pub is_row : List Fabric → Row → Bool
is_row fabrics row = is_stored row.place && is_row_at fabrics row (find_data_of row.place)

abbrev pub is_unscoped : Result Meta Status → Bool
is_unscoped (Ok meta) = not meta.scoped
is_unscoped (Err status) = false

-- the stored places that have one row
abbrev pub has_one_row : Place → Bool
has_one_row place = is_stored place && is_unscoped (find_data_of place)

abbrev pub stands_once : List Row → Place → Bool
stands_once rows place = count_by (stands_at place) rows == 1

-- of a scoped list a fabric has no more items than it may
abbrev pub ItemsAreFew : List Row → Type 0
ItemsAreFew rows = (place : Place) (meta : Meta) (fabric : ℕ) → find_data_of place ≡ Ok meta → meta.scoped ≡ true → nat_le (count_by (is_at place fabric) rows) meta.limit ≡ true

-- the root certificate that was given under the fail-safe
abbrev pub is_given_root : List ℕ → Option (List ℕ) → Bool
is_given_root root None = false
is_given_root root (Some given) = bytes_eq given root

abbrev pub is_awaited_root : List ℕ → Option Armed → Bool
is_awaited_root root None = false
is_awaited_root root (Some armed) = is_given_root root armed.root

-- a fabric uses a root, or commissioning does
abbrev pub is_used : List Fabric → Option Armed → List ℕ → Bool
is_used fabrics armed root = list_any (is_root_of root) fabrics || is_awaited_root root armed

-- A session that is live over CASE has the identity of its fabric, which is in the table, and the identity of one that
-- waits is in no table. Over PASE a session has no fabric, or one of the table.
abbrev pub stands_rightly : List Fabric → NodeSession → Auth → Standing → Bool
stands_rightly fabrics session Pase (Live fabric) = fabric == 0 || is_among fabrics fabric
stands_rightly fabrics session Pase Waits = false
stands_rightly fabrics session auth (Live fabric) = list_any (λ (f : Fabric). f.index == fabric && has_identity session.root_key session.fabric_id f) fabrics
stands_rightly fabrics session auth Waits = not (list_any (has_identity session.root_key session.fabric_id) fabrics)
stands_rightly fabrics session auth Ended = true

abbrev pub is_session : List Fabric → NodeSession → Bool
is_session fabrics session = stands_rightly fabrics session session.auth session.standing

-- the plain PASE session has no fabric, or one of the table
abbrev pub is_plain_of : List Fabric → Option ℕ → Bool
is_plain_of fabrics None = true
is_plain_of fabrics (Some fabric) = fabric == 0 || is_among fabrics fabric

-- Versions: of each cluster on each endpoint one, in their order.

abbrev pub instance_of : Version → ℕ × ℕ
instance_of version = (version.endpoint, version.cluster)

abbrev pub instances_on : ℕ → List (ℕ × ℕ)
instances_on endpoint = map (λ (cluster : ℕ). (endpoint, cluster)) (clusters_of endpoint)

abbrev pub instances : List (ℕ × ℕ)
instances = flat_map instances_on endpoints

-- Change numbers: of each attribute one.

abbrev pub is_change_up_to : ℕ → ChangeNumber → Bool
is_change_up_to changed change = nat_le change.number changed

abbrev pub is_of_attribute : ChangeNumber → Bool
is_of_attribute change = is_ok (find_of change.place)

abbrev pub has_change : List ChangeNumber → Place → Bool
has_change changes place = changes_of.is_among place changes

-- The fail-safe's facts, with this table: what was added is there, and credentials are saved with the identity of the fabric that
-- was updated, which is there.

abbrev pub is_added : List Fabric → Armed → Option ℕ → Bool
is_added fabrics armed added = is_added_to (is_among fabrics) armed added

abbrev pub is_updated : List Fabric → Armed → Option ℕ → Option ℕ → Bool
is_updated fabrics armed added updated = is_updated_in (saves_identity fabrics) armed added updated

abbrev pub keeps_facts : List Fabric → Option Armed → Bool
keeps_facts fabrics None = true
keeps_facts fabrics (Some armed) = is_added fabrics armed armed.added && is_updated fabrics armed armed.added armed.updated

-- Whom the fail-safe names: its owner has no fabric or had one, and the fabric for which commissioning goes on is none or of the table.
abbrev pub names_rightly : List Fabric → Option Armed → Bool
names_rightly fabrics None = true
names_rightly fabrics (Some armed) = nat_le armed.owner FABRICS && (armed.context == 0 || is_among fabrics armed.context)

-- What is saved under the fail-safe is such as a state has it: networks, whose ids differ; credentials of their form. So is what commissioning
-- was given: a root certificate, and the nonce of a signing request.

abbrev pub are_networks : List Network → Bool
are_networks networks = nat_le (length networks) NETWORKS && (list_all is_network networks && none_alike have_one_id networks)

abbrev pub saves_rightly : Option Armed → Bool
saves_rightly None = true
saves_rightly (Some armed) = are_networks armed.saved_networks && are_credentials_if armed.saved_credentials

abbrev pub is_certificate_if : Option (List ℕ) → Bool
is_certificate_if None = true
is_certificate_if (Some given) = is_certificate given

abbrev pub is_nonce_if : Option (List ℕ × Bool) → Bool
is_nonce_if None = true
is_nonce_if (Some csr) = length csr.0 == NONCE_BYTES

abbrev pub was_given_rightly : Option Armed → Bool
was_given_rightly None = true
was_given_rightly (Some armed) = is_certificate_if armed.root && is_nonce_if armed.csr

-- A live session of PASE has no fabric, or the one that was added under the fail-safe.

abbrev pub follows : Option Armed → Auth → Standing → Bool
follows armed Pase (Live fabric) = fabric == 0 || was_added fabric armed
follows armed auth standing = true

abbrev pub plain_follows : Option Armed → Option ℕ → Bool
plain_follows armed None = true
plain_follows armed (Some fabric) = fabric == 0 || was_added fabric armed

-- What holds of every state of the node.
pub record IsValid (s : NodeState) : Type 0 where
  -- no more fabrics than there may be, whose indexes rise from 1 or more on to the same number
  pub fabric_count : nat_le (length s.fabrics) FABRICS ≡ true
  pub fabrics_rise : fabrics_ascend s.fabrics ≡ true
  pub indexes : list_all (has_index_up_to FABRICS) s.fabrics ≡ true
  -- lengths of certificates and keys, operational node ids, labels that are text, numbers of their widths
  pub fabric_forms : list_all is_fabric s.fabrics ≡ true
  pub identities_differ : none_alike have_one_identity s.fabrics ≡ true
  pub labels_differ : none_alike have_one_label s.fabrics ≡ true
  -- entries stand by ascending fabric from 1 on, are valid, of fabrics of the table, and no more of each than it may have
  pub entries_rise : ascend_from 1 s.entries ≡ true
  pub entry_forms : list_all is_entry s.entries ≡ true
  pub entries_owned : list_all (is_owned s.fabrics) s.entries ≡ true
  pub entry_counts : list_all (has_entries_up_to ENTRIES s.entries) s.fabrics ≡ true
  -- rows stand by place and fabric, each with a value of its form, one at each place that is not scoped, and of each fabric no more than it
  -- may have
  pub rows_rise : are_ascending s.rows ≡ true
  pub row_forms : list_all (is_row s.fabrics) s.rows ≡ true
  pub rows_stand : list_all (stands_once s.rows) (filter has_one_row all_places) ≡ true
  pub row_counts : ItemsAreFew s.rows
  -- each root once, with its length, and used
  pub roots_differ : none_alike bytes_eq s.roots ≡ true
  pub root_forms : list_all is_certificate s.roots ≡ true
  pub roots_used : list_all (is_used s.fabrics s.armed) s.roots ≡ true
  -- no more networks than there may be, whose ids differ
  pub network_count : nat_le (length s.networks) NETWORKS ≡ true
  pub network_forms : list_all is_network s.networks ≡ true
  pub network_ids_differ : none_alike have_one_id s.networks ≡ true
  pub sessions_stand : list_all (is_session s.fabrics) s.sessions ≡ true
  pub plain_stands : is_plain_of s.fabrics s.plain ≡ true
  -- each cluster on each endpoint has one version
  pub versions_stand : map instance_of s.versions ≡ instances
  -- no attribute changed later than the latest change, whose number has 64 bits and is the count of changes
  pub count_fits : nat_le s.changed (2 ^ 64 - 1) ≡ true
  pub changes_counted : list_all (is_change_up_to s.changed) s.changes ≡ true
  pub newest_counts : newest_of s.changes ≡ s.changed
  -- the newest change first, and each attribute once
  pub changes_stand : IsChanges s.changes
  pub changes_of_all : list_all (has_change s.changes) all_places ≡ true
  pub changes_of_attributes : list_all is_of_attribute s.changes ≡ true
  -- the fail-safe
  pub failsafe_facts : keeps_facts s.fabrics s.armed ≡ true
  pub failsafe_names : names_rightly s.fabrics s.armed ≡ true
  pub saved_stand : saves_rightly s.armed ≡ true
  pub given_stand : was_given_rightly s.armed ≡ true
  -- sessions of PASE have no fabric, or the one that was added
  pub sessions_follow : list_all (λ (session : NodeSession). follows s.armed session.auth session.standing) s.sessions ≡ true
  pub plain_follow : plain_follows s.armed s.plain ≡ true
  -- there is room for the boots to come
  pub boot_fits : nat_le s.boot (2 ^ 31) ≡ true
