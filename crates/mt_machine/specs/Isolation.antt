-- What is a fabric's own, what is public to it, and the state that is built of these two and of nothing else.
use Rattle.std.specs.Prelude.{ℕ, ◌==◌, ◌&&◌, not, Bool, false, List, [], ◌++◌, Option, Some, None, filter, map, unwrap_or, if◌then◌else◌}
use Rattle.std.specs.List.{find}
use Rattle.std.specs.Option.{option_map}
use Rattle.mt_fabrics.specs.Table.{has_index}
use Rattle.mt_model.specs.Optional.{is_that}
use Rattle.mt_model.specs.rows.Seen.{own_entries}
use Rattle.mt_model.specs.rows.Sight.{seen_by}
use Rattle.mt_model.specs.tables.Known.{bare_armed, bare_network}
use Rattle.mt_model.specs.declared.tables.access.AclEntry.{AclEntry}
use Rattle.mt_model.specs.declared.tables.access.Auth.TheVariants.{Case}
use Rattle.mt_model.specs.declared.tables.access.Privilege.TheVariants as privileges
use Rattle.mt_model.specs.declared.node.action.PlainDeadline.{PlainDeadline}
use Rattle.mt_model.specs.declared.tables.fabric.Credentials.{Credentials}
use Rattle.mt_model.specs.declared.tables.fabric.Fabric.{Fabric}
use Rattle.mt_model.specs.declared.tables.network.Armed.{Armed}
use Rattle.mt_model.specs.declared.tables.network.Network.{Network}
use Rattle.mt_model.specs.declared.rows.place.Row.{Row}
use Rattle.mt_model.specs.declared.node.state.ChangeNumber.{ChangeNumber}
use Rattle.mt_model.specs.declared.node.state.NodeSession.{NodeSession}
use Rattle.mt_model.specs.declared.node.state.NodeState.{NodeState}
use Rattle.mt_model.specs.declared.node.state.Version.{Version}
use Rattle.mt_subs.specs.Changes.{newest_of}
use Rattle.mt_subs.specs.Leaving.{is_live_as}
use Rattle.mt_machine.specs.State.{State}

-- A fabric's own part.

-- a row of a fabric's own; a row of fabric 0 is nobody's
abbrev pub owns : ℕ → Row → Bool
owns fabric row = row.fabric == fabric && not (row.fabric == 0)

-- the credentials that the fabric had before it was updated under the fail-safe
abbrev pub saved_for : ℕ → Option Armed → Option Credentials
saved_for fabric None = None
saved_for fabric (Some armed) = if is_that fabric armed.updated then armed.saved_credentials else None

-- Its items of fabric-scoped lists, its access control entries, its credentials, those that an expiry gives back to it,
-- its live sessions, and whether the plain PASE session is its own.
pub record Own : Type 0 where
  pub rows : List Row
  pub entries : List AclEntry
  pub fabrics : List Fabric
  pub saved : Option Credentials
  pub sessions : List NodeSession
  pub is_plain : Bool

abbrev pub own : ℕ → NodeState → Own
own fabric s = record {
  rows = filter (owns fabric) s.rows;
  entries = own_entries fabric s.entries;
  fabrics = filter (has_index fabric) s.fabrics;
  saved = saved_for fabric s.armed;
  sessions = filter (λ (session : NodeSession). is_live_as fabric session.standing) s.sessions;
  is_plain = is_that fabric s.plain;
}

-- What is public to a fabric.

-- what others may know of a fabric
pub record Descriptor : Type 0 where
  pub index : ℕ
  pub root_key : List ℕ
  pub vendor : ℕ
  pub fabric_id : ℕ
  pub node_id : ℕ
  pub label : List ℕ

abbrev pub descriptor_of : Fabric → Descriptor
descriptor_of f = record {
  index = f.index;
  root_key = f.credentials.root_key;
  vendor = f.vendor;
  fabric_id = f.credentials.fabric_id;
  node_id = f.credentials.node_id;
  label = f.label;
}

-- The rows of nobody, and of others as it sees them; whose the others' access control entries are; who the
-- fabrics are; roots, networks without secrets, the fail-safe without saved values; data versions and change
-- numbers; boot and clock.
pub record PublicView : Type 0 where
  pub rows : List Row
  pub owners : List ℕ
  pub fabrics : List Descriptor
  pub roots : List (List ℕ)
  pub networks : List Network
  pub armed : Option Armed
  pub versions : List Version
  pub changes : List ChangeNumber
  pub boot : ℕ
  pub clock : ℕ

abbrev pub public_view : ℕ → NodeState → PublicView
public_view fabric s = record {
  rows = map (seen_by fabric) (filter (λ (row : Row). not (owns fabric row)) s.rows);
  owners = map (λ (entry : AclEntry). entry.fabric) (filter (λ (entry : AclEntry). not (entry.fabric == fabric)) s.entries);
  fabrics = map descriptor_of s.fabrics;
  roots = s.roots;
  networks = map bare_network s.networks;
  armed = option_map bare_armed s.armed;
  versions = s.versions;
  changes = s.changes;
  boot = s.boot;
  clock = s.clock;
}

-- The veil: a state that is built of a fabric's own part and of what is public to it, and of nothing else.

-- what is known of another's entry: whose it is
abbrev pub bare_entry : ℕ → AclEntry
bare_entry fabric = record { privilege = privileges.View; auth = Case; subjects = []; targets = []; fabric = fabric }

-- what is known of another fabric
abbrev pub bare_fabric : Descriptor → Fabric
bare_fabric d = record {
  index = d.index;
  credentials = record { root = []; root_key = d.root_key; fabric_id = d.fabric_id; node_id = d.node_id; noc = []; icac = []; ipk = [] };
  vendor = d.vendor;
  label = d.label;
}

-- a fabric with all that is its own, where it is among these
abbrev pub own_or_bare : List Fabric → Descriptor → Fabric
own_or_bare mine d = unwrap_or (find (has_index d.index) mine) (bare_fabric d)

-- the fail-safe with the fabric's own saved credentials; those of others are empty
abbrev pub with_saved : Option Credentials → Armed → Armed
with_saved saved armed = record armed { saved_credentials = saved }

abbrev pub veil_of : ℕ → Own → PublicView → NodeState
veil_of fabric o p = record {
  rows = o.rows ++ p.rows;
  entries = o.entries ++ map bare_entry p.owners;
  fabrics = map (own_or_bare o.fabrics) p.fabrics;
  roots = p.roots;
  networks = p.networks;
  armed = option_map (with_saved o.saved) p.armed;
  versions = p.versions;
  changes = p.changes;
  changed = newest_of p.changes;
  sessions = o.sessions;
  plain = if o.is_plain then Some fabric else None;
  boot = p.boot;
  clock = p.clock;
}

abbrev pub veil : ℕ → NodeState → NodeState
veil fabric s = veil_of fabric (own fabric s) (public_view fabric s)

-- The same of the whole: the deadlines of a fabric's plain actors are its own, and nothing more is public.

abbrev pub is_deadline_in : ℕ → PlainDeadline → Bool
is_deadline_in fabric deadline = deadline.fabric == fabric

pub record OwnOfWhole : Type 0 where
  pub node : Own
  pub deadlines : List PlainDeadline

abbrev pub own_of_whole : ℕ → State → OwnOfWhole
own_of_whole fabric s = record { node = own fabric s.node; deadlines = filter (is_deadline_in fabric) s.deadlines }

abbrev pub whole_of : ℕ → OwnOfWhole → PublicView → State
whole_of fabric o p = record { node = veil_of fabric o.node p; deadlines = o.deadlines }

abbrev pub veil_of_whole : ℕ → State → State
veil_of_whole fabric s = whole_of fabric (own_of_whole fabric s) (public_view fabric s.node)
