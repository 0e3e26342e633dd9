-- The state in which a new node begins.
use Rattle.std.specs.Prelude.{ℕ, ◌+◌, ◌-◌, ◌*◌, ◌%◌, ◌^◌, ◌==◌, List, [], ◌∷◌, Option, None, Some, filter, map}
use Rattle.std.specs.List.{find, flat_map}
use Rattle.mt_meta.specs.Stored.{first_rows}
use Rattle.mt_meta.specs.Table.{clusters_of, endpoints}
use Rattle.mt_model.specs.declared.limits.TheConstants.{VERSIONS_OF_BOOT}
use Rattle.mt_model.specs.declared.tables.access.AclEntry.{AclEntry}
use Rattle.mt_model.specs.declared.tables.access.Auth.{Auth}
use Rattle.mt_model.specs.declared.tables.access.Auth.TheVariants.{Pase}
use Rattle.mt_model.specs.declared.texts.config.Config.{Config}
use Rattle.mt_model.specs.declared.texts.config.SessionRow.{SessionRow}
use Rattle.mt_model.specs.declared.tables.fabric.Fabric.{Fabric}
use Rattle.mt_model.specs.declared.node.state.NodeSession.{NodeSession}
use Rattle.mt_model.specs.declared.node.state.Standing.{Standing}
use Rattle.mt_model.specs.declared.node.state.Standing.TheVariants.{Waits, Live}
use Rattle.mt_model.specs.declared.node.state.Version.{Version}
use Rattle.mt_model.specs.declared.node.state.NodeState.{NodeState}
use Rattle.mt_subs.specs.Changes.{unchanged}
use Rattle.mt_machine.specs.Effects.{with_root}
use Rattle.mt_machine.specs.State.{State}
use Rattle.mt_model.specs.texts.Config.{has_identity}

-- The version with which every cluster begins in a boot.
abbrev pub first_version : ℕ → ℕ
first_version boot = ((boot - 1) * VERSIONS_OF_BOOT + 1) % 2 ^ 32

abbrev pub version_row : ℕ → ℕ → ℕ → Version
version_row version endpoint cluster = record { endpoint = endpoint; cluster = cluster; version = version }

abbrev pub versions_of_endpoint : ℕ → ℕ → List Version
versions_of_endpoint version endpoint = map (version_row version endpoint) (clusters_of endpoint)

-- all clusters of all endpoints, each with the same version
abbrev pub versions_at : ℕ → List Version
versions_at version = flat_map (versions_of_endpoint version) endpoints

-- roots, and those of fabrics, each once
abbrev pub with_roots_of : List (List ℕ) → List Fabric → List (List ℕ)
with_roots_of roots [] = roots
with_roots_of roots (fabric ∷ fabrics) = with_roots_of (with_root roots fabric.credentials.root) fabrics

-- Sessions.

abbrev pub live_or_waits : Option Fabric → Standing
live_or_waits None = Waits
live_or_waits (Some fabric) = Live fabric.index

-- A session of PASE may be used at once. One of CASE may where its fabric is in the table.
abbrev pub standing_of : List Fabric → SessionRow → Auth → Standing
standing_of fabrics row Pase = Live 0
standing_of fabrics row auth = live_or_waits (find (has_identity row.root_key row.fabric_id) fabrics)

abbrev pub session_of : List Fabric → SessionRow → NodeSession
session_of fabrics row = record {
  session = row.session;
  auth = row.auth;
  root_key = row.root_key;
  fabric_id = row.fabric_id;
  peer_node = row.peer_node;
  cats = row.cats;
  standing = standing_of fabrics row row.auth;
}

-- those of a boot
abbrev pub sessions_of : ℕ → List Fabric → List SessionRow → List NodeSession
sessions_of boot fabrics rows = map (session_of fabrics) (filter (λ (row : SessionRow). row.boot == boot) rows)

-- A boot of a node that has these fabrics and access control entries, and all else as it first is.
abbrev pub opened_with : ℕ → List Fabric → List AclEntry → List SessionRow → NodeState
opened_with boot fabrics entries sessions = record {
  rows = first_rows;
  entries = entries;
  fabrics = fabrics;
  roots = with_roots_of [] fabrics;
  networks = [];
  armed = None;
  versions = versions_at (first_version boot);
  changes = unchanged;
  changed = 0;
  sessions = sessions_of boot fabrics sessions;
  plain = Some 0;
  boot = boot;
  clock = 0;
}

-- the first boot of a node with this configuration
abbrev pub opened : Config → NodeState
opened config = opened_with 1 config.fabrics config.entries config.sessions

-- the whole around it, in which nobody has a deadline
abbrev pub whole_with : ℕ → List Fabric → List AclEntry → List SessionRow → State
whole_with boot fabrics entries sessions = record { node = opened_with boot fabrics entries sessions; deadlines = [] }

abbrev pub opened_whole : Config → State
opened_whole config = whole_with 1 config.fabrics config.entries config.sessions

-- A boot of a node of which this was kept: rows, entries, fabrics, roots and networks stay, and all else begins anew.
abbrev pub begun_with : ℕ → List SessionRow → NodeState → NodeState
begun_with boot sessions kept = record kept {
  versions = versions_at (first_version boot);
  changes = unchanged;
  changed = 0;
  sessions = sessions_of boot kept.fabrics sessions;
  plain = Some 0;
  boot = boot;
  clock = 0;
}
