-- What an expiry of the fail-safe takes back (Matter Core Specification, chapter 11, General Commissioning Cluster): it filters the state
-- as it stands then, and is no copy of an earlier one. All that it does not name stays.
use Rattle.std.specs.Prelude.{ℕ, ◌==◌, ◌&&◌, ◌||◌, nat_le, is_some, Bool, true, false, List, [], ◌∷◌, Option, Some, None, filter, map, if◌then◌else◌}
use Rattle.std.specs.List.{list_any}
use Rattle.mt_tlv.specs.declared.value.Value.TheVariants as values
use Rattle.mt_model.specs.rows.Setting.{with_rows}
use Rattle.mt_model.specs.tables.Leaving.{stays}
use Rattle.mt_model.specs.declared.node.action.PlainDeadline.{PlainDeadline}
use Rattle.mt_model.specs.declared.node.state.NodeSession.{NodeSession}
use Rattle.mt_model.specs.declared.node.state.NodeState.{NodeState}
use Rattle.mt_model.specs.declared.node.state.Standing.{Standing}
use Rattle.mt_model.specs.declared.node.state.Standing.TheVariants.{Waits, Live, Ended}
use Rattle.mt_model.specs.declared.rows.place.Place.{Place}
use Rattle.mt_model.specs.declared.rows.place.Row.{Row}
use Rattle.mt_model.specs.declared.tables.access.AclEntry.{AclEntry}
use Rattle.mt_model.specs.declared.tables.access.Auth.{Auth}
use Rattle.mt_model.specs.declared.tables.access.Auth.TheVariants.{Pase}
use Rattle.mt_model.specs.declared.tables.fabric.Credentials.{Credentials}
use Rattle.mt_model.specs.declared.tables.fabric.Fabric.{Fabric}
use Rattle.mt_model.specs.declared.tables.network.Armed.{Armed}
use Rattle.mt_model.specs.tables.Holding.{is_root_of}

-- The fabric that was updated has the credentials that it had; its label and its vendor stay as they are now.
abbrev pub given_back : Option ℕ → Option Credentials → Fabric → Fabric
given_back None saved fabric = fabric
given_back (Some updated) None fabric = fabric
given_back (Some updated) (Some saved) fabric = if fabric.index == updated then record fabric { credentials = saved } else fabric

abbrev pub fabrics_behind : Armed → List Fabric → List Fabric
fabrics_behind armed fabrics = map (given_back armed.updated armed.saved_credentials) (filter (λ (fabric : Fabric). stays armed.added fabric.index) fabrics)

-- All sessions of PASE end; those of CASE of the fabric for which commissioning went on end where it was added or updated.
abbrev pub ends : Armed → Auth → Standing → Bool
ends armed Pase standing = true
ends armed auth Waits = false
ends armed auth (Live fabric) = fabric == armed.context && (is_some armed.added || is_some armed.updated)
ends armed auth Ended = false

abbrev pub session_behind : Armed → NodeSession → NodeSession
session_behind armed session = if ends armed session.auth session.standing then record session { standing = Ended } else session

-- roots that no fabric uses go
abbrev pub roots_behind : List Fabric → List (List ℕ) → List (List ℕ)
roots_behind fabrics roots = filter (λ (root : List ℕ). list_any (is_root_of root) fabrics) roots

-- the state but for Breadcrumb
abbrev pub undone : Armed → NodeState → NodeState
undone armed s = record s {
  rows = filter (λ (row : Row). stays armed.added row.fabric) s.rows;
  entries = filter (λ (entry : AclEntry). stays armed.added entry.fabric) s.entries;
  fabrics = fabrics_behind armed s.fabrics;
  roots = roots_behind (fabrics_behind armed s.fabrics) s.roots;
  networks = armed.saved_networks;
  armed = None;
  sessions = map (session_behind armed) s.sessions;
  plain = None;
}

abbrev pub breadcrumb : Place
breadcrumb = record { endpoint = 0; cluster = 0x30; leaf = 0 }

-- Breadcrumb is 0
abbrev pub without_breadcrumb : NodeState → NodeState
without_breadcrumb s = record s { rows = with_rows breadcrumb 0 (values.Uint 0 ∷ []) s.rows }

abbrev pub rolled_back : Option Armed → NodeState → NodeState
rolled_back None s = s
rolled_back (Some armed) s = without_breadcrumb (undone armed s)

-- The state without what was done under the fail-safe, and as it is where that is not armed. It moves no version.
abbrev pub rollback : NodeState → NodeState
rollback s = rolled_back s.armed s

-- whether it is time that the fail-safe expires
abbrev pub is_due : Option Armed → ℕ → Bool
is_due None now = false
is_due (Some armed) now = nat_le armed.until now

-- the fabric that was added under the fail-safe, which an expiry takes away
abbrev pub added_in : Option Armed → Option ℕ
added_in None = None
added_in (Some armed) = armed.added

-- the deadlines of the fabric that goes, go with it
abbrev pub deadlines_left : Option Armed → List PlainDeadline → List PlainDeadline
deadlines_left None deadlines = deadlines
deadlines_left (Some armed) deadlines = filter (λ (deadline : PlainDeadline). stays armed.added deadline.fabric) deadlines
