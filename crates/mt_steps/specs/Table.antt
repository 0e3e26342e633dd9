-- The table of fabrics behind a step, which changes nothing of it where it refuses.
use Rattle.std.specs.Prelude.{ℕ, is_none, List, Option, None, Some, filter, map, if◌then◌else◌}
use Rattle.mt_fabrics.specs.Table.{add_refusal, added, credentials_at, is_used, least_unused, removed, update_refusal, updated}
use Rattle.mt_model.specs.tables.Leaving.{stays}
use Rattle.mt_model.specs.declared.node.state.NodeState.{NodeState}
use Rattle.mt_model.specs.declared.rows.place.Row.{Row}
use Rattle.mt_model.specs.declared.tables.access.AclEntry.{AclEntry}
use Rattle.mt_model.specs.declared.tables.fabric.Credentials.{Credentials}
use Rattle.mt_model.specs.declared.tables.fabric.Fabric.{Fabric}
use Rattle.mt_machine.specs.Effects.{plain_without, session_without}
use Rattle.mt_machine.specs.State as states

-- under which index a fabric joins, None where it does not
abbrev pub index_for : Fabric → List Fabric → Option ℕ
index_for fabric fabrics = if is_none (add_refusal fabric fabrics) then Some (least_unused fabrics) else None

abbrev pub with_joined : Fabric → List Fabric → List Fabric
with_joined fabric fabrics = if is_none (add_refusal fabric fabrics) then added fabric fabrics else fabrics

-- the credentials in whose place these come, None where they do not
abbrev pub credentials_before : ℕ → Credentials → List Fabric → Option Credentials
credentials_before index given fabrics = if is_none (update_refusal index given fabrics) then credentials_at index fabrics else None

abbrev pub with_updated : ℕ → Credentials → List Fabric → List Fabric
with_updated index given fabrics = if is_none (update_refusal index given fabrics) then updated index given fabrics else fabrics

abbrev pub with_removed : ℕ → List Fabric → List Fabric
with_removed index fabrics = if is_used index fabrics then removed index fabrics else fabrics

-- the state with the table that a fabric has left, without all else that is its own
abbrev pub left : ℕ → List Fabric → NodeState → NodeState
left index fabrics s = record s {
  rows = filter (λ (row : Row). stays (Some index) row.fabric) s.rows;
  entries = filter (λ (entry : AclEntry). stays (Some index) entry.fabric) s.entries;
  fabrics = fabrics;
  roots = filter (states.is_used fabrics s.armed) s.roots;
  sessions = map (session_without index) s.sessions;
  plain = plain_without index s.plain;
}
