-- A mark as data, and the mark of a run that it is.
use Rattle.std.specs.Prelude.{ℕ, ◌==◌, not, List, Option, filter, map}
use Rattle.std.specs.Option.{option_map}
use Rattle.mt_model.specs.rows.Sight.{seen_by}
use Rattle.mt_model.specs.declared.rows.place.Row.{Row}
use Rattle.mt_model.specs.declared.node.state.NodeState.{NodeState}
use Rattle.mt_model.specs.declared.tables.access.AclEntry.{AclEntry}
use Rattle.mt_model.specs.declared.tables.fabric.Fabric.{Fabric}
use Rattle.mt_model.specs.declared.texts.recording.Event.{Event}
use Rattle.mt_runs.specs.mt_machine.Isolation.{PublicView, owns, public_view}
use Rattle.mt_runs.specs.mt_machine.Isolation as machine
use Rattle.mt_runs.specs.mt_ledger.History.{History}
use Rattle.mt_runs.specs.mt_ledger.HistoryIsolation.{Recent, recent}
use Rattle.mt_runs.specs.Isolation.{PublicPart}
use Rattle.mt_runs.specs.Marks.{Mark, Unanswered, reopened, seen}
use Rattle.mt_marks.specs.declared.mark.Descriptor.{Descriptor}
use Rattle.mt_marks.specs.declared.mark.Mark as code
use Rattle.mt_marks.specs.declared.mark.Unanswered as code_left

-- What a mark says.

abbrev pub descriptor_in : Descriptor → machine.Descriptor
descriptor_in d = record { index = d.index; root_key = d.root_key; vendor = d.vendor; fabric_id = d.fabric_id; node_id = d.node_id; label = d.label }

abbrev pub view_in : code.Mark → PublicView
view_in mark = record {
  rows = mark.rows;
  owners = mark.owners;
  fabrics = map descriptor_in mark.fabrics;
  roots = mark.roots;
  networks = mark.networks;
  armed = mark.failsafe;
  versions = mark.versions;
  changes = mark.changes;
  boot = mark.boot;
  clock = mark.now;
}

abbrev pub recent_in : code.Mark → Recent
recent_in mark = record { shared = mark.events; next = mark.next }

abbrev pub public_in : code.Mark → PublicPart
public_in mark = record { node = view_in mark; events = recent_in mark }

abbrev pub seen_in : code.Mark → Mark
seen_in mark = seen mark.event (public_in mark)

-- What the mark of a reopening says: by which line, with what was public, and which event was left unanswered.

abbrev pub unanswered_in : code_left.Unanswered → Unanswered
unanswered_in left = record { event = left.event; survived = left.survived }

abbrev pub reopened_in : code.Mark → Option code_left.Unanswered → Mark
reopened_in mark left = reopened mark.event (public_in mark) (option_map unanswered_in left)

-- What is seen: an event, with what is public to the fabric of this state and this history.
abbrev pub mark_before : ℕ → Event → NodeState → History → Mark
mark_before fabric event s h = seen event (record { node = public_view fabric s; events = recent h })

-- Parts of it.

-- the rows that are not the fabric's own, as it sees them
abbrev pub other_rows : ℕ → List Row → List Row
other_rows fabric rows = map (seen_by fabric) (filter (λ (row : Row). not (owns fabric row)) rows)

-- whose the entries of others are
abbrev pub other_owners : ℕ → List AclEntry → List ℕ
other_owners fabric entries = map (λ (entry : AclEntry). entry.fabric) (filter (λ (entry : AclEntry). not (entry.fabric == fabric)) entries)

-- what others may know of a fabric
abbrev pub described : Fabric → Descriptor
described f = record { index = f.index; root_key = f.credentials.root_key; vendor = f.vendor; fabric_id = f.credentials.fabric_id; node_id = f.credentials.node_id; label = f.label }
