-- What an answer to a fabric is made of: what the fabric sees of rows, versions and entries, and what is
-- known of itself. It is the meaning of the trait `Sight`, which offers it.
use Rattle.std.specs.Prelude.{ℕ, ◌==◌, Bool, List, filter, map}
use Rattle.mt_model.specs.rows.Sight.{seen_by, version_in}
use Rattle.mt_model.specs.declared.tables.access.AclEntry.{AclEntry}
use Rattle.mt_model.specs.declared.rows.place.Place.{Place}
use Rattle.mt_model.specs.declared.rows.place.Row.{Row}
use Rattle.mt_model.specs.declared.node.state.Version.{Version}
use Rattle.mt_model.specs.tables.Known.{Known}

-- The rows of each place as the fabric sees them, by ascending fabric and in the order of each list; the data
-- versions; the fabric's own access control entries.
pub record Seen : Type 0 where
  pub rows_at : Place → List Row
  pub version_of : ℕ → ℕ → ℕ
  pub entries : List AclEntry

abbrev pub own_entries : ℕ → List AclEntry → List AclEntry
own_entries fabric entries = filter (λ (entry : AclEntry). entry.fabric == fabric) entries

-- what a fabric sees of rows, versions and entries
abbrev pub seen_as : ℕ → (Place → List Row) → List Version → List AclEntry → Seen
seen_as fabric rows versions entries = record {
  rows_at = λ place. map (seen_by fabric) (rows place);
  version_of = version_in versions;
  entries = own_entries fabric entries;
}

-- What an answer to a fabric is made of. No answer takes the state itself.
pub record Observation : Type 0 where
  -- the fabric that observes
  pub fabric : ℕ
  -- whether it is in the table
  pub is_member : Bool
  -- whether the plain PASE session is its own
  pub is_plain : Bool
  -- what a read is answered from
  pub seen : Seen
  -- what is known of the fabrics, the networks and the fail-safe
  pub known : Known
  -- the time of the latest event, in ms
  pub clock : ℕ
