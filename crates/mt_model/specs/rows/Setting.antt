-- What rows and entries are once those of one fabric are set: those of lower places or fabrics, the new ones, those of
-- higher ones.
use Rattle.std.specs.Prelude.{ℕ, ◌==◌, ◌&&◌, ◌||◌, not, nat_lt, Bool, List, ◌++◌, filter, map}
use Rattle.mt_tlv.specs.declared.value.Value.{Value}
use Rattle.mt_model.specs.rows.Order.{row_at, stands_before}
use Rattle.mt_model.specs.rows.Sight.{same_place}
use Rattle.mt_model.specs.declared.tables.access.AclEntry.{AclEntry}
use Rattle.mt_model.specs.declared.rows.place.Place.{Place}
use Rattle.mt_model.specs.declared.rows.place.Row.{Row}

-- a row of a lower place, or at the place of a lower fabric
abbrev pub is_below : Place → ℕ → Row → Bool
is_below place fabric row = stands_before row.place place || (same_place row.place place && nat_lt row.fabric fabric)

abbrev pub is_above : Place → ℕ → Row → Bool
is_above place fabric row = stands_before place row.place || (same_place place row.place && nat_lt fabric row.fabric)

-- a row of this fabric at this place
abbrev pub is_at : Place → ℕ → Row → Bool
is_at place fabric row = same_place row.place place && row.fabric == fabric

-- a row of another fabric at this place
abbrev pub is_other_at : Place → ℕ → Row → Bool
is_other_at place fabric row = same_place row.place place && not (row.fabric == fabric)

-- the rows of this fabric at this place are these
abbrev pub with_rows : Place → ℕ → List Value → List Row → List Row
with_rows place fabric values rows = filter (is_below place fabric) rows ++ (map (row_at place fabric) values ++ filter (is_above place fabric) rows)

abbrev pub is_entry_below : ℕ → AclEntry → Bool
is_entry_below fabric entry = nat_lt entry.fabric fabric

abbrev pub is_entry_above : ℕ → AclEntry → Bool
is_entry_above fabric entry = nat_lt fabric entry.fabric

abbrev pub is_entry_of : ℕ → AclEntry → Bool
is_entry_of fabric entry = entry.fabric == fabric

-- the entries of this fabric are these
abbrev pub with_entries : ℕ → List AclEntry → List AclEntry → List AclEntry
with_entries fabric new entries = filter (is_entry_below fabric) entries ++ (new ++ filter (is_entry_above fabric) entries)
