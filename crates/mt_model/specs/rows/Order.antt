-- The order of rows, of entries and of fabrics.
use Rattle.std.specs.Prelude.{ℕ, ◌==◌, nat_le, nat_lt, Bool, true, ◌&&◌, ◌||◌, List, [], ◌∷◌, ◌++◌, filter, map}
use Rattle.mt_tlv.specs.declared.value.Value.{Value}
use Rattle.mt_model.specs.rows.Sight.{same_place}
use Rattle.mt_model.specs.declared.tables.access.AclEntry.{AclEntry}
use Rattle.mt_model.specs.declared.tables.fabric.Fabric.{Fabric}
use Rattle.mt_model.specs.declared.rows.place.Place.{Place}
use Rattle.mt_model.specs.declared.rows.place.Row.{Row}

-- whether p stands before q: by endpoint, then by cluster, then by leaf
abbrev pub stands_before : Place → Place → Bool
stands_before p q = nat_lt p.endpoint q.endpoint
    || (p.endpoint == q.endpoint && (nat_lt p.cluster q.cluster
    || (p.cluster == q.cluster && nat_lt p.leaf q.leaf)))

-- Whether the second row may come after the first: its place stands behind, or it is the same and
-- its fabric is not lower.
abbrev pub may_follow : Row → Row → Bool
may_follow row next = stands_before row.place next.place
    || (same_place row.place next.place && nat_le row.fabric next.fabric)

-- whether the rows ascend, and the first of them may follow this row
abbrev pub ascend_after : Row → List Row → Bool
ascend_after row [] = true
ascend_after row (next ∷ rows) = may_follow row next && ascend_after next rows

-- whether each row may follow the one before it
abbrev pub are_ascending : List Row → Bool
are_ascending [] = true
are_ascending (row ∷ rows) = ascend_after row rows

-- whether the indexes of these fabrics rise, from one above this on
abbrev pub rise_above : ℕ → List Fabric → Bool
rise_above index [] = true
rise_above index (fabric ∷ fabrics) = nat_lt index fabric.index && rise_above fabric.index fabrics

-- whether the indexes rise, from 1 or more on
abbrev pub fabrics_ascend : List Fabric → Bool
fabrics_ascend fabrics = rise_above 0 fabrics

-- whether a row's fabric is lower than this, is this, or is higher
abbrev pub is_lower : ℕ → Row → Bool
is_lower fabric row = nat_lt row.fabric fabric

abbrev pub is_own : ℕ → Row → Bool
is_own fabric row = row.fabric == fabric

abbrev pub is_higher : ℕ → Row → Bool
is_higher fabric row = nat_lt fabric row.fabric

-- the rows of lower fabrics, then this fabric's, then those of higher ones, each in their order
abbrev pub in_order : ℕ → List Row → List Row
in_order fabric rows = filter (is_lower fabric) rows ++ (filter (is_own fabric) rows ++ filter (is_higher fabric) rows)

-- a row of a place
abbrev pub row_at : Place → ℕ → Value → Row
row_at place fabric value = record { place = place; fabric = fabric; value = value }

-- each entry as a row of a place, and each fabric
abbrev pub entry_rows : Place → (AclEntry → Value) → List AclEntry → List Row
entry_rows place value entries = map (λ (entry : AclEntry). row_at place entry.fabric (value entry)) entries

abbrev pub fabric_rows : Place → (Fabric → Value) → List Fabric → List Row
fabric_rows place value fabrics = map (λ (fabric : Fabric). row_at place fabric.index (value fabric)) fabrics
