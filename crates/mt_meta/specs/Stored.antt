-- Which data is stored, the rows of a new node, and the sensitive fields of items, as the table says.
use Rattle.std.specs.Prelude.{ℕ, ◌==◌, ◌||◌, ◌&&◌, not, if◌then◌else◌, Bool, true, false, List, [], ◌∷◌, Option, Some, None, filter, length}
use Rattle.std.specs.List.{find, flat_map}
use Rattle.std.specs.Option.{option_map}
use Rattle.mt_tlv.specs.Tree.{none}
use Rattle.mt_tlv.specs.declared.value.Value.{Value}
use Rattle.mt_tlv.specs.declared.value.Value.TheVariants as values
use Rattle.mt_model.specs.rows.Sight.{stands_at}
use Rattle.mt_model.specs.declared.rows.place.Place.{Place}
use Rattle.mt_model.specs.declared.rows.place.Row.{Row}
use Rattle.mt_meta.specs.declared.rows.AttributeRow.{AttributeRow}
use Rattle.mt_meta.specs.declared.rows.FirstValue.{FirstValue}
use Rattle.mt_meta.specs.declared.rows.FirstValue.TheVariants as first
use Rattle.mt_meta.specs.declared.rows.Origin.{Origin}
use Rattle.mt_meta.specs.declared.rows.Origin.TheVariants.{Computed, Stored, StoredItems}
use Rattle.mt_meta.specs.declared.rows.Sensitive.{Sensitive}
use Rattle.mt_meta.specs.declared.rows.Sensitive.TheVariants.{Nothing, OneField, TwoFields, AllButFabric}
use Rattle.mt_meta.specs.Table.{all_attributes_of, all_data_of, clusters_of, endpoints}

-- the row of the table for an attribute of a cluster
abbrev pub row_in : List AttributeRow → ℕ → Option AttributeRow
row_in rows leaf = find (λ (row : AttributeRow). row.number == leaf) rows

-- where its data stands
abbrev pub origin_of : Place → Option Origin
origin_of place = option_map (λ (row : AttributeRow). row.origin) (row_in (all_data_of place.cluster) place.leaf)

abbrev pub is_stored_origin : Option Origin → Bool
is_stored_origin None = false
is_stored_origin (Some Computed) = false
is_stored_origin (Some (Stored value)) = true
is_stored_origin (Some StoredItems) = true

-- Whether the rows of a place are stored. Those of all others are computed.
unfoldable pub is_stored : Place → Bool
is_stored place = is_stored_origin (origin_of place)

-- The rows of a new node.

abbrev pub value_of_first : FirstValue → Value
value_of_first (first.Bool b) = values.Bool b
value_of_first (first.Uint n) = values.Uint n
value_of_first first.Null = values.Null
value_of_first first.EmptyText = values.Text []
value_of_first (first.Country a b) = values.Text (a ∷ b ∷ [])
value_of_first first.EmptyArray = values.Array none

-- a row that is no fabric's
abbrev pub unscoped_row : Place → Value → Row
unscoped_row place value = record { place = place; fabric = 0; value = value }

abbrev pub rows_from : Place → Origin → List Row
rows_from place Computed = []
rows_from place (Stored value) = unscoped_row place (value_of_first value) ∷ []
rows_from place StoredItems = []

-- with which rows an attribute begins
abbrev pub first_rows_of : ℕ → ℕ → AttributeRow → List Row
first_rows_of endpoint cluster row = rows_from (record { endpoint = endpoint; cluster = cluster; leaf = row.number }) row.origin

abbrev pub first_rows_of_cluster : ℕ → ℕ → List Row
first_rows_of_cluster endpoint cluster = flat_map (first_rows_of endpoint cluster) (all_attributes_of cluster)

abbrev pub first_rows_of_endpoint : ℕ → List Row
first_rows_of_endpoint endpoint = flat_map (first_rows_of_cluster endpoint) (clusters_of endpoint)

-- the stored attributes that are not fabric-scoped, as they first stand, in the order of their places
abbrev pub first_rows : List Row
first_rows = flat_map first_rows_of_endpoint endpoints

-- Law of the whole.

abbrev pub is_scoped_row : Option AttributeRow → Bool
is_scoped_row None = false
is_scoped_row (Some row) = row.meta.scoped

-- whether an attribute is a list each of whose items belongs to a fabric
abbrev pub is_scoped : Place → Bool
is_scoped place = is_scoped_row (row_in (all_attributes_of place.cluster) place.leaf)

abbrev pub count_first_rows : Place → ℕ
count_first_rows place = length (filter (stands_at place) first_rows)

-- a place has one row on a new node where it is stored and not scoped, and none otherwise
abbrev pub begins_rightly : Place → Bool
begins_rightly place = count_first_rows place == (if is_stored place && not (is_scoped place) then 1 else 0)

-- Sensitive fields, which are those of another's item that a fabric is not shown.

-- an item's fabric is its field 254
abbrev pub is_sensitive_in : Sensitive → ℕ → Bool
is_sensitive_in Nothing field = false
is_sensitive_in (OneField a) field = field == a
is_sensitive_in (TwoFields a b) field = field == a || field == b
is_sensitive_in AllButFabric field = not (field == 254)

abbrev pub is_sensitive_in_row : Option AttributeRow → ℕ → Bool
is_sensitive_in_row None field = false
is_sensitive_in_row (Some row) field = is_sensitive_in row.sensitive field

-- whether the table says that a field of a place's items is sensitive
abbrev pub is_sensitive_by_table : Place → ℕ → Bool
is_sensitive_by_table place field = is_sensitive_in_row (row_in (all_data_of place.cluster) place.leaf) field
