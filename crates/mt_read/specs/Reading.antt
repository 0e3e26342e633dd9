-- What a read answers (Matter Core Specification, section 8.4, Read Interaction), made of what the reader's
-- fabric sees.
use Rattle.std.specs.Prelude.{◌==◌, ◌&&◌, Bool, false, List, [], ◌∷◌, Option, Some, None, Result, Ok, Err, filter, if◌then◌else◌}
use Rattle.std.specs.List.{flat_map, list_any}
use Rattle.mt_tlv.specs.Tree.{Tree}
use Rattle.mt_tlv.specs.View.{tree}
use Rattle.mt_tlv.specs.declared.value.Value.{Value}
use Rattle.mt_tlv.specs.declared.value.Value.TheVariants as values
use Rattle.mt_acl.specs.Access.{is_granted_if_asked}
use Rattle.mt_meta.specs.Finding.{find_of, privilege_of}
use Rattle.mt_meta.specs.Places.{is_not_global, places}
use Rattle.mt_meta.specs.declared.clusters.TheConstants.{OPERATIONAL_CREDENTIALS}
use Rattle.mt_meta.specs.declared.finding.Asked.TheVariants.{Read}
use Rattle.mt_meta.specs.declared.meta.Meta.{Meta}
use Rattle.mt_model.specs.Trees.{untagged}
use Rattle.mt_model.specs.messages.Blocks.{path_of, place_named}
use Rattle.mt_model.specs.rows.Seen.{Seen}
use Rattle.mt_model.specs.messages.Status.{code_of}
use Rattle.mt_model.specs.rows.Shown.{first_value}
use Rattle.mt_model.specs.declared.tables.access.Actor.{Actor}
use Rattle.mt_model.specs.declared.messages.message.Item.{Item}
use Rattle.mt_model.specs.declared.messages.message.Item.TheVariants.{Attribute, Refused}
use Rattle.mt_model.specs.declared.messages.message.Path.{Path}
use Rattle.mt_model.specs.declared.rows.place.Place.{Place}
use Rattle.mt_model.specs.declared.rows.place.Row.{Row}
use Rattle.mt_model.specs.declared.node.state.Version.{Version}
use Rattle.mt_model.specs.declared.messages.status.Status.{Status}
use Rattle.mt_model.specs.declared.messages.status.Status.TheVariants.{UnsupportedAccess}

-- Access.

-- whether the reader may read the place, or, where there is nothing, may learn that
abbrev pub may_read : Seen → Actor → Place → Bool
may_read seen actor place = is_granted_if_asked seen.entries actor place (privilege_of place Read) false

-- Values.

abbrev pub row_tree : Row → Tree
row_tree row = tree row.value

-- the reader's own items alone, where that is asked
abbrev pub wanted_rows : Actor → Bool → List Row → List Row
wanted_rows actor filtered rows = if filtered then filter (λ (row : Row). row.fabric == actor.fabric) rows else rows

-- attribute 5 of Operational Credentials is the reader's fabric
abbrev pub is_current_fabric : Place → Bool
is_current_fabric place = place.cluster == OPERATIONAL_CREDENTIALS && place.leaf == 5

-- A fabric-scoped list has an item for each row.
abbrev pub value_of : Seen → Actor → Bool → Place → Meta → Value
value_of seen actor filtered place meta =
    if is_current_fabric place then values.Uint actor.fabric
    else if meta.scoped then values.Array (untagged row_tree (wanted_rows actor filtered (seen.rows_at place)))
    else first_value (seen.rows_at place)

-- Items.

-- whether the reader has the cluster's data in this version already
abbrev pub is_known : Seen → List Version → Place → Bool
is_known seen versions place = list_any (λ (known : Version). known.endpoint == place.endpoint && (known.cluster == place.cluster && known.version == seen.version_of place.endpoint place.cluster)) versions

-- the data of a place, unless the reader has it already
abbrev pub data_items : Seen → Actor → Bool → List Version → Place → Meta → List Item
data_items seen actor filtered versions place meta =
    if is_known seen versions place then []
    else Attribute (path_of place) (seen.version_of place.endpoint place.cluster) (value_of seen actor filtered place meta) ∷ []

abbrev pub found_items : Seen → Actor → Bool → List Version → Place → Result Meta Status → List Item
found_items seen actor filtered versions place (Ok meta) = data_items seen actor filtered versions place meta
found_items seen actor filtered versions place (Err status) = Refused (path_of place) (code_of status) ∷ []

-- A concrete path: access comes first, then what there is.
abbrev pub concrete_items : Seen → Actor → Bool → List Version → Place → List Item
concrete_items seen actor filtered versions place =
    if may_read seen actor place then found_items seen actor filtered versions place (find_of place)
    else Refused (path_of place) (code_of UnsupportedAccess) ∷ []

abbrev pub granted_items : Seen → Actor → Bool → List Version → Place → Result Meta Status → List Item
granted_items seen actor filtered versions place (Ok meta) = data_items seen actor filtered versions place meta
granted_items seen actor filtered versions place (Err status) = []

-- A place that a wildcard names: what is not granted is left out.
abbrev pub wildcard_items : Seen → Actor → Bool → List Version → Place → List Item
wildcard_items seen actor filtered versions place =
    if may_read seen actor place then granted_items seen actor filtered versions place (find_of place) else []

abbrev pub items_at : Seen → Actor → Bool → List Version → Path → Option Place → List Item
items_at seen actor filtered versions path (Some place) = concrete_items seen actor filtered versions place
items_at seen actor filtered versions path None = flat_map (wildcard_items seen actor filtered versions) (places path)

abbrev pub path_items : Seen → Actor → Bool → List Version → Path → List Item
path_items seen actor filtered versions path = items_at seen actor filtered versions path (place_named path)

-- The items of a read, path by path; None where a path asks an attribute of every cluster that not every
-- cluster has.
abbrev pub read_answer : Seen → Actor → List Path → Bool → List Version → Option (List Item)
read_answer seen actor paths filtered versions = if list_any is_not_global paths then None else Some (flat_map (path_items seen actor filtered versions) paths)
