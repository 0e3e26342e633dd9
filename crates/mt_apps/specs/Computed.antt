-- The rows that are not stored but follow from the other parts of the state, and what never changes (Matter Core
-- Specification, chapters 7, 9 and 11). What each cluster has of them stands in the file of its name.
use Rattle.std.specs.Prelude.{◌==◌, List, [], ◌∷◌, Option, Some, None, map, if◌then◌else◌}
use Rattle.std.specs.Option.{option_or}
use Rattle.mt_tlv.specs.declared.value.Value.{Value}
use Rattle.mt_model.specs.rows.Order.{row_at}
use Rattle.mt_model.specs.rows.Sight.{is_acl, is_nocs}
use Rattle.mt_model.specs.declared.rows.place.Place.{Place}
use Rattle.mt_model.specs.declared.rows.place.Row.{Row}
use Rattle.mt_meta.specs.clusters.AccessControl as access_control
use Rattle.mt_meta.specs.clusters.BasicInformation as basic_information
use Rattle.mt_meta.specs.clusters.Descriptor as descriptor
use Rattle.mt_meta.specs.clusters.GeneralCommissioning as general_commissioning
use Rattle.mt_meta.specs.clusters.GroupKeyManagement as group_key_management
use Rattle.mt_meta.specs.clusters.NetworkCommissioning as network_commissioning
use Rattle.mt_meta.specs.clusters.OperationalCredentials as operational_credentials
use Rattle.mt_apps.specs.AccessControl.{access_control_value, entry_row}
use Rattle.mt_apps.specs.BasicInformation.{basic_information_value}
use Rattle.mt_apps.specs.Descriptor.{descriptor_value}
use Rattle.mt_apps.specs.GeneralCommissioning.{general_commissioning_value}
use Rattle.mt_apps.specs.Globals.{global_value}
use Rattle.mt_apps.specs.GroupKeyManagement.{group_key_management_value}
use Rattle.mt_apps.specs.NetworkCommissioning.{network_commissioning_value}
use Rattle.mt_apps.specs.OperationalCredentials.{fabric_row, is_fabrics, noc_row, operational_credentials_value}
use Rattle.mt_apps.specs.Parts.{Parts}

-- Attributes that are not fabric-scoped: the value, None where there is none or where it is stored.

abbrev pub particular_value : Parts → Place → Option Value
particular_value parts place =
    if place.cluster == descriptor.cluster then descriptor_value place.endpoint place.leaf
    else if place.cluster == access_control.cluster then access_control_value place.leaf
    else if place.cluster == basic_information.cluster then basic_information_value place.leaf
    else if place.cluster == general_commissioning.cluster then general_commissioning_value place.leaf
    else if place.cluster == network_commissioning.cluster then network_commissioning_value parts.networks place.leaf
    else if place.cluster == operational_credentials.cluster then operational_credentials_value parts place.leaf
    else if place.cluster == group_key_management.cluster then group_key_management_value place.leaf
    else None

-- a global attribute, or one of the cluster's own
abbrev pub computed_value : Parts → Place → Option Value
computed_value parts place = option_or (global_value place.cluster place.leaf) (particular_value parts place)

abbrev pub value_rows : Place → Option Value → List Row
value_rows place None = []
value_rows place (Some value) = row_at place 0 value ∷ []

-- The computed rows of a place.
unfoldable pub computed_rows : Parts → Place → List Row
computed_rows parts place =
    if is_acl place then map (entry_row place) parts.entries
    else if is_nocs place then map (noc_row place) parts.fabrics
    else if is_fabrics place then map (fabric_row place) parts.fabrics
    else value_rows place (computed_value parts place)
