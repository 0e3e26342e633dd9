-- Network Commissioning.
use Rattle.std.specs.Prelude.{ℕ, List, [], ◌∷◌, true, ◌==◌, if◌then◌else◌}
use Rattle.mt_model.specs.declared.tables.access.Privilege.TheVariants.{Administer}
use Rattle.mt_meta.specs.declared.meta.Kind.TheVariants as kinds
use Rattle.mt_meta.specs.declared.rows.AttributeRow.{AttributeRow}
use Rattle.mt_meta.specs.declared.rows.CommandRow.{CommandRow}
use Rattle.mt_meta.specs.declared.rows.Field.{Field}
use Rattle.mt_meta.specs.declared.rows.FirstValue.TheVariants as first
use Rattle.mt_meta.specs.declared.rows.Form.TheVariants as forms
use Rattle.mt_meta.specs.Rows.{plain, read_by, written_by, taking, kept, stored, invoked_by, needed, optional, any_number, any_octets}

abbrev pub cluster : ℕ
cluster = 0x31

abbrev pub attributes : List AttributeRow
attributes =
    read_by Administer (plain 0 kinds.Uint)  -- MaxNetworks
    ∷ read_by Administer (plain 1 kinds.Networks)  -- Networks
    ∷ plain 2 kinds.Uint  -- ScanMaxTimeSeconds
    ∷ plain 3 kinds.Uint  -- ConnectMaxTimeSeconds
    ∷ stored (first.Bool true) (kept (taking forms.Bool (written_by Administer 0 (plain 4 kinds.Bool))))  -- InterfaceEnabled
    ∷ stored first.Null (read_by Administer (plain 5 kinds.NullableUint))  -- LastNetworkingStatus
    ∷ stored first.Null (read_by Administer (plain 6 kinds.NullableOctets))  -- LastNetworkID
    ∷ read_by Administer (plain 7 kinds.Null)  -- LastConnectErrorValue
    ∷ []

abbrev pub commands : List CommandRow
commands =
    invoked_by Administer 2  -- AddOrUpdateWiFiNetwork
    ∷ invoked_by Administer 4  -- RemoveNetwork
    ∷ invoked_by Administer 6  -- ConnectNetwork
    ∷ invoked_by Administer 8  -- ReorderNetwork
    ∷ []

abbrev pub responses : List ℕ
responses =
    5  -- NetworkConfigResponse
    ∷ 7  -- ConnectNetworkResponse
    ∷ []

-- the fields of commands

abbrev pub add_or_update_wifi_network_fields : List Field
add_or_update_wifi_network_fields =
    needed 0 any_octets  -- SSID
    ∷ needed 1 any_octets  -- Credentials
    ∷ optional 2 any_number  -- Breadcrumb
    ∷ []

abbrev pub network_fields : List Field
network_fields =
    needed 0 any_octets  -- NetworkID
    ∷ optional 1 any_number  -- Breadcrumb
    ∷ []

abbrev pub reorder_network_fields : List Field
reorder_network_fields =
    needed 0 any_octets  -- NetworkID
    ∷ needed 1 any_number  -- NetworkIndex
    ∷ optional 2 any_number  -- Breadcrumb
    ∷ []

abbrev pub command_fields : ℕ → List Field
command_fields command =
    if command == 2 then add_or_update_wifi_network_fields
    else if command == 4 then network_fields  -- RemoveNetwork
    else if command == 6 then network_fields  -- ConnectNetwork
    else if command == 8 then reorder_network_fields
    else []
