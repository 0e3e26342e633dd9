-- The table of the node's clusters: which stand on which endpoint, and where the rows of each are. Lists ascend.
use Rattle.std.specs.Prelude.{ℕ, ◌==◌, ◌++◌, if◌then◌else◌, List, [], ◌∷◌}
use Rattle.mt_meta.specs.clusters.AccessControl as access_control
use Rattle.mt_meta.specs.clusters.AdministratorCommissioning as administrator_commissioning
use Rattle.mt_meta.specs.clusters.BasicInformation as basic_information
use Rattle.mt_meta.specs.clusters.Bench as bench
use Rattle.mt_meta.specs.clusters.Binding as binding
use Rattle.mt_meta.specs.clusters.Descriptor as descriptor
use Rattle.mt_meta.specs.clusters.GeneralCommissioning as general_commissioning
use Rattle.mt_meta.specs.clusters.GroupKeyManagement as group_key_management
use Rattle.mt_meta.specs.clusters.NetworkCommissioning as network_commissioning
use Rattle.mt_meta.specs.clusters.OnOff as on_off
use Rattle.mt_meta.specs.clusters.OperationalCredentials as operational_credentials
use Rattle.mt_meta.specs.clusters.UserLabel as user_label
use Rattle.mt_meta.specs.declared.meta.Kind.{Kind}
use Rattle.mt_meta.specs.declared.meta.Kind.TheVariants as kinds
use Rattle.mt_meta.specs.declared.rows.AttributeRow.{AttributeRow}
use Rattle.mt_meta.specs.declared.rows.CommandRow.{CommandRow}
use Rattle.mt_meta.specs.declared.rows.EventRow.{EventRow}
use Rattle.mt_meta.specs.declared.rows.Field.{Field}
use Rattle.mt_meta.specs.Rows.{plain}

unfoldable pub endpoints : List ℕ
endpoints = 0 ∷ 1 ∷ []

unfoldable pub clusters_of : ℕ → List ℕ
clusters_of endpoint = if endpoint == 0 then descriptor.cluster ∷ access_control.cluster ∷ basic_information.cluster ∷ general_commissioning.cluster ∷ network_commissioning.cluster ∷ administrator_commissioning.cluster ∷ operational_credentials.cluster ∷ group_key_management.cluster ∷ []
    else if endpoint == 1 then on_off.cluster ∷ descriptor.cluster ∷ binding.cluster ∷ user_label.cluster ∷ bench.cluster ∷ []
    else []

-- the attributes that every cluster has
unfoldable pub globals : List AttributeRow
globals =
    plain 0xfff8 kinds.Numbers  -- GeneratedCommandList
    ∷ plain 0xfff9 kinds.Numbers  -- AcceptedCommandList
    ∷ plain 0xfffb kinds.Numbers  -- AttributeList
    ∷ plain 0xfffc kinds.Uint  -- FeatureMap
    ∷ plain 0xfffd kinds.Uint  -- ClusterRevision
    ∷ []

-- the other attributes of a cluster, but for those that stand above the global ones
unfoldable pub attributes_of : ℕ → List AttributeRow
attributes_of cluster = if cluster == on_off.cluster then on_off.attributes
    else if cluster == descriptor.cluster then descriptor.attributes
    else if cluster == binding.cluster then binding.attributes
    else if cluster == access_control.cluster then access_control.attributes
    else if cluster == basic_information.cluster then basic_information.attributes
    else if cluster == general_commissioning.cluster then general_commissioning.attributes
    else if cluster == network_commissioning.cluster then network_commissioning.attributes
    else if cluster == administrator_commissioning.cluster then administrator_commissioning.attributes
    else if cluster == operational_credentials.cluster then operational_credentials.attributes
    else if cluster == group_key_management.cluster then group_key_management.attributes
    else if cluster == user_label.cluster then user_label.attributes
    else if cluster == bench.cluster then bench.attributes
    else []

-- The attributes of a cluster whose numbers stand above the global ones, as those of a vendor's extension of a
-- standard cluster do.
unfoldable pub extensions_of : ℕ → List AttributeRow
extensions_of cluster = if cluster == administrator_commissioning.cluster then administrator_commissioning.extensions else []

-- all attributes of a cluster, ascending
abbrev pub all_attributes_of : ℕ → List AttributeRow
all_attributes_of cluster = attributes_of cluster ++ (globals ++ extensions_of cluster)

-- The data of a cluster that is no attribute's: rows stand there, but no path names them.
abbrev pub hidden_of : ℕ → List AttributeRow
hidden_of cluster = if cluster == group_key_management.cluster then group_key_management.hidden else []

-- all data of a cluster
abbrev pub all_data_of : ℕ → List AttributeRow
all_data_of cluster = all_attributes_of cluster ++ hidden_of cluster

-- the commands that a cluster accepts
unfoldable pub commands_of : ℕ → List CommandRow
commands_of cluster = if cluster == on_off.cluster then on_off.commands
    else if cluster == general_commissioning.cluster then general_commissioning.commands
    else if cluster == network_commissioning.cluster then network_commissioning.commands
    else if cluster == administrator_commissioning.cluster then administrator_commissioning.commands
    else if cluster == operational_credentials.cluster then operational_credentials.commands
    else if cluster == group_key_management.cluster then group_key_management.commands
    else if cluster == bench.cluster then bench.commands
    else []

-- the fields of a command that a cluster accepts; those of On/Off and of Bench have none
unfoldable pub command_fields : ℕ → ℕ → List Field
command_fields cluster command = if cluster == general_commissioning.cluster then general_commissioning.command_fields command
    else if cluster == network_commissioning.cluster then network_commissioning.command_fields command
    else if cluster == administrator_commissioning.cluster then administrator_commissioning.command_fields command
    else if cluster == operational_credentials.cluster then operational_credentials.command_fields command
    else if cluster == group_key_management.cluster then group_key_management.command_fields command
    else []

-- the commands that a cluster generates
unfoldable pub responses_of : ℕ → List ℕ
responses_of cluster = if cluster == general_commissioning.cluster then general_commissioning.responses
    else if cluster == network_commissioning.cluster then network_commissioning.responses
    else if cluster == operational_credentials.cluster then operational_credentials.responses
    else if cluster == group_key_management.cluster then group_key_management.responses
    else []

unfoldable pub events_of : ℕ → List EventRow
events_of cluster = if cluster == access_control.cluster then access_control.events
    else if cluster == basic_information.cluster then basic_information.events
    else if cluster == bench.cluster then bench.events
    else []

-- the fields of an item of a list that is written, and of a group key set, by the kind
unfoldable pub fields_of : Kind → List Field
fields_of kinds.Binding = binding.fields
fields_of kinds.Acl = access_control.fields
fields_of kinds.Labels = user_label.fields
fields_of kinds.Bench = bench.fields
fields_of kinds.GroupKeyMap = group_key_management.map_fields
fields_of kinds.KeySets = group_key_management.set_fields
fields_of kind = []
