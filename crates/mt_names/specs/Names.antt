-- The names of what stands in the table of clusters: a column beside each list of its rows.
use Rattle.std.specs.Prelude.{ℕ, List, [], ◌∷◌, ◌++◌, ◌==◌, codes, if◌then◌else◌}
use Rattle.mt_meta.specs.declared.meta.Kind.{Kind}
use Rattle.mt_meta.specs.declared.meta.Kind.TheVariants as kinds
use Rattle.mt_names.specs.Columns.{Name}
use Rattle.mt_names.specs.clusters.AccessControl as access_control
use Rattle.mt_names.specs.clusters.AdministratorCommissioning as administrator_commissioning
use Rattle.mt_names.specs.clusters.BasicInformation as basic_information
use Rattle.mt_names.specs.clusters.Bench as bench
use Rattle.mt_names.specs.clusters.Binding as binding
use Rattle.mt_names.specs.clusters.Descriptor as descriptor
use Rattle.mt_names.specs.clusters.GeneralCommissioning as general_commissioning
use Rattle.mt_names.specs.clusters.GroupKeyManagement as group_key_management
use Rattle.mt_names.specs.clusters.NetworkCommissioning as network_commissioning
use Rattle.mt_names.specs.clusters.OnOff as on_off
use Rattle.mt_names.specs.clusters.OperationalCredentials as operational_credentials
use Rattle.mt_names.specs.clusters.UserLabel as user_label

unfoldable pub clusters : List Name
clusters =
    (0x6, codes "On-Off")
    ∷ (0x1d, codes "Descriptor")
    ∷ (0x1e, codes "Binding")
    ∷ (0x1f, codes "Access-Control")
    ∷ (0x28, codes "Basic-Information")
    ∷ (0x30, codes "General-Commissioning")
    ∷ (0x31, codes "Network-Commissioning")
    ∷ (0x3c, codes "Administrator-Commissioning")
    ∷ (0x3e, codes "Operational-Credentials")
    ∷ (0x3f, codes "Group-Key-Management")
    ∷ (0x41, codes "User-Label")
    ∷ (0xfff1fc00, codes "Bench")
    ∷ []

-- the attributes that every cluster has
unfoldable pub globals : List Name
globals =
    (0xfff8, codes "GeneratedCommandList")
    ∷ (0xfff9, codes "AcceptedCommandList")
    ∷ (0xfffb, codes "AttributeList")
    ∷ (0xfffc, codes "FeatureMap")
    ∷ (0xfffd, codes "ClusterRevision")
    ∷ []

-- the other attributes of a cluster, but for those that stand above the global ones
unfoldable pub attributes_of : ℕ → List Name
attributes_of cluster =
    if cluster == 0x6 then on_off.attributes
    else if cluster == 0x1d then descriptor.attributes
    else if cluster == 0x1e then binding.attributes
    else if cluster == 0x1f then access_control.attributes
    else if cluster == 0x28 then basic_information.attributes
    else if cluster == 0x30 then general_commissioning.attributes
    else if cluster == 0x31 then network_commissioning.attributes
    else if cluster == 0x3c then administrator_commissioning.attributes
    else if cluster == 0x3e then operational_credentials.attributes
    else if cluster == 0x3f then group_key_management.attributes
    else if cluster == 0x41 then user_label.attributes
    else if cluster == 0xfff1fc00 then bench.attributes
    else []

-- the attributes of a cluster whose numbers stand above the global ones
unfoldable pub extensions_of : ℕ → List Name
extensions_of cluster =
    if cluster == 0x3c then administrator_commissioning.extensions
    else []

-- all attributes of a cluster
abbrev pub all_attributes_of : ℕ → List Name
all_attributes_of cluster = attributes_of cluster ++ (globals ++ extensions_of cluster)

-- the commands that a cluster accepts
unfoldable pub commands_of : ℕ → List Name
commands_of cluster =
    if cluster == 0x6 then on_off.commands
    else if cluster == 0x30 then general_commissioning.commands
    else if cluster == 0x31 then network_commissioning.commands
    else if cluster == 0x3c then administrator_commissioning.commands
    else if cluster == 0x3e then operational_credentials.commands
    else if cluster == 0x3f then group_key_management.commands
    else if cluster == 0xfff1fc00 then bench.commands
    else []

-- the commands with which a cluster answers
unfoldable pub responses_of : ℕ → List Name
responses_of cluster =
    if cluster == 0x30 then general_commissioning.responses
    else if cluster == 0x31 then network_commissioning.responses
    else if cluster == 0x3e then operational_credentials.responses
    else if cluster == 0x3f then group_key_management.responses
    else []

-- the events of a cluster
unfoldable pub events_of : ℕ → List Name
events_of cluster =
    if cluster == 0x1f then access_control.events
    else if cluster == 0x28 then basic_information.events
    else if cluster == 0xfff1fc00 then bench.events
    else []

-- the fields of a command that a cluster accepts
unfoldable pub command_fields : ℕ → ℕ → List Name
command_fields cluster command =
    if cluster == 0x30 then general_commissioning.command_fields command
    else if cluster == 0x31 then network_commissioning.command_fields command
    else if cluster == 0x3c then administrator_commissioning.command_fields command
    else if cluster == 0x3e then operational_credentials.command_fields command
    else if cluster == 0x3f then group_key_management.command_fields command
    else []

-- the fields of a command with which a cluster answers
unfoldable pub response_fields : ℕ → ℕ → List Name
response_fields cluster command =
    if cluster == 0x30 then general_commissioning.response_fields command
    else if cluster == 0x31 then network_commissioning.response_fields command
    else if cluster == 0x3e then operational_credentials.response_fields command
    else if cluster == 0x3f then group_key_management.response_fields command
    else []

-- the fields of an event
unfoldable pub event_fields : ℕ → ℕ → List Name
event_fields cluster event =
    if cluster == 0x1f then access_control.event_fields event
    else if cluster == 0x28 then basic_information.event_fields event
    else if cluster == 0xfff1fc00 then bench.event_fields event
    else []

-- the fields of a structure in the value of an attribute that nobody writes
unfoldable pub value_fields : ℕ → ℕ → List Name
value_fields cluster attribute =
    if cluster == 0x1d then descriptor.value_fields attribute
    else if cluster == 0x28 then basic_information.value_fields attribute
    else if cluster == 0x30 then general_commissioning.value_fields attribute
    else if cluster == 0x31 then network_commissioning.value_fields attribute
    else if cluster == 0x3e then operational_credentials.value_fields attribute
    else if cluster == 0x3f then group_key_management.value_fields attribute
    else []

-- the fields of an item of a list that is written, and of a group key set, by the kind
unfoldable pub item_fields : Kind → List Name
item_fields kinds.Binding = binding.item_fields
item_fields kinds.Acl = access_control.item_fields
item_fields kinds.Labels = user_label.item_fields
item_fields kinds.Bench = bench.item_fields
item_fields kinds.GroupKeyMap = group_key_management.map_item_fields
item_fields kinds.KeySets = group_key_management.set_fields
item_fields kind = []

-- the fields of a target of an access control entry
unfoldable pub target_fields : List Name
target_fields = (0, codes "cluster") ∷ (1, codes "endpoint") ∷ (2, codes "deviceType") ∷ []
