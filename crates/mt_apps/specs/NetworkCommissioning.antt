-- Network Commissioning.
use Rattle.std.specs.Prelude.{ℕ, ◌==◌, List, Option, Some, None, if◌then◌else◌}
use Rattle.mt_tlv.specs.Tree.{Tree, bool, octets, structure, none, more}
use Rattle.mt_tlv.specs.declared.value.Tag.TheVariants.{Context}
use Rattle.mt_tlv.specs.declared.value.Value.{Value}
use Rattle.mt_tlv.specs.declared.value.Value.TheVariants as values
use Rattle.mt_model.specs.Trees.{array_of}
use Rattle.mt_model.specs.declared.limits.TheConstants.{NETWORKS}
use Rattle.mt_model.specs.declared.tables.network.Network.{Network}

-- NetworkInfoStruct: 0 network id, 1 connected
abbrev pub network_tree : Network → Tree
network_tree network = structure (more (Context 0) (octets network.id) (more (Context 1) (bool network.connected) none))

abbrev pub network_commissioning_value : List Network → ℕ → Option Value
network_commissioning_value networks leaf =
    if leaf == 0 then Some (values.Uint NETWORKS)  -- MaxNetworks
    else if leaf == 1 then Some (array_of network_tree networks)  -- Networks
    else if leaf == 2 then Some (values.Uint 0)  -- ScanMaxTimeSeconds
    else if leaf == 3 then Some (values.Uint 20)  -- ConnectMaxTimeSeconds
    else if leaf == 7 then Some values.Null  -- LastConnectErrorValue
    else None
