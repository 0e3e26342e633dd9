-- The attributes that every cluster has.
use Rattle.std.specs.Prelude.{ℕ, ◌==◌, List, Option, Some, None, map, if◌then◌else◌}
use Rattle.mt_tlv.specs.declared.value.Value.{Value}
use Rattle.mt_tlv.specs.declared.value.Value.TheVariants as values
use Rattle.mt_meta.specs.Table.{all_attributes_of, commands_of, responses_of}
use Rattle.mt_meta.specs.clusters.AdministratorCommissioning as administrator_commissioning
use Rattle.mt_meta.specs.clusters.NetworkCommissioning as network_commissioning
use Rattle.mt_meta.specs.declared.rows.AttributeRow.{AttributeRow}
use Rattle.mt_meta.specs.declared.rows.CommandRow.{CommandRow}
use Rattle.mt_apps.specs.Parts.{numbers}

-- Network Commissioning has Wi-Fi, Administrator Commissioning has basic windows, and no other cluster has a feature
abbrev pub features_of : ℕ → ℕ
features_of cluster =
    if cluster == network_commissioning.cluster then 1
    else if cluster == administrator_commissioning.cluster then 1
    else 0

abbrev pub command_numbers : ℕ → List ℕ
command_numbers cluster = map (λ (row : CommandRow). row.number) (commands_of cluster)

abbrev pub attribute_numbers : ℕ → List ℕ
attribute_numbers cluster = map (λ (row : AttributeRow). row.number) (all_attributes_of cluster)

abbrev pub global_value : ℕ → ℕ → Option Value
global_value cluster leaf =
    if leaf == 0xfff8 then Some (numbers (responses_of cluster))  -- GeneratedCommandList
    else if leaf == 0xfff9 then Some (numbers (command_numbers cluster))  -- AcceptedCommandList
    else if leaf == 0xfffb then Some (numbers (attribute_numbers cluster))  -- AttributeList
    else if leaf == 0xfffc then Some (values.Uint (features_of cluster))  -- FeatureMap
    else if leaf == 0xfffd then Some (values.Uint 1)  -- ClusterRevision
    else None
