-- Operational Credentials.
use Rattle.std.specs.Prelude.{ℕ, ◌==◌, ◌&&◌, Bool, List, [], ◌∷◌, Option, Some, None, length, if◌then◌else◌}
use Rattle.mt_tlv.specs.Tree.{Tree, uint, text, octets, null, none, more}
use Rattle.mt_tlv.specs.declared.value.Tag.TheVariants.{Context}
use Rattle.mt_tlv.specs.declared.value.Value.{Value}
use Rattle.mt_tlv.specs.declared.value.Value.TheVariants as values
use Rattle.mt_model.specs.Trees.{array_of}
use Rattle.mt_model.specs.declared.tables.fabric.Fabric.{Fabric}
use Rattle.mt_model.specs.declared.limits.TheConstants.{FABRICS}
use Rattle.mt_model.specs.declared.rows.place.Place.{Place}
use Rattle.mt_model.specs.declared.rows.place.Row.{Row}
use Rattle.mt_meta.specs.clusters.OperationalCredentials as operational_credentials
use Rattle.mt_apps.specs.Lists.{item_row}
use Rattle.mt_apps.specs.Parts.{Parts}

-- no intermediate certificate is null
abbrev pub intermediate_tree : List ℕ → Tree
intermediate_tree [] = null
intermediate_tree (byte ∷ bytes) = octets (byte ∷ bytes)

-- NOCStruct: 1 NOC, 2 ICAC, 254 fabric index
abbrev pub noc_value : Fabric → Value
noc_value fabric = values.Struct (more (Context 1) (octets fabric.credentials.noc) (more (Context 2) (intermediate_tree fabric.credentials.icac) (more (Context 254) (uint fabric.index) none)))

-- FabricDescriptorStruct: 1 root public key, 2 vendor, 3 fabric id, 4 node id, 5 label, 254 fabric index
abbrev pub fabric_value : Fabric → Value
fabric_value fabric = values.Struct (more (Context 1) (octets fabric.credentials.root_key) (more (Context 2) (uint fabric.vendor) (more (Context 3) (uint fabric.credentials.fabric_id) (more (Context 4) (uint fabric.credentials.node_id) (more (Context 5) (text fabric.label) (more (Context 254) (uint fabric.index) none))))))

-- The lists: a row for each fabric.

abbrev pub noc_row : Place → Fabric → Row
noc_row = item_row (λ (fabric : Fabric). fabric.index) noc_value

abbrev pub fabric_row : Place → Fabric → Row
fabric_row = item_row (λ (fabric : Fabric). fabric.index) fabric_value

abbrev pub is_fabrics : Place → Bool
is_fabrics place = place.cluster == operational_credentials.cluster && place.leaf == 1

-- attribute 5, the reader's own fabric, has no row
abbrev pub operational_credentials_value : Parts → ℕ → Option Value
operational_credentials_value parts leaf =
    if leaf == 2 then Some (values.Uint FABRICS)  -- SupportedFabrics
    else if leaf == 3 then Some (values.Uint (length parts.fabrics))  -- CommissionedFabrics
    else if leaf == 4 then Some (array_of octets parts.roots)  -- TrustedRootCertificates
    else None
