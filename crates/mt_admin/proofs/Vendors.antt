-- The vendor of a fabric is known to all.
use Rattle.std.proofs.Common.{◌≡◌, ℕ, ◌==◌, Bool, true, false, List, [], ◌∷◌, Option, Some, map, refl, cond, if◌then◌else◌}
use Rattle.std.specs.List.{find}
use Rattle.std.specs.Option.{option_map}
use Rattle.mt_fabrics.specs.Table.{has_index}
use Rattle.mt_model.specs.tables.Known.{bare_credentials, fabric_known_to}
use Rattle.mt_model.specs.declared.tables.fabric.Fabric.{Fabric}
use Rattle.mt_admin.specs.Windows.{vendor_of}

abbrev vendor_in : Option Fabric → Option ℕ
vendor_in found = option_map (λ (fabric : Fabric). fabric.vendor) found

-- a fabric as it is known, by whether it is the knower's own
abbrev known_by : Bool → Fabric → Fabric
known_by own fabric = if own then fabric else record fabric { credentials = bare_credentials fabric.credentials }

first_vendor : (here own : Bool) (fabric : Fabric) (known rest : Option Fabric) → vendor_in known ≡ vendor_in rest → vendor_in (cond here (Some (known_by own fabric)) known) ≡ vendor_in (cond here (Some fabric) rest)
first_vendor true true fabric known rest h = refl
first_vendor true false fabric known rest h = refl
first_vendor false own fabric known rest h = h

known_index : (own : Bool) (index : ℕ) (fabric : Fabric) → has_index index (known_by own fabric) ≡ has_index index fabric
known_index true index fabric = refl
known_index false index fabric = refl

pub known_vendor : (knower : ℕ) (fabrics : List Fabric) (index : ℕ) → vendor_of (map (fabric_known_to knower) fabrics) index ≡ vendor_of fabrics index
known_vendor knower [] index = refl
known_vendor knower (fabric ∷ fabrics) index =
    rw (known_index (fabric.index == knower) index fabric)
    (first_vendor (has_index index fabric) (fabric.index == knower) fabric (find (has_index index) (map (fabric_known_to knower) fabrics)) (find (has_index index) fabrics) (known_vendor knower fabrics index))
