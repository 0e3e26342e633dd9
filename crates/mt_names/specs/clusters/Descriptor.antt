-- Descriptor.
use Rattle.std.specs.Prelude.{ℕ, List, [], ◌∷◌, ◌==◌, codes, if◌then◌else◌}
use Rattle.mt_names.specs.Columns.{Name}

abbrev pub attributes : List Name
attributes =
    (0, codes "DeviceTypeList")
    ∷ (1, codes "ServerList")
    ∷ (2, codes "ClientList")
    ∷ (3, codes "PartsList")
    ∷ []

abbrev pub value_fields : ℕ → List Name
value_fields attribute =
    if attribute == 0 then (0, codes "deviceType") ∷ (1, codes "revision") ∷ []
    else []
