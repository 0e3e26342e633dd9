-- Administrator Commissioning.
use Rattle.std.specs.Prelude.{ℕ, List, [], ◌∷◌, ◌==◌, codes, if◌then◌else◌}
use Rattle.mt_names.specs.Columns.{Name}

abbrev pub attributes : List Name
attributes =
    (0, codes "WindowStatus")
    ∷ (1, codes "AdminFabricIndex")
    ∷ (2, codes "AdminVendorId")
    ∷ []

-- those above the global ones
abbrev pub extensions : List Name
extensions =
    (0xfff10000, codes "WindowEnd")
    ∷ []

abbrev pub commands : List Name
commands =
    (0, codes "OpenCommissioningWindow")
    ∷ (1, codes "OpenBasicCommissioningWindow")
    ∷ (2, codes "RevokeCommissioning")
    ∷ []

abbrev pub command_fields : ℕ → List Name
command_fields command =
    if command == 0 then (0, codes "commissioningTimeout") ∷ (1, codes "pakePasscodeVerifier") ∷ (2, codes "discriminator") ∷ (3, codes "iterations") ∷ (4, codes "salt") ∷ []
    else if command == 1 then (0, codes "commissioningTimeout") ∷ []
    else []
