-- General Commissioning.
use Rattle.std.specs.Prelude.{ℕ, List, [], ◌∷◌, ◌==◌, codes, if◌then◌else◌}
use Rattle.mt_names.specs.Columns.{Name}

abbrev pub attributes : List Name
attributes =
    (0, codes "Breadcrumb")
    ∷ (1, codes "BasicCommissioningInfo")
    ∷ (2, codes "RegulatoryConfig")
    ∷ (3, codes "LocationCapability")
    ∷ (4, codes "SupportsConcurrentConnection")
    ∷ []

abbrev pub commands : List Name
commands =
    (0, codes "ArmFailSafe")
    ∷ (2, codes "SetRegulatoryConfig")
    ∷ (4, codes "CommissioningComplete")
    ∷ []

abbrev pub responses : List Name
responses =
    (1, codes "ArmFailSafeResponse")
    ∷ (3, codes "SetRegulatoryConfigResponse")
    ∷ (5, codes "CommissioningCompleteResponse")
    ∷ []

abbrev pub command_fields : ℕ → List Name
command_fields command =
    if command == 0 then (0, codes "expiryLengthSeconds") ∷ (1, codes "breadcrumb") ∷ []
    else if command == 2 then (0, codes "newRegulatoryConfig") ∷ (1, codes "countryCode") ∷ (2, codes "breadcrumb") ∷ []
    else []

abbrev pub response_fields : ℕ → List Name
response_fields command =
    if command == 1 then (0, codes "errorCode") ∷ (1, codes "debugText") ∷ []
    else if command == 3 then (0, codes "errorCode") ∷ (1, codes "debugText") ∷ []
    else if command == 5 then (0, codes "errorCode") ∷ (1, codes "debugText") ∷ []
    else []

abbrev pub value_fields : ℕ → List Name
value_fields attribute =
    if attribute == 1 then (0, codes "failSafeExpiryLengthSeconds") ∷ (1, codes "maxCumulativeFailsafeSeconds") ∷ []
    else []
