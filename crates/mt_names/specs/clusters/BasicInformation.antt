-- Basic Information.
use Rattle.std.specs.Prelude.{ℕ, List, [], ◌∷◌, ◌==◌, codes, if◌then◌else◌}
use Rattle.mt_names.specs.Columns.{Name}

abbrev pub attributes : List Name
attributes =
    (0, codes "DataModelRevision")
    ∷ (1, codes "VendorName")
    ∷ (2, codes "VendorID")
    ∷ (3, codes "ProductName")
    ∷ (4, codes "ProductID")
    ∷ (5, codes "NodeLabel")
    ∷ (6, codes "Location")
    ∷ (7, codes "HardwareVersion")
    ∷ (8, codes "HardwareVersionString")
    ∷ (9, codes "SoftwareVersion")
    ∷ (10, codes "SoftwareVersionString")
    ∷ (19, codes "CapabilityMinima")
    ∷ []

abbrev pub events : List Name
events =
    (0, codes "StartUp")
    ∷ (2, codes "Leave")
    ∷ []

abbrev pub event_fields : ℕ → List Name
event_fields event =
    if event == 0 then (0, codes "softwareVersion") ∷ []
    else if event == 2 then (0, codes "fabric") ∷ []
    else []

abbrev pub value_fields : ℕ → List Name
value_fields attribute =
    if attribute == 19 then (0, codes "caseSessionsPerFabric") ∷ (1, codes "subscriptionsPerFabric") ∷ []
    else []
