-- Network Commissioning.
use Rattle.std.specs.Prelude.{ℕ, List, [], ◌∷◌, ◌==◌, codes, if◌then◌else◌}
use Rattle.mt_names.specs.Columns.{Name}

abbrev pub attributes : List Name
attributes =
    (0, codes "MaxNetworks")
    ∷ (1, codes "Networks")
    ∷ (2, codes "ScanMaxTimeSeconds")
    ∷ (3, codes "ConnectMaxTimeSeconds")
    ∷ (4, codes "InterfaceEnabled")
    ∷ (5, codes "LastNetworkingStatus")
    ∷ (6, codes "LastNetworkID")
    ∷ (7, codes "LastConnectErrorValue")
    ∷ []

abbrev pub commands : List Name
commands =
    (2, codes "AddOrUpdateWiFiNetwork")
    ∷ (4, codes "RemoveNetwork")
    ∷ (6, codes "ConnectNetwork")
    ∷ (8, codes "ReorderNetwork")
    ∷ []

abbrev pub responses : List Name
responses =
    (5, codes "NetworkConfigResponse")
    ∷ (7, codes "ConnectNetworkResponse")
    ∷ []

abbrev pub command_fields : ℕ → List Name
command_fields command =
    if command == 2 then (0, codes "ssid") ∷ (1, codes "credentials") ∷ (2, codes "breadcrumb") ∷ []
    else if command == 4 then (0, codes "networkID") ∷ (1, codes "breadcrumb") ∷ []
    else if command == 6 then (0, codes "networkID") ∷ (1, codes "breadcrumb") ∷ []
    else if command == 8 then (0, codes "networkID") ∷ (1, codes "networkIndex") ∷ (2, codes "breadcrumb") ∷ []
    else []

abbrev pub response_fields : ℕ → List Name
response_fields command =
    if command == 5 then (0, codes "networkingStatus") ∷ (1, codes "debugText") ∷ (2, codes "networkIndex") ∷ []
    else if command == 7 then (0, codes "networkingStatus") ∷ (1, codes "debugText") ∷ (2, codes "errorValue") ∷ []
    else []

abbrev pub value_fields : ℕ → List Name
value_fields attribute =
    if attribute == 1 then (0, codes "networkID") ∷ (1, codes "connected") ∷ []
    else []
