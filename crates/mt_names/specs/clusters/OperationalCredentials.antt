-- Operational Credentials.
use Rattle.std.specs.Prelude.{ℕ, List, [], ◌∷◌, ◌==◌, codes, if◌then◌else◌}
use Rattle.mt_names.specs.Columns.{Name}

abbrev pub attributes : List Name
attributes =
    (0, codes "NOCs")
    ∷ (1, codes "Fabrics")
    ∷ (2, codes "SupportedFabrics")
    ∷ (3, codes "CommissionedFabrics")
    ∷ (4, codes "TrustedRootCertificates")
    ∷ (5, codes "CurrentFabricIndex")
    ∷ []

abbrev pub commands : List Name
commands =
    (4, codes "CSRRequest")
    ∷ (6, codes "AddNOC")
    ∷ (7, codes "UpdateNOC")
    ∷ (9, codes "UpdateFabricLabel")
    ∷ (10, codes "RemoveFabric")
    ∷ (11, codes "AddTrustedRootCertificate")
    ∷ []

abbrev pub responses : List Name
responses =
    (5, codes "CSRResponse")
    ∷ (8, codes "NOCResponse")
    ∷ []

abbrev pub command_fields : ℕ → List Name
command_fields command =
    if command == 4 then (0, codes "csrNonce") ∷ (1, codes "isForUpdateNOC") ∷ []
    else if command == 6 then (0, codes "noc") ∷ (1, codes "icac") ∷ (2, codes "ipk") ∷ (3, codes "caseAdminSubject") ∷ (4, codes "adminVendorID") ∷ []
    else if command == 7 then (0, codes "noc") ∷ (1, codes "icac") ∷ []
    else if command == 9 then (0, codes "label") ∷ []
    else if command == 10 then (0, codes "fabric") ∷ []
    else if command == 11 then (0, codes "rootCertificate") ∷ []
    else []

abbrev pub response_fields : ℕ → List Name
response_fields command =
    if command == 5 then (0, codes "nocsrElements") ∷ (1, codes "attestationSignature") ∷ []
    else if command == 8 then (0, codes "status") ∷ (1, codes "fabric") ∷ (2, codes "debugText") ∷ []
    else []

abbrev pub value_fields : ℕ → List Name
value_fields attribute =
    if attribute == 0 then (1, codes "noc") ∷ (2, codes "icac") ∷ (254, codes "fabric") ∷ []
    else if attribute == 1 then (1, codes "rootPublicKey") ∷ (2, codes "vendorID") ∷ (3, codes "fabricID") ∷ (4, codes "nodeID") ∷ (5, codes "label") ∷ (254, codes "fabric") ∷ []
    else []
