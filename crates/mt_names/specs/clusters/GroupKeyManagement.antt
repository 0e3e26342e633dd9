-- Group Key Management.
use Rattle.std.specs.Prelude.{ℕ, List, [], ◌∷◌, ◌==◌, codes, if◌then◌else◌}
use Rattle.mt_names.specs.Columns.{Name}

abbrev pub attributes : List Name
attributes =
    (0, codes "GroupKeyMap")
    ∷ (1, codes "GroupTable")
    ∷ (2, codes "MaxGroupsPerFabric")
    ∷ (3, codes "MaxGroupKeysPerFabric")
    ∷ []

abbrev pub commands : List Name
commands =
    (0, codes "KeySetWrite")
    ∷ (1, codes "KeySetRead")
    ∷ (3, codes "KeySetRemove")
    ∷ (4, codes "KeySetReadAllIndices")
    ∷ []

abbrev pub responses : List Name
responses =
    (2, codes "KeySetReadResponse")
    ∷ (5, codes "KeySetReadAllIndicesResponse")
    ∷ []

-- the fields of an item of the map
abbrev pub map_item_fields : List Name
map_item_fields =
    (1, codes "groupId")
    ∷ (2, codes "groupKeySetID")
    ∷ (254, codes "fabric")
    ∷ []

-- the fields of a key set
abbrev pub set_fields : List Name
set_fields =
    (0, codes "groupKeySetID")
    ∷ (1, codes "groupKeySecurityPolicy")
    ∷ (2, codes "epochKey0")
    ∷ (3, codes "epochStartTime0")
    ∷ (4, codes "epochKey1")
    ∷ (5, codes "epochStartTime1")
    ∷ (6, codes "epochKey2")
    ∷ (7, codes "epochStartTime2")
    ∷ (254, codes "fabric")
    ∷ []

abbrev pub command_fields : ℕ → List Name
command_fields command =
    if command == 0 then (0, codes "groupKeySet") ∷ []
    else if command == 1 then (0, codes "groupKeySetID") ∷ []
    else if command == 3 then (0, codes "groupKeySetID") ∷ []
    else []

abbrev pub response_fields : ℕ → List Name
response_fields command =
    if command == 2 then (0, codes "groupKeySet") ∷ []
    else if command == 5 then (0, codes "groupKeySetIDs") ∷ []
    else []

abbrev pub value_fields : ℕ → List Name
value_fields attribute =
    if attribute == 1 then (1, codes "groupId") ∷ (2, codes "endpoints") ∷ (3, codes "groupName") ∷ (254, codes "fabric") ∷ []
    else []
