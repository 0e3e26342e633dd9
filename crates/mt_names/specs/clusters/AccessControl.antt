-- Access Control.
use Rattle.std.specs.Prelude.{ℕ, List, [], ◌∷◌, ◌==◌, codes, if◌then◌else◌}
use Rattle.mt_names.specs.Columns.{Name}

abbrev pub attributes : List Name
attributes =
    (0, codes "ACL")
    ∷ (2, codes "SubjectsPerAccessControlEntry")
    ∷ (3, codes "TargetsPerAccessControlEntry")
    ∷ (4, codes "AccessControlEntriesPerFabric")
    ∷ []

abbrev pub events : List Name
events =
    (0, codes "AccessControlEntryChanged")
    ∷ []

abbrev pub item_fields : List Name
item_fields =
    (1, codes "privilege")
    ∷ (2, codes "mode")
    ∷ (3, codes "subjects")
    ∷ (4, codes "targets")
    ∷ (254, codes "fabric")
    ∷ []

abbrev pub event_fields : ℕ → List Name
event_fields event =
    if event == 0 then (1, codes "adminNode") ∷ (2, codes "adminPasscode") ∷ (3, codes "change") ∷ (4, codes "entry") ∷ (254, codes "fabric") ∷ []
    else []
