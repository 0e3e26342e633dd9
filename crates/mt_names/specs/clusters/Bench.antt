-- Bench, a cluster of this project.
use Rattle.std.specs.Prelude.{ℕ, List, [], ◌∷◌, ◌==◌, codes, if◌then◌else◌}
use Rattle.mt_names.specs.Columns.{Name}

abbrev pub attributes : List Name
attributes =
    (0, codes "Items")
    ∷ (1, codes "Number")
    ∷ []

abbrev pub commands : List Name
commands =
    (0, codes "Ring")
    ∷ []

abbrev pub events : List Name
events =
    (0, codes "Rung")
    ∷ []

abbrev pub item_fields : List Name
item_fields =
    (1, codes "name")
    ∷ (2, codes "secret")
    ∷ (254, codes "fabric")
    ∷ []

abbrev pub event_fields : ℕ → List Name
event_fields event =
    if event == 0 then (0, codes "number") ∷ (254, codes "fabric") ∷ []
    else []
