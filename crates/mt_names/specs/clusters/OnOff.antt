-- On/Off.
use Rattle.std.specs.Prelude.{List, [], ◌∷◌, codes}
use Rattle.mt_names.specs.Columns.{Name}

abbrev pub attributes : List Name
attributes =
    (0, codes "OnOff")
    ∷ []

abbrev pub commands : List Name
commands =
    (0, codes "Off")
    ∷ (1, codes "On")
    ∷ (2, codes "Toggle")
    ∷ []
