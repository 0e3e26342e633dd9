-- Binding.
use Rattle.std.specs.Prelude.{List, [], ◌∷◌, codes}
use Rattle.mt_names.specs.Columns.{Name}

abbrev pub attributes : List Name
attributes =
    (0, codes "Binding")
    ∷ []

abbrev pub item_fields : List Name
item_fields =
    (1, codes "node")
    ∷ (3, codes "endpoint")
    ∷ (4, codes "cluster")
    ∷ (254, codes "fabric")
    ∷ []
