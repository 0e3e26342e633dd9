-- User Label.
use Rattle.std.specs.Prelude.{List, [], ◌∷◌, codes}
use Rattle.mt_names.specs.Columns.{Name}

abbrev pub attributes : List Name
attributes =
    (0, codes "LabelList")
    ∷ []

abbrev pub item_fields : List Name
item_fields =
    (0, codes "label")
    ∷ (1, codes "value")
    ∷ []
