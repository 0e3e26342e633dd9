-- Lists of which each item is a fabric's.
use Rattle.std.specs.Prelude.{ℕ}
use Rattle.mt_tlv.specs.Tree.{uint, none, more}
use Rattle.mt_tlv.specs.declared.value.Tag.TheVariants.{Context}
use Rattle.mt_tlv.specs.declared.value.Value.{Value}
use Rattle.mt_tlv.specs.declared.value.Value.TheVariants as values
use Rattle.mt_model.specs.rows.Order.{row_at}
use Rattle.mt_model.specs.declared.rows.place.Place.{Place}
use Rattle.mt_model.specs.declared.rows.place.Row.{Row}

-- the row of an item, by its fabric and its value
abbrev pub item_row : {X : Type 0} → (X → ℕ) → (X → Value) → Place → X → Row
item_row fabric value place item = row_at place (fabric item) (value item)

-- an item of which nothing is left but the field that names its fabric
abbrev pub fabric_alone : ℕ → Value
fabric_alone fabric = values.Struct (more (Context 254) (uint fabric) none)
