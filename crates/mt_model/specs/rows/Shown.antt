-- What of a place's rows is shown to a fabric: the items of a list, and the value of an attribute that is none.
use Rattle.std.specs.Prelude.{ℕ, ◌==◌, ◌&&◌, not, Bool, List, [], ◌∷◌, if◌then◌else◌}
use Rattle.std.specs.List.{flat_map}
use Rattle.mt_tlv.specs.Tree.{Elements}
use Rattle.mt_tlv.specs.View.{elements}
use Rattle.mt_tlv.specs.declared.value.Tag.{Tag}
use Rattle.mt_tlv.specs.declared.value.Tag.TheVariants.{Anonymous}
use Rattle.mt_tlv.specs.declared.value.Value.{Value}
use Rattle.mt_tlv.specs.declared.value.Value.TheVariants as values
use Rattle.mt_model.specs.rows.Sight.{seen_by}
use Rattle.mt_model.specs.declared.rows.place.Row.{Row}

-- the item of a row as the fabric sees it; none of another's row where the fabric's own alone are asked
abbrev pub shown_item : ℕ → Bool → Row → List (Tag × Value)
shown_item fabric own row = if own && not (row.fabric == fabric) then [] else (Anonymous, (seen_by fabric row).value) ∷ []

abbrev pub shown_items : ℕ → Bool → List Row → Elements
shown_items fabric own rows = elements (flat_map (shown_item fabric own) rows)

-- the value of the first row, null where there is no row
abbrev pub first_value : List Row → Value
first_value [] = values.Null
first_value (row ∷ rows) = row.value

-- the same as the fabric sees it
abbrev pub shown_value : ℕ → List Row → Value
shown_value fabric [] = values.Null
shown_value fabric (row ∷ rows) = (seen_by fabric row).value
