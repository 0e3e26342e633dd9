-- A commissioning window: four attributes on endpoint 0, of which each has one row, which is nobody's. They are not kept over a restart.
use Rattle.std.specs.Prelude.{ℕ, ◌+◌, ◌*◌, ◌==◌, min, nat_le, not, Bool, false, List, [], ◌∷◌, Option, Some, None, option_and_then, option_map, unwrap_or, if◌then◌else◌}
use Rattle.std.specs.List.{find}
use Rattle.mt_fabrics.specs.Table.{has_index}
use Rattle.mt_tlv.specs.Scalars.{unsigned_in}
use Rattle.mt_tlv.specs.View.{tree}
use Rattle.mt_tlv.specs.declared.value.Value.{Value}
use Rattle.mt_tlv.specs.declared.value.Value.TheVariants as values
use Rattle.mt_model.specs.rows.Shown.{first_value}
use Rattle.mt_model.specs.declared.node.action.NodeStep.{NodeStep}
use Rattle.mt_model.specs.declared.node.action.NodeStep.TheVariants.{SetRow}
use Rattle.mt_model.specs.declared.rows.place.Place.{Place}
use Rattle.mt_model.specs.declared.rows.place.Row.{Row}
use Rattle.mt_model.specs.declared.tables.fabric.Fabric.{Fabric}
use Rattle.mt_admin.specs.declared.windows.Window.{Window}
use Rattle.mt_admin.specs.declared.windows.Window.TheVariants.{Closed, Enhanced, Basic}

-- an attribute of the cluster: 0 WindowStatus, 1 AdminFabricIndex, 2 AdminVendorId, and WindowEnd, which is this project's own
abbrev pub window_at : ℕ → Place
window_at leaf = record { endpoint = 0; cluster = 0x3c; leaf = leaf }

abbrev pub window_end : ℕ
window_end = 0xfff10000

-- WindowStatus
abbrev pub number_of_window : Window → ℕ
number_of_window Closed = 0
number_of_window Enhanced = 1
number_of_window Basic = 2

-- the number of an attribute, None where it is null
abbrev pub number_at : (Place → List Row) → ℕ → Option ℕ
number_at rows_at leaf = unsigned_in (tree (first_value (rows_at (window_at leaf))))

-- whether a window is open
abbrev pub is_open : (Place → List Row) → Bool
is_open rows_at = not (unwrap_or (number_at rows_at 0) 0 == 0)

-- Opening and closing.

abbrev pub set_attribute : ℕ → Value → NodeStep
set_attribute leaf value = SetRow (window_at leaf) 0 (value ∷ [])

abbrev pub nullable_value : Option ℕ → Value
nullable_value None = values.Null
nullable_value (Some n) = values.Uint n

-- nobody's fabric is 0
abbrev pub some_fabric : ℕ → Option ℕ
some_fabric fabric = if fabric == 0 then None else Some fabric

-- the vendor of a fabric
abbrev pub vendor_of : List Fabric → ℕ → Option ℕ
vendor_of fabrics fabric = option_map (λ (f : Fabric). f.vendor) (find (has_index fabric) fabrics)

-- when a window ends that is opened now for so many seconds, in ms
abbrev pub end_behind : ℕ → ℕ → ℕ
end_behind now seconds = min (now + 1000 * seconds) 0xffffffffffffffff

-- a window of this kind, opened by an administrator of this fabric
abbrev pub opened : Window → List Fabric → ℕ → ℕ → ℕ → List NodeStep
opened window fabrics fabric seconds now =
    set_attribute 0 (values.Uint (number_of_window window))
    ∷ set_attribute 1 (nullable_value (some_fabric fabric))
    ∷ set_attribute 2 (nullable_value (option_and_then (vendor_of fabrics) (some_fabric fabric)))
    ∷ set_attribute window_end (values.Uint (end_behind now seconds))
    ∷ []

-- all attributes have their first values
abbrev pub closed : List NodeStep
closed =
    set_attribute 0 (values.Uint (number_of_window Closed))
    ∷ set_attribute 1 values.Null
    ∷ set_attribute 2 values.Null
    ∷ set_attribute window_end values.Null
    ∷ []

-- What a time step makes of it: it is closed where its end has come.

abbrev pub has_ended : ℕ → Option ℕ → Bool
has_ended now None = false
has_ended now (Some until) = nat_le until now

abbrev pub ticked : (Place → List Row) → ℕ → List NodeStep
ticked rows_at now = if has_ended now (number_at rows_at window_end) then closed else []
