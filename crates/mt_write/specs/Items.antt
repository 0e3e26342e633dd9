-- As what the items of a written list are kept, and which status refuses them, item by item in their order.
use Rattle.std.specs.Prelude.{ℕ, ◌==◌, ◌-◌, List, [], ◌∷◌, Option, Some, None, Result, Ok, Err, if◌then◌else◌, Bool, true, false}
use Rattle.std.specs.List.{flat_map}
use Rattle.std.specs.Option.{option_map}
use Rattle.mt_tlv.specs.Tree.{Tree, structure, Elements, none, more}
use Rattle.mt_tlv.specs.View.{elements, tree, value_of}
use Rattle.mt_tlv.specs.declared.value.Tag.{Tag}
use Rattle.mt_tlv.specs.declared.value.Tag.TheVariants.{Anonymous, Context}
use Rattle.mt_tlv.specs.declared.value.Value.{Value}
use Rattle.mt_tlv.specs.declared.value.Value.TheVariants as values
use Rattle.mt_model.specs.Trees.{field_in}
use Rattle.mt_model.specs.declared.messages.message.Index.{Index}
use Rattle.mt_model.specs.declared.messages.message.Index.TheVariants.{Append}
use Rattle.mt_model.specs.declared.messages.status.Status.{Status}
use Rattle.mt_model.specs.declared.messages.status.Status.TheVariants.{ConstraintError, InvalidDataType, ResourceExhausted}
use Rattle.mt_meta.specs.declared.rows.Field.{Field}
use Rattle.mt_meta.specs.declared.rows.Form.{Form}
use Rattle.mt_meta.specs.Fields.{all_elements, are_within, is_fabric_index, is_item}

-- The items that are written.

abbrev pub is_append : Index → Bool
is_append Append = true
is_append index = false

abbrev pub array_in : Value → Option Elements
array_in (values.Array es) = Some es
array_in value = None

-- the one that is appended, or the elements of an array
abbrev pub given_items : Index → Value → Option Elements
given_items index value = if is_append index then Some (more Anonymous (tree value) none) else array_in value

-- Whose an item is is kept as the writer's fabric, whatever it says.
abbrev pub kept_value : ℕ → Form → Option Tree → Option Value
kept_value fabric form given = if is_fabric_index form then Some (values.Uint fabric) else option_map value_of given

abbrev pub tagged : ℕ → Option Value → List (Tag × Value)
tagged number None = []
tagged number (Some value) = (Context number, value) ∷ []

-- the named fields alone, in the order of the table
abbrev pub kept_fields : ℕ → List Field → Elements → List (Tag × Value)
kept_fields fabric fields es = flat_map (λ (field : Field). tagged field.number (kept_value fabric field.form (field_in field.number es))) fields

-- The item that an item is kept as; None where it breaks a limit.
abbrev pub kept_item : List Field → ℕ → Tree → Option Value
kept_item fields fabric (structure es) = if are_within fields es then Some (values.Struct (elements (kept_fields fabric fields es))) else None
kept_item fields fabric tree = None

-- What is kept of each.

-- an item breaks a limit, or finds no room
abbrev pub with_room : {X : Type 0} → ℕ → Option X → Result X Status
with_room room None = Err ConstraintError
with_room room (Some x) = if room == 0 then Err ResourceExhausted else Ok x

abbrev pub in_front : {X : Type 0} → Result X Status → Result (List X) Status → Result (List X) Status
in_front (Err status) rest = Err status
in_front (Ok x) (Err status) = Err status
in_front (Ok x) (Ok xs) = Ok (x ∷ xs)

-- what each item is kept as, where there is room for so many
unfoldable pub kept_each : {X : Type 0} → (Tree → Option X) → ℕ → Elements → Result (List X) Status
kept_each keep room none = Ok []
kept_each keep room (more tag v es) = in_front (with_room room (keep v)) (kept_each keep (room - 1) es)

-- The new items, or the status that refuses them: first the types of all.
abbrev pub new_items : {X : Type 0} → (Tree → Option X) → List Field → ℕ → Option Elements → Result (List X) Status
new_items keep fields room None = Err InvalidDataType
new_items keep fields room (Some es) = if all_elements (is_item fields) es then kept_each keep room es else Err InvalidDataType
