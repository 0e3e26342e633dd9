-- What a write answers and changes (Matter Core Specification, section 8.7, Write Interaction), made of what the writer's fabric
-- sees.
use Rattle.std.specs.Prelude.{ℕ, ◌==◌, ◌-◌, ◌&&◌, ◌||◌, not, Bool, true, false, List, [], ◌∷◌, ◌++◌, Option, Some, None, Result, Ok, Err, filter, is_none, length, map, if◌then◌else◌}
use Rattle.mt_tlv.specs.Tree.{Tree, Elements, none, more}
use Rattle.mt_tlv.specs.View.{tree}
use Rattle.mt_tlv.specs.declared.value.Tag.TheVariants.{Anonymous}
use Rattle.mt_tlv.specs.declared.value.Value.{Value}
use Rattle.mt_tlv.specs.declared.value.Value.TheVariants as values
use Rattle.mt_model.specs.messages.Blocks.{names_item, place_named}
use Rattle.mt_model.specs.rows.Seen.{Seen}
use Rattle.mt_model.specs.messages.Status.{code_of}
use Rattle.mt_model.specs.declared.tables.access.AclEntry.{AclEntry}
use Rattle.mt_model.specs.declared.tables.access.Actor.{Actor}
use Rattle.mt_model.specs.declared.node.action.NodeStep.{NodeStep}
use Rattle.mt_model.specs.declared.node.action.NodeStep.TheVariants.{SetRow, SetEntries}
use Rattle.mt_model.specs.declared.messages.message.Index.{Index}
use Rattle.mt_model.specs.declared.messages.message.Index.TheVariants.{Whole, At}
use Rattle.mt_model.specs.declared.messages.message.Item.{Item}
use Rattle.mt_model.specs.declared.messages.message.Item.TheVariants.{Refused}
use Rattle.mt_model.specs.declared.messages.message.Path.{Path}
use Rattle.mt_model.specs.declared.messages.message.WriteItem.{WriteItem}
use Rattle.mt_model.specs.declared.rows.place.Place.{Place}
use Rattle.mt_model.specs.declared.rows.place.Row.{Row}
use Rattle.mt_model.specs.declared.messages.status.Status.{Status}
use Rattle.mt_model.specs.declared.messages.status.Status.TheVariants.{Success, UnsupportedAccess, InvalidAction, UnsupportedWrite, NeedsTimedInteraction, DataVersionMismatch, InvalidDataType, ConstraintError}
use Rattle.mt_acl.specs.Access.{is_granted_if_asked}
use Rattle.mt_meta.specs.Finding.{find_of, privilege_of}
use Rattle.mt_meta.specs.Forms.{count_in}
use Rattle.mt_meta.specs.Table.{fields_of}
use Rattle.mt_meta.specs.Writable.{takes_of}
use Rattle.mt_meta.specs.declared.finding.Asked.TheVariants.{Write}
use Rattle.mt_meta.specs.declared.meta.Kind.{Kind}
use Rattle.mt_meta.specs.declared.meta.Kind.TheVariants as kinds
use Rattle.mt_meta.specs.declared.meta.Meta.{Meta}
use Rattle.mt_meta.specs.declared.rows.Form.{Form}
use Rattle.mt_meta.specs.declared.rows.Takes.{Takes}
use Rattle.mt_meta.specs.declared.rows.Takes.TheVariants as takes
use Rattle.mt_write.specs.Entries.{kept_entry}
use Rattle.mt_meta.specs.Fields.{has_type, is_within}
use Rattle.mt_write.specs.Items.{given_items, is_append, kept_item, new_items}
use Rattle.mt_write.specs.Latest.{entries_now, rows_now}
use Rattle.mt_write.specs.declared.writing.Written.{Written}

-- Access, asked of the entries as they stood before the request.

-- a place that is not there is not scoped
abbrev pub is_scoped : Result Meta Status → Bool
is_scoped (Ok meta) = meta.scoped
is_scoped (Err status) = false

-- no privilege is asked for what is not writable, which is refused as such
abbrev pub may_write : Seen → Actor → Place → Bool
may_write seen actor place = is_granted_if_asked seen.entries actor place (privilege_of place Write) (is_scoped (find_of place))

-- What stands in the way of an attribute that is there.

-- the item asks for another version than its cluster has
abbrev pub is_outdated : Option ℕ → ℕ → Bool
is_outdated None version = false
is_outdated (Some wanted) version = not (wanted == version)

abbrev pub open_at : ℕ → Bool → WriteItem → Result Meta Status → Result Meta Status
open_at version timed item (Err status) = Err status
open_at version timed item (Ok meta) =
    if is_none meta.write || names_item item.path then Err UnsupportedWrite
    else if meta.timed && not timed then Err NeedsTimedInteraction
    else if is_outdated item.version version then Err DataVersionMismatch
    else Ok meta

-- the attribute, if nothing stands in the way: access comes first
abbrev pub opened : Seen → Actor → Bool → WriteItem → Place → Result Meta Status
opened seen actor timed item place =
    if may_write seen actor place then open_at (seen.version_of place.endpoint place.cluster) timed item (find_of place)
    else Err UnsupportedAccess

-- Values.

-- a value that is no list
abbrev pub new_value : Form → Index → Value → Result (List Value) Status
new_value form index value = if is_append index || not (has_type form (tree value)) then Err InvalidDataType
    else if not (is_within form (tree value)) then Err ConstraintError
    else Ok (value ∷ [])

-- Lists. What is appended stands behind what is there, and any other value replaces it.
abbrev pub staying : {X : Type 0} → Index → List X → List X
staying index there = if is_append index then there else []

-- a list that is not scoped is one row, an array
abbrev pub elements_in : Value → Elements
elements_in (values.Array es) = es
elements_in value = none

abbrev pub members_of : List Value → Elements
members_of [] = none
members_of (value ∷ rows) = elements_in value

abbrev pub with_items : Elements → List Value → Elements
with_items none [] = none
with_items none (item ∷ items) = more Anonymous (tree item) (with_items none items)
with_items (more tag v es) items = more tag v (with_items es items)

abbrev pub array_of : Elements → Result (List Value) Status → Result (List Value) Status
array_of es (Err status) = Err status
array_of es (Ok items) = Ok (values.Array (with_items es items) ∷ [])

abbrev pub behind : {X : Type 0} → List X → Result (List X) Status → Result (List X) Status
behind there (Err status) = Err status
behind there (Ok items) = Ok (there ++ items)

-- the items of a list of which these stay

abbrev pub list_with : {X : Type 0} → (Tree → Option X) → Meta → Index → Value → List X → Result (List X) Status
list_with keep meta index value there = behind there (new_items keep (fields_of meta.kind) (meta.limit - length there) (given_items index value))

abbrev pub array_with : (Tree → Option Value) → Meta → Index → Value → Elements → Result (List Value) Status
array_with keep meta index value there = array_of there (new_items keep (fields_of meta.kind) (meta.limit - count_in there) (given_items index value))

abbrev pub rows_with : Meta → ℕ → Index → Value → List Value → Result (List Value) Status
rows_with meta fabric index value there =
    if meta.scoped then list_with (kept_item (fields_of meta.kind) fabric) meta index value there
    else array_with (kept_item (fields_of meta.kind) fabric) meta index value (members_of there)

-- the rows of a place behind a write, where these stand before it
abbrev pub new_rows : Meta → Option Takes → ℕ → Index → Value → List Value → Result (List Value) Status
new_rows meta (Some (takes.Value form)) fabric index value before = new_value form index value
new_rows meta (Some takes.Items) fabric index value before = rows_with meta fabric index value (staying index before)
new_rows meta (Some takes.Nothing) fabric index value before = Err InvalidDataType
new_rows meta None fabric index value before = Err InvalidDataType

-- Steps. An item touches what is the writer's own, or nobody's, and nothing else.

abbrev pub own_values : ℕ → List Row → List Value
own_values fabric rows = map (λ (row : Row). row.value) (filter (λ (row : Row). row.fabric == fabric) rows)

abbrev pub row_step : Place → ℕ → Result (List Value) Status → Result NodeStep Status
row_step place fabric (Err status) = Err status
row_step place fabric (Ok rows) = Ok (SetRow place fabric rows)

abbrev pub entries_step : ℕ → Result (List AclEntry) Status → Result NodeStep Status
entries_step fabric (Err status) = Err status
entries_step fabric (Ok entries) = Ok (SetEntries fabric entries)

-- the step of an item, where these stand as the steps before it leave them

abbrev pub rows_written : WriteItem → Place → Meta → ℕ → List Value → Result NodeStep Status
rows_written item place meta fabric before = row_step place fabric (new_rows meta (takes_of place) fabric item.path.index item.value before)

abbrev pub entries_written : WriteItem → Meta → ℕ → List AclEntry → Result NodeStep Status
entries_written item meta fabric before = entries_step fabric (list_with (kept_entry fabric) meta item.path.index item.value (staying item.path.index before))

abbrev pub is_entry_list : Kind → Bool
is_entry_list kinds.Acl = true
is_entry_list kind = false

-- the writer's fabric where the attribute is scoped, and nobody otherwise
abbrev pub fabric_of : Actor → Meta → ℕ
fabric_of actor meta = if meta.scoped then actor.fabric else 0

abbrev pub written_at : Seen → Actor → List NodeStep → WriteItem → Place → Result Meta Status → Result NodeStep Status
written_at seen actor steps item place (Err status) = Err status
written_at seen actor steps item place (Ok meta) =
    if is_entry_list meta.kind then entries_written item meta actor.fabric (entries_now actor.fabric steps seen.entries)
    else rows_written item place meta (fabric_of actor meta) (rows_now place (fabric_of actor meta) steps (own_values (fabric_of actor meta) (seen.rows_at place)))

-- The step that an item makes behind these, or the first status that refuses it. A request has no item with a wildcard.
abbrev pub item_step : Seen → Actor → Bool → List NodeStep → WriteItem → Option Place → Result NodeStep Status
item_step seen actor timed steps item None = Err InvalidAction
item_step seen actor timed steps item (Some place) = written_at seen actor steps item place (opened seen actor timed item place)

-- The request.

-- A path as a status tells it: a number that names one item of a list is not told again.

abbrev pub told_index : Index → Index
told_index (At n) = Whole
told_index index = index

abbrev pub told_path : Path → Path
told_path path = record path { index = told_index path.index }

-- a status under the path of its item
abbrev pub status_item : Path → Status → Item
status_item path status = Refused (told_path path) (code_of status)

-- an item that is refused changes nothing
abbrev pub with_step : Written → Path → Result NodeStep Status → Written
with_step written path (Err status) = record written { statuses = written.statuses ++ status_item path status ∷ [] }
with_step written path (Ok step) = record written { rows = written.rows ++ step ∷ []; statuses = written.statuses ++ status_item path Success ∷ [] }

abbrev pub with_item : Seen → Actor → Bool → Written → WriteItem → Written
with_item seen actor timed written item = with_step written item.path (item_step seen actor timed written.rows item (place_named item.path))

abbrev pub with_all : Seen → Actor → Bool → Written → List WriteItem → Written
with_all seen actor timed written [] = written
with_all seen actor timed written (item ∷ items) = with_all seen actor timed (with_item seen actor timed written item) items

-- The statuses of a write item by item, in their order, and the steps that the items make, one after the other. An item finds the
-- values that those before it leave, and the entries that grant as they stood before the request.
abbrev pub write_answer : Seen → Actor → List WriteItem → Bool → Written
write_answer seen actor items timed = with_all seen actor timed (record { rows = []; statuses = [] }) items
