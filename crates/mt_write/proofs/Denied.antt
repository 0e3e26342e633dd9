-- A write is denied exactly where nothing grants.
use Rattle.std.proofs.Common.{◌≡◌, ℕ, ◌==◌, ◌||◌, ◌&&◌, ◌-◌, ◌++◌, is_none, length, not, Bool, true, false, List, [], ◌∷◌, Option, Some, None, Result, Ok, Err, refl, sym, ap, ◌∙◌, if◌then◌else◌}
use Rattle.std.specs.List.{list_any}
use Rattle.mt_acl.specs.Access.{implicit_grants, is_granted_if_asked, own_entry_grants}
use Rattle.mt_meta.specs.Finding.{attribute_of, find_of, found, has_cluster, is_endpoint, privilege_of}
use Rattle.mt_meta.specs.Forms.{count_in}
use Rattle.mt_meta.specs.Table.{fields_of}
use Rattle.mt_meta.specs.Writable.{takes_of}
use Rattle.mt_meta.specs.declared.finding.Asked.TheVariants.{Write}
use Rattle.mt_meta.specs.declared.meta.Meta.{Meta}
use Rattle.mt_meta.specs.declared.rows.Field.{Field}
use Rattle.mt_meta.specs.declared.rows.Form.{Form}
use Rattle.mt_meta.specs.declared.rows.Takes.{Takes}
use Rattle.mt_meta.specs.declared.rows.Takes.TheVariants as takes
use Rattle.mt_model.specs.messages.Blocks.{names_item}
use Rattle.mt_model.specs.rows.Seen.{Seen}
use Rattle.mt_model.specs.declared.tables.access.AclEntry.{AclEntry}
use Rattle.mt_model.specs.declared.tables.access.Actor.{Actor}
use Rattle.mt_model.specs.declared.tables.access.Privilege.{Privilege}
use Rattle.mt_model.specs.declared.node.action.NodeStep.{NodeStep}
use Rattle.mt_model.specs.declared.messages.message.Index.{Index}
use Rattle.mt_model.specs.declared.messages.message.WriteItem.{WriteItem}
use Rattle.mt_model.specs.declared.rows.place.Place.{Place}
use Rattle.mt_model.specs.declared.messages.status.Status.{Status}
use Rattle.mt_model.specs.declared.messages.status.Status.TheVariants.{UnsupportedAccess, UnsupportedAttribute, UnsupportedCluster, UnsupportedEndpoint, UnsupportedWrite, NeedsTimedInteraction, DataVersionMismatch, InvalidDataType, ConstraintError, ResourceExhausted}
use Rattle.mt_tlv.specs.Tree.{Tree, Elements, none, more}
use Rattle.mt_tlv.specs.View.{tree}
use Rattle.mt_tlv.specs.declared.value.Value.{Value}
use Rattle.mt_write.specs.Entries.{kept_entry}
use Rattle.mt_meta.specs.Fields.{all_elements, has_type, is_item, is_within}
use Rattle.mt_write.specs.Items.{given_items, in_front, is_append, kept_each, kept_item, new_items, with_room}
use Rattle.mt_write.specs.Laws.{DeniesWritesExactly, IsDenied}
use Rattle.mt_write.specs.Latest.{entries_now, rows_now}
use Rattle.mt_write.specs.Writing.{array_of, array_with, behind, entries_step, entries_written, fabric_of, is_entry_list, is_outdated, is_scoped, list_with, may_write, members_of, new_rows, new_value, open_at, own_values, row_step, rows_written, staying, written_at}

-- What is no denial.

abbrev is_access : Status → Bool
is_access UnsupportedAccess = true
is_access status = false

abbrev no_denial : {X : Type 0} → Result X Status → Bool
no_denial (Ok x) = true
no_denial (Err status) = not (is_access status)

record NoDenial {X : Type 0} (r : Result X Status) : Type 0 where
  is : no_denial r ≡ true

either : {X : Type 0} (b : Bool) (x y : Result X Status) → NoDenial x → NoDenial y → NoDenial (if b then x else y)
either true x y one other = one
either false x y one other = other

value : {X : Type 0} (x : X) → NoDenial {X = X} (Ok x)
value x = record { is = refl }

type_fault : {X : Type 0} → NoDenial {X = X} (Err InvalidDataType)
type_fault = record { is = refl }

limit_fault : {X : Type 0} → NoDenial {X = X} (Err ConstraintError)
limit_fault = record { is = refl }

room_fault : {X : Type 0} → NoDenial {X = X} (Err ResourceExhausted)
room_fault = record { is = refl }

-- another status is no denial, whatever was to be
again : {X Y : Type 0} (status : Status) → NoDenial {X = X} (Err status) → NoDenial {X = Y} (Err status)
again status a = record { is = a.is }

room-no : {X : Type 0} (room : ℕ) (kept : Option X) → NoDenial (with_room room kept)
room-no room None = limit_fault
room-no {X} room (Some x) = either {X = X} (room == 0) (Err ResourceExhausted) (Ok x) room_fault (value x)

front-no : {X : Type 0} (one : Result X Status) (rest : Result (List X) Status) → NoDenial one → NoDenial rest → NoDenial (in_front one rest)
front-no (Err status) rest a b = again status a
front-no (Ok x) (Err status) a b = b
front-no (Ok x) (Ok xs) a b = value (x ∷ xs)

kept-no : {X : Type 0} (keep : Tree → Option X) (room : ℕ) (es : Elements) → NoDenial (kept_each keep room es)
unfolding kept_each
kept-no keep room none = value []
kept-no keep room (more tag v es) = front-no (with_room room (keep v)) (kept_each keep (room - 1) es) (room-no room (keep v)) (kept-no keep (room - 1) es)

items-no : {X : Type 0} (keep : Tree → Option X) (fields : List Field) (room : ℕ) (given : Option Elements) → NoDenial (new_items keep fields room given)
items-no keep fields room None = type_fault
items-no {X} keep fields room (Some es) = either {X = List X} (all_elements (is_item fields) es) (kept_each keep room es) (Err InvalidDataType) (kept-no keep room es) type_fault

behind-no : {X : Type 0} (there : List X) (items : Result (List X) Status) → NoDenial items → NoDenial (behind there items)
behind-no there (Err status) a = a
behind-no there (Ok items) a = value (there ++ items)

array-no : (es : Elements) (items : Result (List Value) Status) → NoDenial items → NoDenial (array_of es items)
array-no es (Err status) a = a
array-no es (Ok items) a = value _

value-no : (form : Form) (index : Index) (v : Value) → NoDenial (new_value form index v)
value-no form index v =
    either {X = List Value} (is_append index || not (has_type form (tree v))) (Err InvalidDataType) (if not (is_within form (tree v)) then Err ConstraintError else Ok (v ∷ []))
    type_fault
    (either {X = List Value} (not (is_within form (tree v))) (Err ConstraintError) (Ok (v ∷ [])) limit_fault (value (v ∷ [])))

list-no : {X : Type 0} (keep : Tree → Option X) (meta : Meta) (index : Index) (v : Value) (there : List X) → NoDenial (list_with keep meta index v there)
list-no keep meta index v there = behind-no there _ (items-no keep (fields_of meta.kind) (meta.limit - length there) (given_items index v))

array-with-no : (keep : Tree → Option Value) (meta : Meta) (index : Index) (v : Value) (there : Elements) → NoDenial (array_with keep meta index v there)
array-with-no keep meta index v there = array-no there _ (items-no keep (fields_of meta.kind) (meta.limit - count_in there) (given_items index v))

rows-no : (meta : Meta) (taken : Option Takes) (fabric : ℕ) (index : Index) (v : Value) (before : List Value) → NoDenial (new_rows meta taken fabric index v before)
rows-no meta None fabric index v before = type_fault
rows-no meta (Some takes.Nothing) fabric index v before = type_fault
rows-no meta (Some (takes.Value form)) fabric index v before = value-no form index v
rows-no meta (Some takes.Items) fabric index v before =
    let keep = kept_item (fields_of meta.kind) fabric in
    either {X = List Value} meta.scoped (list_with keep meta index v (staying index before)) (array_with keep meta index v (members_of (staying index before)))
    (list-no keep meta index v (staying index before)) (array-with-no keep meta index v (members_of (staying index before)))

row-step-no : (place : Place) (fabric : ℕ) (rows : Result (List Value) Status) → NoDenial rows → NoDenial (row_step place fabric rows)
row-step-no place fabric (Err status) a = again status a
row-step-no place fabric (Ok rows) a = value _

entries-step-no : (fabric : ℕ) (entries : Result (List AclEntry) Status) → NoDenial entries → NoDenial (entries_step fabric entries)
entries-step-no fabric (Err status) a = again status a
entries-step-no fabric (Ok entries) a = value _

found-no : (a b : Bool) (row : Option Meta) → NoDenial (found (if not a then Some UnsupportedEndpoint else if not b then Some UnsupportedCluster else None) row UnsupportedAttribute)
found-no false b row = record { is = refl }
found-no true false row = record { is = refl }
found-no true true None = record { is = refl }
found-no true true (Some meta) = record { is = refl }

module _ (seen : Seen) (actor : Actor) (steps : List NodeStep) (item : WriteItem) (place : Place) where
  entries-written-no : (meta : Meta) (fabric : ℕ) (before : List AclEntry) → NoDenial (entries_written item meta fabric before)
  entries-written-no meta fabric before = entries-step-no fabric _ (list-no (kept_entry fabric) meta item.path.index item.value (staying item.path.index before))

  rows-written-no : (meta : Meta) (fabric : ℕ) (before : List Value) → NoDenial (rows_written item place meta fabric before)
  rows-written-no meta fabric before = row-step-no place fabric _ (rows-no meta (takes_of place) fabric item.path.index item.value before)

  written-no : (meta : Meta) → NoDenial (written_at seen actor steps item place (Ok meta))
  written-no meta =
      let own = fabric_of actor meta in
      let rows = rows_now place own steps (own_values own (seen.rows_at place)) in
      let entries = entries_now actor.fabric steps seen.entries in
      either {X = NodeStep} (is_entry_list meta.kind) (entries_written item meta actor.fabric entries) (rows_written item place meta own rows)
      (entries-written-no meta actor.fabric entries) (rows-written-no meta own rows)

  guarded-no : (a b c : Bool) (meta : Meta)
      → NoDenial (written_at seen actor steps item place (if a then Err UnsupportedWrite else if b then Err NeedsTimedInteraction else if c then Err DataVersionMismatch else Ok meta))
  guarded-no true b c meta = record { is = refl }
  guarded-no false true c meta = record { is = refl }
  guarded-no false false true meta = record { is = refl }
  guarded-no false false false meta = written-no meta

  open-no : (version : ℕ) (timed : Bool) (there : Result Meta Status) → NoDenial there → NoDenial (written_at seen actor steps item place (open_at version timed item there))
  open-no version timed (Err status) a = again status a
  open-no version timed (Ok meta) a = guarded-no (is_none meta.write || names_item item.path) (meta.timed && not timed) (is_outdated item.version version) meta

  granted-no : (version : ℕ) (timed : Bool) → NoDenial (written_at seen actor steps item place (open_at version timed item (find_of place)))
  granted-no version timed = open-no version timed (find_of place) (found-no (is_endpoint place.endpoint) (has_cluster place.endpoint place.cluster) (attribute_of place))

or_false : (a b : Bool) → (a || b) ≡ false → (a ≡ false) × (b ≡ false)
or_false true b h = absurd (cc)
or_false false b h = (refl, h)

denied_by : (seen : Seen) (actor : Actor) (place : Place) (asked : Option Privilege) → privilege_of place Write ≡ asked → is_granted_if_asked seen.entries actor place asked (is_scoped (find_of place)) ≡ false → IsDenied seen actor place
denied_by seen actor place None is h = absurd (cc)
denied_by seen actor place (Some asked) is h =
    let nothing = or_false (implicit_grants actor (is_scoped (find_of place))) (list_any (own_entry_grants actor place asked) seen.entries) h in
    record { asked = asked; is = is; implicit = nothing.0; entries = nothing.1 }

not_granted : (seen : Seen) (actor : Actor) (place : Place) → IsDenied seen actor place → may_write seen actor place ≡ false
not_granted seen actor place d = ap (λ asked. is_granted_if_asked seen.entries actor place asked (is_scoped (find_of place))) d.is ∙ (λ i. d.implicit i || d.entries i)

module _ (seen : Seen) (actor : Actor) (timed : Bool) (steps : List NodeStep) (item : WriteItem) (place : Place) where
  abbrev outcome : Bool → Result NodeStep Status
  outcome may = written_at seen actor steps item place (if may then open_at (seen.version_of place.endpoint place.cluster) timed item (find_of place) else Err UnsupportedAccess)

  to_denied : (may : Bool) → may_write seen actor place ≡ may → outcome may ≡ Err UnsupportedAccess → IsDenied seen actor place
  to_denied true is h =
      let no : false ≡ true = sym (ap no_denial h) ∙ (granted-no seen actor steps item place (seen.version_of place.endpoint place.cluster) timed).is in
      absurd cc
  to_denied false is h = denied_by seen actor place (privilege_of place Write) refl is

pub denies_exactly : DeniesWritesExactly
denies_exactly seen actor timed steps item place = (
  to_denied seen actor timed steps item place (may_write seen actor place) refl,
  λ d. ap (outcome seen actor timed steps item place) (not_granted seen actor place d),
)
