-- The fabric table as a list of fabrics, by ascending index: what holds of it, what each call makes of it, and
-- what each call refuses.
use Rattle.std.specs.Prelude.{◌≡◌, ℕ, ◌+◌, ◌<◌, ◌≤◌, ◌==◌, ◌&&◌, nat_le, nat_lt, not, Bool, true, false, List, [], ◌∷◌, length, map, filter, find, bytes_eq, Option, Some, None, option_map, if◌then◌else◌}
use Rattle.std.specs.List.{list_all, list_any}
use Rattle.mt_model.specs.texts.Config.{has_identity, have_one_identity, have_one_label, none_alike}
use Rattle.mt_model.specs.rows.Order.{fabrics_ascend}
use Rattle.mt_model.specs.declared.limits.TheConstants.{FABRICS}
use Rattle.mt_model.specs.declared.tables.fabric.Credentials.{Credentials}
use Rattle.mt_model.specs.declared.tables.fabric.Fabric.{Fabric}
use Rattle.mt_fabrics.specs.declared.fault.FabricFault.{FabricFault}
use Rattle.mt_fabrics.specs.declared.fault.FabricFault.TheVariants.{NoIndex, Conflict, LabelConflict, TableFull, Memory}

-- The table.

abbrev pub has_index : ℕ → Fabric → Bool
has_index index fabric = fabric.index == index

abbrev pub is_used : ℕ → List Fabric → Bool
is_used index fabrics = list_any (has_index index) fabrics

abbrev pub has_index_up_to : ℕ → Fabric → Bool
has_index_up_to most fabric = nat_le fabric.index most

-- What holds of every table: the indexes rise from 1 or more on to 16 at most, no two fabrics have one identity, and
-- no two have one label.
pub record IsTable (fabrics : List Fabric) : Type 0 where
  pub rises : fabrics_ascend fabrics ≡ true
  pub within : list_all (has_index_up_to FABRICS) fabrics ≡ true
  pub identities_differ : none_alike have_one_identity fabrics ≡ true
  pub labels_differ : none_alike have_one_label fabrics ≡ true

-- Indexes.

-- the first index from this on that none of the fabrics has, where they ascend from it on
abbrev pub unused_from : ℕ → List Fabric → ℕ
unused_from index [] = index
unused_from index (fabric ∷ fabrics) = if fabric.index == index then unused_from (index + 1) fabrics else index

abbrev pub least_unused : List Fabric → ℕ
least_unused fabrics = unused_from 1 fabrics

-- No fabric has the index, and each lower one from 1 is a fabric's.
pub record IsLeastUnused (index : ℕ) (fabrics : List Fabric) : Type 0 where
  pub from_one : 1 ≤ index
  pub unused : is_used index fabrics ≡ false
  pub least : (lower : ℕ) → 1 ≤ lower → lower < index → is_used lower fabrics ≡ true

-- Identities and labels.

-- an empty label is nobody's
abbrev pub has_label : List ℕ → Fabric → Bool
has_label label fabric = nat_le 1 (length label) && bytes_eq label fabric.label

-- a fabric of another index has the identity of these credentials, or this label
abbrev pub has_others_identity : ℕ → Credentials → Fabric → Bool
has_others_identity index given fabric = not (has_index index fabric) && has_identity given.root_key given.fabric_id fabric

abbrev pub has_others_label : ℕ → List ℕ → Fabric → Bool
has_others_label index label fabric = not (has_index index fabric) && has_label label fabric

-- the index of the fabric with an identity
abbrev pub index_by : List ℕ → ℕ → List Fabric → Option ℕ
index_by root_key fabric_id fabrics = option_map (λ (fabric : Fabric). fabric.index) (find (has_identity root_key fabric_id) fabrics)

-- the credentials of the fabric with an index
abbrev pub credentials_at : ℕ → List Fabric → Option Credentials
credentials_at index fabrics = option_map (λ (fabric : Fabric). fabric.credentials) (find (has_index index) fabrics)

-- What the calls make of the table.

abbrev pub with_index : ℕ → Fabric → Fabric
with_index index fabric = record fabric { index = index }

-- a fabric among others, by its index
abbrev pub placed : Fabric → List Fabric → List Fabric
placed fabric [] = fabric ∷ []
placed fabric (other ∷ others) = if nat_lt other.index fabric.index then other ∷ placed fabric others else fabric ∷ other ∷ others

-- with one fabric more, under the least unused index
abbrev pub added : Fabric → List Fabric → List Fabric
added fabric fabrics = placed (with_index (least_unused fabrics) fabric) fabrics

-- with a change to the fabric of an index
abbrev pub changed_at : ℕ → (Fabric → Fabric) → Fabric → Fabric
changed_at index change fabric = if has_index index fabric then change fabric else fabric

abbrev pub changed : ℕ → (Fabric → Fabric) → List Fabric → List Fabric
changed index change fabrics = map (changed_at index change) fabrics

abbrev pub with_credentials : Credentials → Fabric → Fabric
with_credentials given fabric = record fabric { credentials = given }

abbrev pub updated : ℕ → Credentials → List Fabric → List Fabric
updated index given fabrics = changed index (with_credentials given) fabrics

abbrev pub with_label : List ℕ → Fabric → Fabric
with_label label fabric = record fabric { label = label }

abbrev pub labelled : ℕ → List ℕ → List Fabric → List Fabric
labelled index label fabrics = changed index (with_label label) fabrics

-- without the fabric of an index
abbrev pub has_other_index : ℕ → Fabric → Bool
has_other_index index fabric = not (has_index index fabric)

abbrev pub removed : ℕ → List Fabric → List Fabric
removed index fabrics = filter (has_other_index index) fabrics

-- What the calls refuse: the first fault in the order of their numbers.

abbrev pub add_refusal : Fabric → List Fabric → Option FabricFault
add_refusal fabric fabrics =
    if list_any (has_identity fabric.credentials.root_key fabric.credentials.fabric_id) fabrics then Some Conflict
    else if list_any (has_label fabric.label) fabrics then Some LabelConflict
    else if nat_le FABRICS (length fabrics) then Some TableFull
    else None

abbrev pub update_refusal : ℕ → Credentials → List Fabric → Option FabricFault
update_refusal index given fabrics =
    if not (is_used index fabrics) then Some NoIndex
    else if list_any (has_others_identity index given) fabrics then Some Conflict
    else None

abbrev pub remove_refusal : ℕ → List Fabric → Option FabricFault
remove_refusal index fabrics = if not (is_used index fabrics) then Some NoIndex else None

abbrev pub label_refusal : ℕ → List ℕ → List Fabric → Option FabricFault
label_refusal index label fabrics =
    if not (is_used index fabrics) then Some NoIndex
    else if list_any (has_others_label index label) fabrics then Some LabelConflict
    else None

-- A call that takes memory answers its refusal where there is one, and otherwise may want memory.
abbrev pub IsRefusalOrMemory : Option FabricFault → FabricFault → Type 0
IsRefusalOrMemory (Some refusal) fault = fault ≡ refusal
IsRefusalOrMemory None fault = fault ≡ Memory
