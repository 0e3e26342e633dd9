-- The entries of a map and of a change may stand in an element, and so the map has an image and the change is one as bytes.
use Rattle.std.proofs.Common.{inl, inr, refl, ◌≤◌, List, [], ◌∷◌, ◌++◌, length, arith}
use Rattle.std.proofs.lemmas.Bool.{cases_Bool}
use Rattle.std.specs.Prelude.{Option, Some, None}
use Rattle.std.specs.List.{flat_map}
use Rattle.mt_tlv.specs.Limits.{AreAllowed, IsAllowed, IsElement, IsTag, deepest, longest}
use Rattle.mt_tlv.specs.Narrow.{narrow}
use Rattle.mt_tlv.specs.Tree.{Tree, array}
use Rattle.mt_tlv.specs.declared.reading.Kind.TheVariants as kinds
use Rattle.mt_tlv.specs.declared.value.Tag.{Tag}
use Rattle.mt_tlv.specs.declared.value.Tag.TheVariants.{Anonymous}
use Rattle.mt_tlv.specs.declared.value.Value.{Value}
use Rattle.mt_durable.specs.Changes.{entry_tree, entry_trees}
use Rattle.mt_durable.specs.declared.durable.Entry.{Entry}
use Rattle.mt_grammar.specs.declared.keys.Key.{Key}
use Rattle.mt_grammar.specs.declared.keys.Key.TheVariants as keys
use Rattle.mt_lasting.specs.Changes.{are_same, change_between, differing, differing_at}
use Rattle.mt_lasting.specs.Contents.{durable, entry_at, entry_if}
use Rattle.mt_lasting.specs.Keys.{all_keys, key_bytes}
use Rattle.mt_lasting.specs.Laws.{ChangesAreChanges, ChangesAreSaid, ChangesAreShort, MapsAreMaps, MapsAreShort, MapsHaveImages}
use Rattle.mt_lasting.specs.Values.{value_at}
use Rattle.mt_lasting.proofs.AllowedKeys.{MayStand, keys_allowed}
use Rattle.mt_lasting.proofs.AllowedTrees.{IsAllowedIf, field}
use Rattle.mt_lasting.proofs.Folding.{Each, each-append}

-- Entries.

abbrev IsEntry : Entry → Type 0
IsEntry entry = IsAllowed (entry_tree entry) 15

key_allowed : (key : Key) → length (key_bytes key) ≤ longest
key_allowed keys.Boot = omega arith
key_allowed keys.Ceiling = omega arith
key_allowed (keys.Single place) = omega arith
key_allowed (keys.Items fabric place) = omega arith
key_allowed (keys.Fabric index) = omega arith
key_allowed keys.Roots = omega arith
key_allowed keys.Networks = omega arith
key_allowed keys.Failsafe = omega arith

entry_allowed : (key : Key) (value : Option Value) → IsAllowedIf value 14 → IsEntry (record { key = key_bytes key; value = value })
entry_allowed key None its = field 0 refl (key_allowed key) tt
entry_allowed key (Some value) its = field 0 refl (key_allowed key) (field 1 refl its tt)

if_allowed : (key : Key) (value : Option Value) → IsAllowedIf value 14 → Each IsEntry (entry_if key value)
if_allowed key None its = refl
if_allowed key (Some value) its = (entry_allowed key (Some value) its, refl)

differing_allowed : (key : Key) (old new : Option Value) → IsAllowedIf new 14 → Each IsEntry (differing key old new)
differing_allowed key old new its = elim (cases_Bool (are_same old new)) [
  | inl same ↦ rw same refl
  | inr differ ↦ rw differ (entry_allowed key new its, refl)
]

-- All keys.

module _ (P : Key → Type 0) (of : Key → List Entry) (on : (key : Key) → P key → Each IsEntry (of key)) where
  of_keys : (some : List Key) → Each P some → Each IsEntry (flat_map of some)
  of_keys [] each = refl
  of_keys (key ∷ some) each = each-append IsEntry (of key) (flat_map of some) (on key each.0) (of_keys some each.1)

in_array : (entries : List Entry) (tags : List Tag) → Each IsEntry entries → AreAllowed (entry_trees entries) kinds.Array tags 15
in_array [] tags each = tt
in_array (entry ∷ entries) tags each = (tt, refl, each.0, in_array entries (tags ++ Anonymous ∷ []) each.1)

-- By the laws of elements, of keys and of lengths.
module _ (is_element : (tag : Tag) (v : Tree) → IsTag tag → IsAllowed v deepest → length (narrow tag v) ≤ longest → IsElement tag v (narrow tag v)) where
  pub maps_have_images : MapsAreMaps → MapsAreShort → MapsHaveImages
  maps_have_images are_maps short s ceiling valid low =
      let each = of_keys (MayStand s ceiling valid low) (entry_at s ceiling) (λ key its. if_allowed key (value_at key s ceiling) its) all_keys (keys_allowed s ceiling valid low) in
      let allowed : IsAllowed (array (entry_trees (durable s ceiling))) deepest = in_array (durable s ceiling) [] each in
      record { ascend = (are_maps s ceiling).0; element = is_element Anonymous (array (entry_trees (durable s ceiling))) tt allowed (short s ceiling valid); narrow = refl }

  pub changes_are_said : ChangesAreChanges → ChangesAreShort → ChangesAreSaid
  changes_are_said are_changes short s t ceiling next valid low =
      let change = change_between s ceiling t next in
      let each = of_keys (MayStand t next valid low) (differing_at s ceiling t next) (λ key its. differing_allowed key (value_at key s ceiling) (value_at key t next) its) all_keys (keys_allowed t next valid low) in
      let allowed : IsAllowed (array (entry_trees change)) deepest = in_array change [] each in
      record { ascend = are_changes s t ceiling next; element = is_element Anonymous (array (entry_trees change)) tt allowed (short s t ceiling next valid); narrow = refl }
