-- The bytes of a map and of a change are bounded.
use Rattle.std.proofs.Common.{◌≡◌, inl, inr, refl, ℕ, ◌+◌, ◌≤◌, List, [], ◌∷◌, length, arith}
use Rattle.std.proofs.lemmas.Bool.{cases_Bool}
use Rattle.std.specs.Prelude.{Option, Some, None}
use Rattle.std.specs.List.{flat_map}
use Rattle.mt_tlv.specs.declared.value.Value.{Value}
use Rattle.mt_durable.specs.Changes.{entry_trees, value_field}
use Rattle.mt_durable.specs.declared.durable.Entry.{Entry}
use Rattle.mt_grammar.specs.declared.keys.Key.{Key}
use Rattle.mt_grammar.specs.declared.keys.Key.TheVariants as keys
use Rattle.mt_lasting.specs.Changes.{are_same, differing, differing_at}
use Rattle.mt_lasting.specs.Contents.{entry_at, entry_if}
use Rattle.mt_lasting.specs.Keys.{all_keys, key_bytes}
use Rattle.mt_lasting.specs.Laws.{ChangesAreShort, MapsAreShort}
use Rattle.mt_lasting.specs.Values.{value_at}
use Rattle.mt_lasting.proofs.Folding.{Each, each-same}
use Rattle.mt_lasting.proofs.KeySizes.{Bounded, bound, keys_bounded}
use Rattle.mt_lasting.proofs.NumberSizes.{in_one}
use Rattle.mt_lasting.proofs.TreeSizes.{append_size, change_size, number_size, sizes, value_size}

-- What stands of each key.

-- the length of a key takes one byte
key_small : (key : Key) → number_size (length (key_bytes key)) ≤ 1
key_small keys.Boot = in_one 1 (omega arith)
key_small keys.Ceiling = in_one 1 (omega arith)
key_small (keys.Single place) = in_one 11 (omega arith)
key_small (keys.Items fabric place) = in_one 12 (omega arith)
key_small (keys.Fabric index) = in_one 2 (omega arith)
key_small keys.Roots = in_one 1 (omega arith)
key_small keys.Networks = in_one 1 (omega arith)
key_small keys.Failsafe = in_one 1 (omega arith)

-- the most bytes of an entry: five beside the key and the value
abbrev entry_most : Key → ℕ
entry_most key = 5 + length (key_bytes key) + bound key

entry_short : (key : Key) (value : Option Value) → value_size value ≤ bound key → sizes (entry_trees (entry_if key value)) ≤ entry_most key
entry_short key None its = omega arith
entry_short key (Some value) its = omega (arith, its, key_small key)

field_size : (value : Option Value) → sizes (value_field value) ≡ value_size value
field_size None = omega arith
field_size (Some value) = omega arith

differing_short : (key : Key) (old new : Option Value) → value_size new ≤ bound key → sizes (entry_trees (differing key old new)) ≤ entry_most key
differing_short key old new its = elim (cases_Bool (are_same old new)) [
  | inl same ↦ rw same (omega arith)
  | inr differ ↦ rw differ (omega (arith, its, field_size new, key_small key))
]

-- All keys.

abbrev sum : List Key → ℕ
sum [] = 0
sum (key ∷ some) = entry_most key + sum some

module _ (of : Key → List Entry) where
  all_entries : (some : List Key) → Each (λ (key : Key). sizes (entry_trees (of key)) ≤ entry_most key) some → sizes (entry_trees (flat_map of some)) ≤ sum some
  all_entries [] each = omega arith
  all_entries (key ∷ some) each = omega (arith, append_size (of key) (flat_map of some), each.0, all_entries some each.1)

in_all : sum all_keys ≡ 64632
in_all = refl

pub maps_short : MapsAreShort
maps_short s ceiling valid =
    let each = each-same (Bounded s ceiling valid) (λ (key : Key). sizes (entry_trees (entry_at s ceiling key)) ≤ entry_most key) (λ key its. entry_short key (value_at key s ceiling) its) all_keys (keys_bounded s ceiling valid) in
    omega (arith, change_size (flat_map (entry_at s ceiling) all_keys), all_entries (entry_at s ceiling) all_keys each, in_all)

pub changes_short : ChangesAreShort
changes_short s t ceiling next valid_next =
    let each = each-same (Bounded t next valid_next) (λ (key : Key). sizes (entry_trees (differing_at s ceiling t next key)) ≤ entry_most key) (λ key its. differing_short key (value_at key s ceiling) (value_at key t next) its) all_keys (keys_bounded t next valid_next) in
    omega (arith, change_size (flat_map (differing_at s ceiling t next) all_keys), all_entries (differing_at s ceiling t next) all_keys each, in_all)
