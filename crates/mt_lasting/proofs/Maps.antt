-- The entries of ordered keys ascend, and those of a map have values.
use Rattle.std.proofs.Common.{◌≡◌, ⊎_elim, ℕ, true, false, List, [], ◌∷◌, ◌++◌, refl}
use Rattle.std.specs.List.{flat_map}
use Rattle.std.specs.Prelude.{Option, Some, None}
use Rattle.std.proofs.lemmas.Bool.{and_from, and_parts, cases_Bool}
use Rattle.mt_tlv.specs.declared.value.Value.{Value}
use Rattle.mt_durable.specs.Keys.{is_before}
use Rattle.mt_durable.specs.Maps.{ascend_above, have_values, keys_ascend}
use Rattle.mt_durable.specs.declared.durable.Entry.{Entry}
use Rattle.mt_grammar.specs.declared.keys.Key.{Key}
use Rattle.mt_lasting.specs.Changes.{change_between, differing, is_same_value}
use Rattle.mt_lasting.specs.Contents.{durable, entry_if}
use Rattle.mt_lasting.specs.Keys.{all_keys, key_bytes}
use Rattle.mt_lasting.specs.Laws.{ChangesAreChanges, MapsAreMaps}
use Rattle.mt_lasting.specs.Values.{value_at}
use Rattle.mt_lasting.proofs.KeyOrder.{all_ordered, are_ordered, is_below}

ascend_rest : (low : List ℕ) (entries : List Entry) → ascend_above low entries ≡ true → keys_ascend entries ≡ true
ascend_rest low [] up = refl
ascend_rest low (entry ∷ entries) up = (and_parts (is_before low entry.key) (ascend_above entry.key entries) up).1

-- what a map says of one key, in front of entries that ascend above it
map_above : (low : List ℕ) (key : Key) (value : Option Value) (rest : List Entry) → is_before low (key_bytes key) ≡ true
    → ascend_above low rest ≡ true → ascend_above (key_bytes key) rest ≡ true → ascend_above low (entry_if key value ++ rest) ≡ true
map_above low key None rest first up behind = up
map_above low key (Some value) rest first up behind = and_from _ _ first behind

change_above : (low : List ℕ) (key : Key) (old new : Option Value) (rest : List Entry) → is_before low (key_bytes key) ≡ true
    → ascend_above low rest ≡ true → ascend_above (key_bytes key) rest ≡ true → ascend_above low (differing key old new ++ rest) ≡ true
change_above low key None None rest first up behind = up
change_above low key None (Some new) rest first up behind = and_from _ _ first behind
change_above low key (Some old) None rest first up behind = and_from _ _ first behind
change_above low key (Some old) (Some new) rest first up behind = ⊎_elim
    (λ (same : is_same_value old new ≡ true). rw same up)
    (λ (differ : is_same_value old new ≡ false). rw differ (and_from _ _ first behind))
    (cases_Bool (is_same_value old new))

whole_with : (key : Key) (value : Option Value) (rest : List Entry) → have_values rest ≡ true → have_values (entry_if key value ++ rest) ≡ true
whole_with key None rest whole = whole
whole_with key (Some value) rest whole = whole

module _ (old new : Key → Option Value) where
  pub maps_above : (low : List ℕ) (keys : List Key) → is_below low keys ≡ true → are_ordered keys ≡ true
      → ascend_above low (flat_map (λ key. entry_if key (old key)) keys) ≡ true
  maps_above low [] below ordered = refl
  maps_above low (key ∷ keys) below ordered =
      let under = and_parts (is_before low (key_bytes key)) (is_below low keys) below in
      let order = and_parts (is_below (key_bytes key) keys) (are_ordered keys) ordered in
      map_above low key (old key) _ under.0 (maps_above low keys under.1 order.1) (maps_above (key_bytes key) keys order.0 order.1)

  changes_above : (low : List ℕ) (keys : List Key) → is_below low keys ≡ true → are_ordered keys ≡ true
      → ascend_above low (flat_map (λ key. differing key (old key) (new key)) keys) ≡ true
  changes_above low [] below ordered = refl
  changes_above low (key ∷ keys) below ordered =
      let under = and_parts (is_before low (key_bytes key)) (is_below low keys) below in
      let order = and_parts (is_below (key_bytes key) keys) (are_ordered keys) ordered in
      change_above low key (old key) (new key) _ under.0 (changes_above low keys under.1 order.1) (changes_above (key_bytes key) keys order.0 order.1)

  maps_whole : (keys : List Key) → have_values (flat_map (λ key. entry_if key (old key)) keys) ≡ true
  maps_whole [] = refl
  maps_whole (key ∷ keys) = whole_with key (old key) _ (maps_whole keys)

-- No bytes come before those of each key.

pub are_maps : MapsAreMaps
are_maps s ceiling = (
  ascend_rest [] (durable s ceiling) (maps_above (λ key. value_at key s ceiling) (λ key. None) [] all_keys refl all_ordered),
  maps_whole (λ key. value_at key s ceiling) (λ key. None) all_keys,
)

pub are_changes : ChangesAreChanges
are_changes s t ceiling next = ascend_rest [] (change_between s ceiling t next) (changes_above (λ key. value_at key s ceiling) (λ key. value_at key t next) [] all_keys refl all_ordered)
