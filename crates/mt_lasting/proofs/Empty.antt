-- A change is empty exactly where the maps are equal.
use Rattle.std.proofs.Common.{◌≡◌, true, List, [], ◌∷◌, ◌++◌, refl, sym, ap, ◌∙◌, subst, true≢false}
use Rattle.std.specs.List.{flat_map}
use Rattle.std.specs.Prelude.{Option, Some, None}
use Rattle.std.proofs.lemmas.Bool.{and_parts}
use Rattle.mt_tlv.specs.declared.value.Value.{Value}
use Rattle.mt_durable.specs.Keys.{is_before}
use Rattle.mt_durable.specs.Maps.{ascend_above}
use Rattle.mt_durable.specs.Setting.{with_all}
use Rattle.mt_durable.specs.declared.durable.Entry.{Entry}
use Rattle.mt_grammar.specs.declared.keys.Key.{Key}
use Rattle.mt_lasting.specs.Changes.{change_between, differing, with_value}
use Rattle.mt_lasting.specs.Contents.{durable, entry_if}
use Rattle.mt_lasting.specs.Keys.{all_keys, key_bytes}
use Rattle.mt_lasting.specs.Laws.{EmptyWhereEqual}
use Rattle.mt_lasting.specs.Values.{value_at}
use Rattle.mt_lasting.proofs.Changing.{lead_on}
use Rattle.mt_lasting.proofs.KeyOrder.{all_ordered, are_ordered, is_below, not_before_itself}
use Rattle.mt_lasting.proofs.Maps.{maps_above}
use Rattle.mt_lasting.proofs.Same.{same_values}

-- an entry begins no entries that ascend from above its key
not_first : (key : Key) (value : Option Value) (rest entries : List Entry) → ascend_above (key_bytes key) entries ≡ true → entries ≡ with_value key value ∷ rest → ⊥
not_first key value rest entries up is =
    let above : ascend_above (key_bytes key) (with_value key value ∷ rest) ≡ true = subst (λ (l : List Entry). ascend_above (key_bytes key) l ≡ true) is up in
    true≢false (sym (and_parts (is_before (key_bytes key) (key_bytes key)) (ascend_above (key_bytes key) rest) above).0 ∙ not_before_itself (key_bytes key))

first_is : (one other : Entry) (rest others : List Entry) → one ∷ rest ≡ other ∷ others → one ≡ other
first_is one other rest others e = cc

within_some : (one other : Value) → Some one ≡ Some other → one ≡ other
within_some one other e = cc

value_is : (key : Key) (one other : Value) → with_value key (Some one) ≡ with_value key (Some other) → one ≡ other
value_is key one other e = within_some one other (ap (λ (entry : Entry). entry.value) e)

rest_is : (one other : Entry) (rest others : List Entry) → one ∷ rest ≡ other ∷ others → rest ≡ others
rest_is one other rest others e = cc

-- One key in front of others, of which nothing is said where the same entries stand.
first_empty : (key : Key) (old new : Option Value) (change before after : List Entry) → ascend_above (key_bytes key) before ≡ true → ascend_above (key_bytes key) after ≡ true
    → (before ≡ after → change ≡ []) → entry_if key old ++ before ≡ entry_if key new ++ after → differing key old new ++ change ≡ []
first_empty key None None change before after up above empty same = empty same
first_empty key None (Some new) change before after up above empty same = absurd (not_first key (Some new) after before up same)
first_empty key (Some old) None change before after up above empty same = absurd (not_first key (Some old) before after above (sym same))
first_empty key (Some old) (Some new) change before after up above empty same =
    let one = with_value key (Some old) in
    let other = with_value key (Some new) in
    rw (same_values old new (value_is key old new (first_is one other before after same))) (empty (rest_is one other before after same))

module _ (old new : Key → Option Value) where
  is_empty : (keys : List Key) → are_ordered keys ≡ true → flat_map (λ key. entry_if key (old key)) keys ≡ flat_map (λ key. entry_if key (new key)) keys
      → flat_map (λ key. differing key (old key) (new key)) keys ≡ []
  is_empty [] ordered same = refl
  is_empty (key ∷ keys) ordered same =
      let order = and_parts (is_below (key_bytes key) keys) (are_ordered keys) ordered in
      first_empty key (old key) (new key) _ _ _ (maps_above old new (key_bytes key) keys order.0 order.1) (maps_above new old (key_bytes key) keys order.0 order.1)
      (is_empty keys order.1) same

-- where nothing is put on a map, it stays
stays : (change map after : List Entry) → with_all change map ≡ after → change ≡ [] → map ≡ after
stays change map after lead empty = sym (ap (λ (c : List Entry). with_all c map) empty) ∙ lead

pub empty_where_equal : EmptyWhereEqual
empty_where_equal s t ceiling next = (
  stays (change_between s ceiling t next) (durable s ceiling) (durable t next) (lead_on s t ceiling next),
  is_empty (λ key. value_at key s ceiling) (λ key. value_at key t next) all_keys all_ordered,
)
