-- A change that is put on the map of the first state gives that of the second.
use Rattle.std.proofs.Common.{◌≡◌, ⊎_elim, ℕ, true, false, List, [], ◌∷◌, ◌++◌, refl, ap, ◌∙◌}
use Rattle.std.specs.List.{flat_map}
use Rattle.std.specs.Prelude.{Option, Some, None}
use Rattle.std.proofs.lemmas.Bool.{and_parts, cases_Bool}
use Rattle.mt_tlv.specs.declared.value.Value.{Value}
use Rattle.mt_durable.specs.Keys.{is_before}
use Rattle.mt_durable.specs.Maps.{ascend_above}
use Rattle.mt_durable.specs.Setting.{with_all, with_entry}
use Rattle.mt_durable.specs.declared.durable.Entry.{Entry}
use Rattle.mt_grammar.specs.declared.keys.Key.{Key}
use Rattle.mt_lasting.specs.Changes.{differing, is_same_value, with_value}
use Rattle.mt_lasting.specs.Contents.{entry_if}
use Rattle.mt_lasting.specs.Keys.{all_keys, key_bytes}
use Rattle.mt_lasting.specs.Laws.{ChangesLeadOn}
use Rattle.mt_lasting.specs.Values.{value_at}
use Rattle.mt_lasting.proofs.KeyOrder.{all_ordered, are_ordered, before_differs, is_below, not_back, not_before_itself, same_itself}
use Rattle.mt_lasting.proofs.Maps.{maps_above}
use Rattle.mt_lasting.proofs.Same.{values_same}

-- Where an entry is placed.

-- before entries that ascend from above its key
set_first : (key : List ℕ) (value : Value) (rest : List Entry) → ascend_above key rest ≡ true
    → with_entry (record { key = key; value = Some value }) rest ≡ record { key = key; value = Some value } ∷ rest
set_first key value [] up = refl
set_first key value (one ∷ rest) up =
    let before = (and_parts (is_before key one.key) (ascend_above one.key rest) up).0 in
    rw (not_back key one.key before, before_differs key one.key before) refl

-- in the place of the one of its key
set_again : (key : List ℕ) (value old : Value) (rest : List Entry)
    → with_entry (record { key = key; value = Some value }) (record { key = key; value = Some old } ∷ rest) ≡ record { key = key; value = Some value } ∷ rest
set_again key value old rest = rw (not_before_itself key, same_itself key) refl

-- away with the one of its key
taken_out : (key : List ℕ) (old : Value) (rest : List Entry) → with_entry (record { key = key; value = None }) (record { key = key; value = Some old } ∷ rest) ≡ rest
taken_out key old rest = rw (not_before_itself key, same_itself key) refl

-- A change whose keys are above that of an entry goes on behind it.

abbrev GoesBehind : Entry → List Entry → Type 0
GoesBehind one change = (map : List Entry) → with_all change (one ∷ map) ≡ one ∷ with_all change map

entry_behind : (one entry : Entry) (change : List Entry) → is_before one.key entry.key ≡ true → GoesBehind one change → GoesBehind one (entry ∷ change)
entry_behind one entry change before behind map = rw before (behind (with_entry entry map))

differing_behind : (one : Entry) (key : Key) (old new : Option Value) (change : List Entry) → is_before one.key (key_bytes key) ≡ true
    → GoesBehind one change → GoesBehind one (differing key old new ++ change)
differing_behind one key None None change before behind = behind
differing_behind one key None (Some new) change before behind = entry_behind one (with_value key (Some new)) change before behind
differing_behind one key (Some old) None change before behind = entry_behind one (with_value key None) change before behind
differing_behind one key (Some old) (Some new) change before behind = ⊎_elim
    (λ (same : is_same_value old new ≡ true). rw same behind)
    (λ (differ : is_same_value old new ≡ false). rw differ (entry_behind one (with_value key (Some new)) change before behind))
    (cases_Bool (is_same_value old new))

-- One key in front of others, whose change leads on.
first_leads : (key : Key) (old new : Option Value) (change before after : List Entry) → ascend_above (key_bytes key) before ≡ true
    → ((value : Value) → GoesBehind (with_value key (Some value)) change) → with_all change before ≡ after
    → with_all (differing key old new ++ change) (entry_if key old ++ before) ≡ entry_if key new ++ after
first_leads key None None change before after up behind lead = lead
first_leads key None (Some new) change before after up behind lead =
    ap (λ (l : List Entry). with_all change l) (set_first (key_bytes key) new before up)
    ∙ behind new before ∙ ap (λ (l : List Entry). with_value key (Some new) ∷ l) lead
first_leads key (Some old) None change before after up behind lead =
    ap (λ (l : List Entry). with_all change l) (taken_out (key_bytes key) old before) ∙ lead
first_leads key (Some old) (Some new) change before after up behind lead = ⊎_elim
    (λ (same : is_same_value old new ≡ true).
    rw same (behind old before ∙ ap (λ (l : List Entry). with_value key (Some old) ∷ l) lead ∙ ap (λ (v : Value). with_value key (Some v) ∷ after) (values_same old new same)))
    (λ (differ : is_same_value old new ≡ false).
    rw differ (ap (λ (l : List Entry). with_all change l) (set_again (key_bytes key) new old before)
    ∙ behind new before ∙ ap (λ (l : List Entry). with_value key (Some new) ∷ l) lead))
    (cases_Bool (is_same_value old new))

module _ (old new : Key → Option Value) where
  changes_behind : (one : Entry) (keys : List Key) → is_below one.key keys ≡ true → GoesBehind one (flat_map (λ key. differing key (old key) (new key)) keys)
  changes_behind one [] below = λ map. refl
  changes_behind one (key ∷ keys) below =
      let under = and_parts (is_before one.key (key_bytes key)) (is_below one.key keys) below in
      differing_behind one key (old key) (new key) _ under.0 (changes_behind one keys under.1)

  pub leads : (keys : List Key) → are_ordered keys ≡ true
      → with_all (flat_map (λ key. differing key (old key) (new key)) keys) (flat_map (λ key. entry_if key (old key)) keys) ≡ flat_map (λ key. entry_if key (new key)) keys
  leads [] ordered = refl
  leads (key ∷ keys) ordered =
      let order = and_parts (is_below (key_bytes key) keys) (are_ordered keys) ordered in
      first_leads key (old key) (new key) _ _ _ (maps_above old new (key_bytes key) keys order.0 order.1)
      (λ value. changes_behind (with_value key (Some value)) keys order.0) (leads keys order.1)

pub lead_on : ChangesLeadOn
lead_on s t ceiling next = leads (λ key. value_at key s ceiling) (λ key. value_at key t next) all_keys all_ordered
