-- Durable state as a map: entries whose keys ascend, and each of which has a value. A change is such a list too, in which a key without a value goes.
use Rattle.std.specs.Prelude.{◌≡◌, ℕ, ◌&&◌, Bool, true, false, List, [], ◌∷◌, Option, Some, None, if◌then◌else◌}
use Rattle.mt_tlv.specs.declared.value.Value.{Value}
use Rattle.mt_durable.specs.Keys.{is_before, is_same}
use Rattle.mt_durable.specs.declared.durable.Entry.{Entry}

-- whether the keys ascend from above this one on
abbrev pub ascend_above : List ℕ → List Entry → Bool
ascend_above key [] = true
ascend_above key (entry ∷ entries) = is_before key entry.key && ascend_above entry.key entries

-- whether each key comes before the next, so that none is there twice
abbrev pub keys_ascend : List Entry → Bool
keys_ascend [] = true
keys_ascend (entry ∷ entries) = ascend_above entry.key entries

abbrev pub has_value : Option Value → Bool
has_value (Some value) = true
has_value None = false

-- whether each entry has a value, as in a map and in an image
abbrev pub have_values : List Entry → Bool
have_values [] = true
have_values (entry ∷ entries) = has_value entry.value && have_values entries

-- the value under a key, None where there is none
abbrev pub value_under : List ℕ → List Entry → Option Value
value_under key [] = None
value_under key (entry ∷ entries) = if is_same key entry.key then entry.value else value_under key entries

-- whether a key is named
abbrev pub names : List ℕ → List Entry → Bool
names key [] = false
names key (entry ∷ entries) = if is_same key entry.key then true else names key entries

-- The map after a change: under each key that the change names stands what it says, and under each other what stood there.
pub record Merged (change before after : List Entry) : Type 0 where
  pub ascend : keys_ascend after ≡ true
  pub whole : have_values after ≡ true
  pub under : (key : List ℕ) → value_under key after ≡ (if names key change then value_under key change else value_under key before)
