-- What a map has after entries were set.
use Rattle.std.proofs.Common.{◌≡◌, ⊎_elim, ℕ, true, false, List, [], ◌∷◌, refl, sym, ap, ◌∙◌, arith}
use Rattle.std.specs.Prelude.{Option, Some, None, if◌then◌else◌}
use Rattle.std.proofs.lemmas.Bool.{and_from, and_parts, cases_Bool}
use Rattle.mt_tlv.specs.declared.value.Value.{Value}
use Rattle.mt_durable.specs.Keys.{is_before, is_same}
use Rattle.mt_durable.specs.Maps.{Merged, ascend_above, has_value, have_values, keys_ascend, names, value_under}
use Rattle.mt_durable.specs.Setting.{in_front, placed, with_all, with_entry}
use Rattle.mt_durable.specs.declared.durable.Entry.{Entry}
use Rattle.mt_durable.proofs.Keys.{before_differs, before_then, other_before, same_is}

-- from a lower key on they ascend too
pub above_lower : (low key : List ℕ) (entries : List Entry) → is_before low key ≡ true → ascend_above key entries ≡ true → ascend_above low entries ≡ true
above_lower low key [] lower up = refl
above_lower low key (one ∷ rest) lower up =
    let both = and_parts (is_before key one.key) (ascend_above one.key rest) up in
    and_from _ _ (before_then low key one.key lower both.0) both.1

pub ascend_rest : (key : List ℕ) (entries : List Entry) → ascend_above key entries ≡ true → keys_ascend entries ≡ true
ascend_rest key [] up = refl
ascend_rest key (one ∷ rest) up = (and_parts (is_before key one.key) (ascend_above one.key rest) up).1

-- a key stands nowhere among keys that ascend from above it on
pub none_above : (key : List ℕ) (entries : List Entry) → ascend_above key entries ≡ true → value_under key entries ≡ None
none_above key [] up = refl
none_above key (one ∷ rest) up =
    let both = and_parts (is_before key one.key) (ascend_above one.key rest) up in
    rw (before_differs key one.key both.0) (none_above key rest (above_lower key one.key rest both.0 both.1))

unnamed_above : (key : List ℕ) (entries : List Entry) → ascend_above key entries ≡ true → names key entries ≡ false
unnamed_above key [] up = refl
unnamed_above key (one ∷ rest) up =
    let both = and_parts (is_before key one.key) (ascend_above one.key rest) up in
    rw (before_differs key one.key both.0) (unnamed_above key rest (above_lower key one.key rest both.0 both.1))

-- The value under a key once an entry is set.
abbrev pub set_under : List ℕ → Entry → List Entry → Option Value
set_under key entry map = if is_same key entry.key then entry.value else value_under key map

none_of : (value : Option Value) → has_value value ≡ false → value ≡ None
none_of (Some v) is = absurd (grind (arith, is))
none_of None is = refl

front_under : (key : List ℕ) (entry : Entry) (rest : List Entry) → value_under entry.key rest ≡ None → value_under key (in_front entry rest) ≡ set_under key entry rest
front_under key entry rest none = ⊎_elim
    (λ (has : has_value entry.value ≡ true). rw has refl)
    (λ (has : has_value entry.value ≡ false). rw has (⊎_elim
    (λ (same : is_same key entry.key ≡ true). rw same (ap (λ (k : List ℕ). value_under k rest) (same_is key entry.key same) ∙ none ∙ sym (none_of entry.value has)))
    (λ (same : is_same key entry.key ≡ false). rw same refl)
    (cases_Bool (is_same key entry.key))))
    (cases_Bool (has_value entry.value))

-- an entry that takes the place of the one of its key
over_under : (key : List ℕ) (entry one : Entry) (rest : List Entry) → is_same entry.key one.key ≡ true → set_under key entry rest ≡ set_under key entry (one ∷ rest)
over_under key entry one rest same =
    let is = same_is entry.key one.key same in
    ⊎_elim
    (λ (here : is_same key entry.key ≡ true). rw here refl)
    (λ (here : is_same key entry.key ≡ false).
    (let differ : is_same key one.key ≡ false = ap (λ (k : List ℕ). is_same key k) (sym is) ∙ here in
    rw here (rw differ refl)))
    (cases_Bool (is_same key entry.key))

with_under : (key : List ℕ) (entry : Entry) (map : List Entry) → keys_ascend map ≡ true → value_under key (with_entry entry map) ≡ set_under key entry map
with_under key entry [] up = front_under key entry [] refl
with_under key entry (one ∷ rest) up = ⊎_elim (before (with_under key entry rest (ascend_rest one.key rest up))) not_before (cases_Bool (is_before one.key entry.key))
  where
    before : value_under key (with_entry entry rest) ≡ set_under key entry rest → is_before one.key entry.key ≡ true → value_under key (with_entry entry (one ∷ rest)) ≡ set_under key entry (one ∷ rest)
    before behind is = rw is (⊎_elim
        (λ (here : is_same key one.key ≡ true).
        (let differ : is_same key entry.key ≡ false = ap (λ (k : List ℕ). is_same k entry.key) (same_is key one.key here) ∙ before_differs one.key entry.key is in
        rw here (rw differ refl)))
        (λ (here : is_same key one.key ≡ false). rw here behind)
        (cases_Bool (is_same key one.key)))

    placed_there : is_same entry.key one.key ≡ true → value_under key (placed entry (one ∷ rest)) ≡ set_under key entry (one ∷ rest)
    placed_there same =
        rw same (front_under key entry rest (ap (λ (k : List ℕ). value_under k rest) (same_is entry.key one.key same) ∙ none_above one.key rest up) ∙ over_under key entry one rest same)

    not_before : is_before one.key entry.key ≡ false → value_under key (with_entry entry (one ∷ rest)) ≡ set_under key entry (one ∷ rest)
    not_before is = rw is (⊎_elim placed_there
        (λ (same : is_same entry.key one.key ≡ false).
        rw same (front_under key entry (one ∷ rest) (none_above entry.key (one ∷ rest) (and_from _ _ (other_before one.key entry.key is same) up))))
        (cases_Bool (is_same entry.key one.key)))

-- The keys still ascend, and each entry has a value.
front_above : (low : List ℕ) (entry : Entry) (rest : List Entry) → is_before low entry.key ≡ true → ascend_above low rest ≡ true → ascend_above entry.key rest ≡ true → ascend_above low (in_front entry rest) ≡ true
front_above low entry rest lower up behind = ⊎_elim
    (λ (has : has_value entry.value ≡ true). rw has (and_from _ _ lower behind))
    (λ (has : has_value entry.value ≡ false). rw has up)
    (cases_Bool (has_value entry.value))

with_above : (low : List ℕ) (entry : Entry) (map : List Entry) → is_before low entry.key ≡ true → ascend_above low map ≡ true → ascend_above low (with_entry entry map) ≡ true
with_above low entry [] lower up = front_above low entry [] lower refl refl
with_above low entry (one ∷ rest) lower up = ⊎_elim
    (λ (is : is_before one.key entry.key ≡ true). rw is (and_from _ _ both.0 (with_above one.key entry rest is both.1)))
    (λ (is : is_before one.key entry.key ≡ false). rw is (⊎_elim
    (λ (same : is_same entry.key one.key ≡ true). rw same (front_above low entry rest lower (above_lower low one.key rest both.0 both.1) (ap (λ (k : List ℕ). ascend_above k rest) (same_is entry.key one.key same) ∙ both.1)))
    (λ (same : is_same entry.key one.key ≡ false). rw same (front_above low entry (one ∷ rest) lower up (and_from _ _ (other_before one.key entry.key is same) both.1)))
    (cases_Bool (is_same entry.key one.key))))
    (cases_Bool (is_before one.key entry.key))
  where
    both : (is_before low one.key ≡ true) × (ascend_above one.key rest ≡ true)
    both = and_parts (is_before low one.key) (ascend_above one.key rest) up

front_ascend : (entry : Entry) (rest : List Entry) → keys_ascend rest ≡ true → ascend_above entry.key rest ≡ true → keys_ascend (in_front entry rest) ≡ true
front_ascend entry rest up behind = ⊎_elim
    (λ (has : has_value entry.value ≡ true). rw has behind)
    (λ (has : has_value entry.value ≡ false). rw has up)
    (cases_Bool (has_value entry.value))

pub with_ascend : (entry : Entry) (map : List Entry) → keys_ascend map ≡ true → keys_ascend (with_entry entry map) ≡ true
with_ascend entry [] up = front_ascend entry [] refl refl
with_ascend entry (one ∷ rest) up = ⊎_elim
    (λ (is : is_before one.key entry.key ≡ true). rw is (with_above one.key entry rest is up))
    (λ (is : is_before one.key entry.key ≡ false). rw is (⊎_elim
    (λ (same : is_same entry.key one.key ≡ true). rw same (front_ascend entry rest (ascend_rest one.key rest up) (ap (λ (k : List ℕ). ascend_above k rest) (same_is entry.key one.key same) ∙ up)))
    (λ (same : is_same entry.key one.key ≡ false). rw same (front_ascend entry (one ∷ rest) up (and_from _ _ (other_before one.key entry.key is same) up)))
    (cases_Bool (is_same entry.key one.key))))
    (cases_Bool (is_before one.key entry.key))

front_whole : (entry : Entry) (rest : List Entry) → have_values rest ≡ true → have_values (in_front entry rest) ≡ true
front_whole entry rest whole = ⊎_elim
    (λ (has : has_value entry.value ≡ true). rw has (and_from _ _ has whole))
    (λ (has : has_value entry.value ≡ false). rw has whole)
    (cases_Bool (has_value entry.value))

pub with_whole : (entry : Entry) (map : List Entry) → have_values map ≡ true → have_values (with_entry entry map) ≡ true
with_whole entry [] whole = front_whole entry [] refl
with_whole entry (one ∷ rest) whole = ⊎_elim
    (λ (is : is_before one.key entry.key ≡ true). rw is (and_from _ _ both.0 (with_whole entry rest both.1)))
    (λ (is : is_before one.key entry.key ≡ false). rw is (⊎_elim
    (λ (same : is_same entry.key one.key ≡ true). rw same (front_whole entry rest both.1))
    (λ (same : is_same entry.key one.key ≡ false). rw same (front_whole entry (one ∷ rest) whole))
    (cases_Bool (is_same entry.key one.key))))
    (cases_Bool (is_before one.key entry.key))
  where
    both : (has_value one.value ≡ true) × (have_values rest ≡ true)
    both = and_parts (has_value one.value) (have_values rest) whole

-- A whole change.
all_ascend : (change map : List Entry) → keys_ascend map ≡ true → keys_ascend (with_all change map) ≡ true
all_ascend [] map up = up
all_ascend (entry ∷ change) map up = all_ascend change (with_entry entry map) (with_ascend entry map up)

all_whole : (change map : List Entry) → have_values map ≡ true → have_values (with_all change map) ≡ true
all_whole [] map whole = whole
all_whole (entry ∷ change) map whole = all_whole change (with_entry entry map) (with_whole entry map whole)

all_under : (key : List ℕ) (change map : List Entry) → keys_ascend change ≡ true → keys_ascend map ≡ true → value_under key (with_all change map) ≡ (if names key change then value_under key change else value_under key map)
all_under key [] map ascend up = refl
all_under key (entry ∷ change) map ascend up =
    all_under key change (with_entry entry map) (ascend_rest entry.key change ascend) (with_ascend entry map up)
    ∙ ap (λ (v : Option Value). if names key change then value_under key change else v) (with_under key entry map up)
    ∙ ⊎_elim here elsewhere (cases_Bool (is_same key entry.key))
  where
    here : is_same key entry.key ≡ true → (if names key change then value_under key change else set_under key entry map) ≡ (if names key (entry ∷ change) then value_under key (entry ∷ change) else value_under key map)
    here same =
        let unnamed : names key change ≡ false = ap (λ (k : List ℕ). names k change) (same_is key entry.key same) ∙ unnamed_above entry.key change ascend in
        rw same (rw unnamed refl)

    elsewhere : is_same key entry.key ≡ false → (if names key change then value_under key change else set_under key entry map) ≡ (if names key (entry ∷ change) then value_under key (entry ∷ change) else value_under key map)
    elsewhere differ = rw differ refl

pub merged : (change map : List Entry) → keys_ascend change ≡ true → keys_ascend map ≡ true → have_values map ≡ true → Merged change map (with_all change map)
merged change map ascend up whole = record { ascend = all_ascend change map up; whole = all_whole change map whole; under = λ key. all_under key change map ascend up }
