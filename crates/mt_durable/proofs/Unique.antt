-- A map is known by what stands under each key, so a change leads from a map to one alone.
use Rattle.std.proofs.Common.{◌≡◌, ℕ, Bool, true, false, List, [], ◌∷◌, refl, sym, ap, ◌∙◌, ⊎_elim, true≢false}
use Rattle.std.specs.Prelude.{if◌then◌else◌}
use Rattle.std.proofs.lemmas.Bool.{and_from, and_parts, cases_Bool}
use Rattle.mt_durable.specs.Keys.{is_before, is_same}
use Rattle.mt_durable.specs.Maps.{Merged, ascend_above, has_value, have_values, keys_ascend, value_under}
use Rattle.mt_durable.specs.declared.durable.Entry.{Entry}
use Rattle.mt_durable.proofs.Keys.{other_before, same_is, same_itself}
use Rattle.mt_durable.proofs.Merging.{ascend_rest, none_above}

-- what stands under the first key
first_under : (one : Entry) (rest : List Entry) → value_under one.key (one ∷ rest) ≡ one.value
first_under one rest = ap (λ (b : Bool). if b then one.value else value_under one.key rest) (same_itself one.key)

-- a key that has a value in one map is in no map that begins above it
not_above : (one : Entry) (rest others : List Entry) → has_value one.value ≡ true → ascend_above one.key others ≡ true → value_under one.key (one ∷ rest) ≡ value_under one.key others → ⊥
not_above one rest others has up under = true≢false (sym has ∙ ap has_value (sym (first_under one rest) ∙ under ∙ none_above one.key others up))

same_entry : (one other : Entry) → one.key ≡ other.key → one.value ≡ other.value → one ≡ other
same_entry one other key value = λ i. record { key = key i; value = value i }

-- The same stands under each key in the rest.
rest_under : (one other : Entry) (rest others : List Entry) → one.key ≡ other.key → ascend_above one.key rest ≡ true → ascend_above other.key others ≡ true
    → ((key : List ℕ) → value_under key (one ∷ rest) ≡ value_under key (other ∷ others)) → (key : List ℕ) → value_under key rest ≡ value_under key others
rest_under one other rest others same up above under key = ⊎_elim
    (λ (here : is_same key one.key ≡ true).
    (let is : key ≡ one.key = same_is key one.key here in
    ap (λ (k : List ℕ). value_under k rest) is ∙ none_above one.key rest up ∙ sym (none_above other.key others above) ∙ sym (ap (λ (k : List ℕ). value_under k others) (is ∙ same))))
    (λ (differs : is_same key one.key ≡ false).
    (let too : is_same key other.key ≡ false = ap (λ (k : List ℕ). is_same key k) (sym same) ∙ differs in
    sym (ap (λ (b : Bool). if b then one.value else value_under key rest) differs) ∙ under key ∙ ap (λ (b : Bool). if b then other.value else value_under key others) too))
    (cases_Bool (is_same key one.key))

-- two maps whose first keys are the same, where the rests are
same_front : (one other : Entry) (rest others : List Entry) → is_same other.key one.key ≡ true → value_under one.key (one ∷ rest) ≡ value_under one.key (other ∷ others) → rest ≡ others → (one ∷ rest) ≡ (other ∷ others)
same_front one other rest others same under rests =
    let key : one.key ≡ other.key = sym (same_is other.key one.key same) in
    let value : one.value ≡ other.value = sym (first_under one rest) ∙ under ∙ ap (λ (k : List ℕ). value_under k (other ∷ others)) key ∙ first_under other others in
    ap (λ (e : Entry). e ∷ rest) (same_entry one other key value) ∙ ap (λ (l : List Entry). other ∷ l) rests

same_maps : (map other : List Entry) → keys_ascend map ≡ true → keys_ascend other ≡ true → have_values map ≡ true → have_values other ≡ true
    → ((key : List ℕ) → value_under key map ≡ value_under key other) → map ≡ other
same_maps [] [] up above whole full under = refl
same_maps [] (other ∷ others) up above whole full under = absurd (not_above other others [] (and_parts (has_value other.value) (have_values others) full).0 refl (sym (under other.key)))
same_maps (one ∷ rest) [] up above whole full under = absurd (not_above one rest [] (and_parts (has_value one.value) (have_values rest) whole).0 refl (under one.key))
same_maps (one ∷ rest) (other ∷ others) up above whole full under =
    let has = and_parts (has_value one.value) (have_values rest) whole in
    let had = and_parts (has_value other.value) (have_values others) full in
    ⊎_elim
    (λ (before : is_before one.key other.key ≡ true). absurd (not_above one rest (other ∷ others) has.0 (and_from _ _ before above) (under one.key)))
    (λ (not : is_before one.key other.key ≡ false). ⊎_elim
    (λ (same : is_same other.key one.key ≡ true). same_front one other rest others same (under one.key)
    (same_maps rest others (ascend_rest one.key rest up) (ascend_rest other.key others above) has.1 had.1 (rest_under one other rest others (sym (same_is other.key one.key same)) up above under)))
    (λ (differs : is_same other.key one.key ≡ false). absurd (not_above other others (one ∷ rest) had.0 (and_from _ _ (other_before one.key other.key not differs) up) (sym (under other.key))))
    (cases_Bool (is_same other.key one.key)))
    (cases_Bool (is_before one.key other.key))

pub only_one : (change before one other : List Entry) → Merged change before one → Merged change before other → one ≡ other
only_one change before one other is too = same_maps one other is.ascend too.ascend is.whole too.whole (λ key. is.under key ∙ sym (too.under key))
