-- A map is known by what stands under each key, so a change leads from a map to one alone.
use Rattle.std.proofs.Common.{◌≡◌, ℕ, Bool, true, false, List, [], ◌∷◌, refl, sym, ap, subst, ◌∙◌, inl, inr, true≢false}
use Rattle.std.specs.Prelude.{Some, None, if◌then◌else◌}
use Rattle.std.proofs.lemmas.Bool.{and_from, and_parts, cases_Bool}
use Rattle.mt_durable.specs.Keys.{is_before, is_same}
use Rattle.mt_durable.specs.Maps.{Merged, ascend_above, has_value, have_values, keys_ascend, value_under}
use Rattle.mt_durable.specs.Reading.{Says, change_at}
use Rattle.mt_durable.specs.Setting.{with_all}
use Rattle.mt_durable.specs.declared.durable.Entry.{Entry}
use Rattle.mt_keeping.specs.Laws.{ChangesLeadToOne}
use Rattle.mt_keeping.proofs.Keys.{before_differs, before_then, other_before, same_is, same_itself}
use Rattle.mt_keeping.proofs.Options.{some_same}

-- Keys that ascend.

-- from a lower key on they ascend too
above_lower : (low key : List ℕ) (entries : List Entry) → is_before low key ≡ true → ascend_above key entries ≡ true → ascend_above low entries ≡ true
above_lower low key [] lower up = refl
above_lower low key (one ∷ rest) lower up =
    let both = and_parts (is_before key one.key) (ascend_above one.key rest) up in
    and_from _ _ (before_then low key one.key lower both.0) both.1

ascend_rest : (key : List ℕ) (entries : List Entry) → ascend_above key entries ≡ true → keys_ascend entries ≡ true
ascend_rest key [] up = refl
ascend_rest key (one ∷ rest) up = (and_parts (is_before key one.key) (ascend_above one.key rest) up).1

-- a key stands nowhere among keys that ascend from above it on
none_above : (key : List ℕ) (entries : List Entry) → ascend_above key entries ≡ true → value_under key entries ≡ None
none_above key [] up = refl
none_above key (one ∷ rest) up =
    let both = and_parts (is_before key one.key) (ascend_above one.key rest) up in
    rw (before_differs key one.key both.0) (none_above key rest (above_lower key one.key rest both.0 both.1))

-- Two maps that have the same under each key.

-- what stands under the first key
first_under : (one : Entry) (rest : List Entry) → value_under one.key (one ∷ rest) ≡ one.value
first_under one rest = ap (λ (b : Bool). if b then one.value else value_under one.key rest) (same_itself one.key)

-- a key that has a value in one map is in no map that begins above it
not_above : (one : Entry) (rest others : List Entry) → has_value one.value ≡ true → ascend_above one.key others ≡ true → value_under one.key (one ∷ rest) ≡ value_under one.key others → ⊥
not_above one rest others has up under = true≢false (sym has ∙ ap has_value (sym (first_under one rest) ∙ under ∙ none_above one.key others up))

same_entry : (one other : Entry) → one.key ≡ other.key → one.value ≡ other.value → one ≡ other
same_entry one other key value = λ i. record { key = key i; value = value i }

-- behind the first key, which is the same in both
rest_under : (one other : Entry) (rest others : List Entry) → one.key ≡ other.key → ascend_above one.key rest ≡ true → ascend_above other.key others ≡ true
    → ((key : List ℕ) → value_under key (one ∷ rest) ≡ value_under key (other ∷ others)) → (key : List ℕ) → value_under key rest ≡ value_under key others
rest_under one other rest others same up above under key = elim (cases_Bool (is_same key one.key)) [
  | inl here ↦
      let is : key ≡ one.key = same_is key one.key here in
      ap (λ (k : List ℕ). value_under k rest) is ∙ none_above one.key rest up ∙ sym (none_above other.key others above) ∙ sym (ap (λ (k : List ℕ). value_under k others) (is ∙ same))
  | inr differs ↦
      let too : is_same key other.key ≡ false = ap (λ (k : List ℕ). is_same key k) (sym same) ∙ differs in
      sym (ap (λ (b : Bool). if b then one.value else value_under key rest) differs) ∙ under key ∙ ap (λ (b : Bool). if b then other.value else value_under key others) too
]

same_front : (one other : Entry) (rest others : List Entry) → one.key ≡ other.key → value_under one.key (one ∷ rest) ≡ value_under one.key (other ∷ others) → rest ≡ others → (one ∷ rest) ≡ (other ∷ others)
same_front one other rest others key under rests =
    let value : one.value ≡ other.value = sym (first_under one rest) ∙ under ∙ ap (λ (k : List ℕ). value_under k (other ∷ others)) key ∙ first_under other others in
    ap (λ (e : Entry). e ∷ rest) (same_entry one other key value) ∙ ap (λ (l : List Entry). other ∷ l) rests

same_maps : (map other : List Entry) → keys_ascend map ≡ true → keys_ascend other ≡ true → have_values map ≡ true → have_values other ≡ true
    → ((key : List ℕ) → value_under key map ≡ value_under key other) → map ≡ other
same_maps [] [] up above whole full under = refl
same_maps [] (other ∷ others) up above whole full under = absurd (not_above other others [] (and_parts (has_value other.value) (have_values others) full).0 refl (sym (under other.key)))
same_maps (one ∷ rest) [] up above whole full under = absurd (not_above one rest [] (and_parts (has_value one.value) (have_values rest) whole).0 refl (under one.key))
same_maps (one ∷ rest) (other ∷ others) up above whole full under =
    let has = and_parts (has_value one.value) (have_values rest) whole in
    let had = and_parts (has_value other.value) (have_values others) full in
    elim (cases_Bool (is_before one.key other.key)) [
      | inl before ↦ absurd (not_above one rest (other ∷ others) has.0 (and_from _ _ before above) (under one.key))
      | inr not_before ↦ elim (cases_Bool (is_same other.key one.key)) [
        | inl same ↦
            let key : one.key ≡ other.key = sym (same_is other.key one.key same) in
            same_front one other rest others key (under one.key)
            (same_maps rest others (ascend_rest one.key rest up) (ascend_rest other.key others above) has.1 had.1 (rest_under one other rest others key up above under))
        | inr differs ↦ absurd (not_above other others (one ∷ rest) had.0 (and_from _ _ (other_before one.key other.key not_before differs) up) (sym (under other.key)))
      ]
    ]

only_one : (change before one other : List Entry) → Merged change before one → Merged change before other → one ≡ other
only_one change before one other is too = same_maps one other is.ascend too.ascend is.whole too.whole (λ key. is.under key ∙ sym (too.under key))

-- By the laws that bytes are read as one change, and that this leads on.
pub leads_to_one : ((entries : List Entry) (bytes : List ℕ) → Says entries bytes → change_at bytes ≡ Some entries)
    → ((change map : List Entry) → keys_ascend change ≡ true → keys_ascend map ≡ true → have_values map ≡ true → Merged change map (with_all change map)) → ChangesLeadToOne
leads_to_one read merged change before after bytes up whole says leads =
    let same : leads.entries ≡ change = some_same leads.entries change (sym (read leads.entries bytes leads.says) ∙ read change bytes says) in
    only_one change before after (with_all change before) (subst (λ (entries : List Entry). Merged entries before after) same leads.merged) (merged change before says.ascend up whole)
