-- The change from one map to another: its keys ascend, and it leads there.
use Rattle.std.proofs.Common.{◌≡◌, ⊎_elim, ℕ, true, false, List, [], ◌∷◌, refl, sym, ap, ◌∙◌, true≢false}
use Rattle.std.specs.List.{AllByRecursion}
use Rattle.std.proofs.lemmas.Bool.{and_from, and_parts, cases_Bool}
use Rattle.mt_durable.specs.Differences.{differences, gone}
use Rattle.mt_durable.specs.Fronts.{entry_bytes}
use Rattle.mt_durable.specs.Keys.{is_before, is_same}
use Rattle.mt_durable.specs.Maps.{ascend_above, has_value, have_values, keys_ascend}
use Rattle.mt_durable.specs.Setting.{with_all, with_entry}
use Rattle.mt_durable.specs.declared.durable.Entry.{Entry}
use Rattle.mt_durable.proofs.FromEmpty.{from_empty}
use Rattle.mt_durable.proofs.Fronts.{stays_in_front}
use Rattle.mt_durable.proofs.Keys.{before_differs, before_then, other_before, same_is, same_itself}
use Rattle.mt_durable.proofs.Merging.{above_lower, ascend_rest}

-- What is set where both maps go on, by which of their first keys comes first.
pub by_first : (one other : Entry) (map others : List Entry) (Fact : List Entry → Type 0)
    → (is_before other.key one.key ≡ true → Fact (other ∷ differences (one ∷ map) others))
    → (one.key ≡ other.key → is_same (entry_bytes one) (entry_bytes other) ≡ true → Fact (differences map others))
    → (one.key ≡ other.key → Fact (other ∷ differences map others))
    → (is_before one.key other.key ≡ true → Fact (gone one ∷ differences map (other ∷ others)))
    → Fact (differences (one ∷ map) (other ∷ others))
by_first one other map others Fact before alike changed lost = ⊎_elim
    (λ (is : is_before other.key one.key ≡ true). rw is (before is))
    (λ (not : is_before other.key one.key ≡ false). rw not (⊎_elim
    (λ (same : is_same one.key other.key ≡ true). rw same (⊎_elim
    (λ (bytes : is_same (entry_bytes one) (entry_bytes other) ≡ true). rw bytes (alike (same_is one.key other.key same) bytes))
    (λ (bytes : is_same (entry_bytes one) (entry_bytes other) ≡ false). rw bytes (changed (same_is one.key other.key same)))
    (cases_Bool (is_same (entry_bytes one) (entry_bytes other)))))
    (λ (differs : is_same one.key other.key ≡ false). rw differs (lost (other_before other.key one.key not differs)))
    (cases_Bool (is_same one.key other.key))))
    (cases_Bool (is_before other.key one.key))

-- The keys ascend.
ascends_above : (low : List ℕ) (from to : List Entry) → ascend_above low from ≡ true → ascend_above low to ≡ true → ascend_above low (differences from to) ≡ true
ascends_above low [] to up above = above
ascends_above low (one ∷ map) [] up above =
    let own = and_parts (is_before low one.key) (ascend_above one.key map) up in
    and_from _ _ own.0 (ascends_above one.key map [] own.1 refl)
ascends_above low (one ∷ map) (other ∷ others) up above =
    let own = and_parts (is_before low one.key) (ascend_above one.key map) up in
    let its = and_parts (is_before low other.key) (ascend_above other.key others) above in
    by_first one other map others (λ (change : List Entry). ascend_above low change ≡ true)
    (λ before. and_from _ _ its.0 (ascends_above other.key (one ∷ map) others (and_from _ _ before own.1) its.1))
    (λ same bytes. ascends_above low map others (above_lower low one.key map own.0 own.1) (above_lower low other.key others its.0 its.1))
    (λ same. and_from _ _ its.0 (ascends_above other.key map others (ap (λ (k : List ℕ). ascend_above k map) (sym same) ∙ own.1) its.1))
    (λ lower. and_from _ _ own.0 (ascends_above one.key map (other ∷ others) own.1 (and_from _ _ lower its.1)))

pub ascends : (from to : List Entry) → keys_ascend from ≡ true → keys_ascend to ≡ true → keys_ascend (differences from to) ≡ true
ascends [] to up above = above
ascends (one ∷ map) [] up above = ascends_above one.key map [] up refl
ascends (one ∷ map) (other ∷ others) up above = by_first one other map others (λ (change : List Entry). keys_ascend change ≡ true)
    (λ before. ascends_above other.key (one ∷ map) others (and_from _ _ before up) above)
    (λ same bytes. ascends map others (ascend_rest one.key map up) (ascend_rest other.key others above))
    (λ same. ascends_above other.key map others (ap (λ (k : List ℕ). ascend_above k map) (sym same) ∙ up) above)
    (λ lower. ascends_above one.key map (other ∷ others) up (and_from _ _ lower above))

-- a key comes neither before itself nor before one that comes before it
not_itself : (key : List ℕ) → is_before key key ≡ false
not_itself key = ⊎_elim
    (λ (is : is_before key key ≡ true). absurd (true≢false (sym (same_itself key) ∙ before_differs key key is)))
    (λ (is : is_before key key ≡ false). is)
    (cases_Bool (is_before key key))

not_both : (key later : List ℕ) → is_before key later ≡ true → is_before later key ≡ false
not_both key later before = ⊎_elim
    (λ (is : is_before later key ≡ true). absurd (true≢false (sym (before_then key later key before is) ∙ not_itself key)))
    (λ (is : is_before later key ≡ false). is)
    (cases_Bool (is_before later key))

-- What an entry does to the first of a map: it takes it away, comes before it, or takes its place.
taken_away : (one : Entry) (map : List Entry) → with_entry (gone one) (one ∷ map) ≡ map
taken_away one map = rw (not_itself one.key) (rw (same_itself one.key) refl)

put_before : (other one : Entry) (map : List Entry) → has_value other.value ≡ true → is_before other.key one.key ≡ true → with_entry other (one ∷ map) ≡ other ∷ one ∷ map
put_before other one map has before = rw (not_both other.key one.key before) (rw (before_differs other.key one.key before) (rw has refl))

put_in_place : (other one : Entry) (map : List Entry) → has_value other.value ≡ true → one.key ≡ other.key → with_entry other (one ∷ map) ≡ other ∷ map
put_in_place other one map has same = rw same (rw (not_itself other.key) (rw (same_itself other.key) (rw has refl)))

-- The change leads there, where entries are known by their bytes.
module _ (IsKnown : Entry → Type 0) (known : (one other : Entry) → IsKnown one → IsKnown other → is_same (entry_bytes one) (entry_bytes other) ≡ true → one ≡ other) where
  pub leads : (from to : List Entry) → AllByRecursion IsKnown from → AllByRecursion IsKnown to → keys_ascend from ≡ true → keys_ascend to ≡ true → have_values to ≡ true
      → with_all (differences from to) from ≡ to
  leads [] to all each up above whole = from_empty to above whole
  leads (one ∷ map) [] all each up above whole =
      ap (λ (l : List Entry). with_all (differences map []) l) (taken_away one map)
      ∙ leads map [] all.1 each (ascend_rest one.key map up) above whole
  leads (one ∷ map) (other ∷ others) all each up above whole =
      let values = and_parts (has_value other.value) (have_values others) whole in
      let own = ascend_rest one.key map up in
      let its = ascend_rest other.key others above in
      by_first one other map others (λ (change : List Entry). with_all change (one ∷ map) ≡ other ∷ others)
      (λ before.
      ap (λ (l : List Entry). with_all (differences (one ∷ map) others) l) (put_before other one map values.0 before)
      ∙ stays_in_front other (differences (one ∷ map) others) (one ∷ map) (ascends_above other.key (one ∷ map) others (and_from _ _ before up) above)
      ∙ ap (λ (l : List Entry). other ∷ l) (leads (one ∷ map) others all each.1 up its values.1))
      (λ same bytes.
      stays_in_front one (differences map others) map (ascends_above one.key map others up (ap (λ (k : List ℕ). ascend_above k others) same ∙ above))
      ∙ ap (λ (l : List Entry). one ∷ l) (leads map others all.1 each.1 own its values.1)
      ∙ ap (λ (e : Entry). e ∷ others) (known one other all.0 each.0 bytes))
      (λ same.
      ap (λ (l : List Entry). with_all (differences map others) l) (put_in_place other one map values.0 same)
      ∙ stays_in_front other (differences map others) map (ascends_above other.key map others (ap (λ (k : List ℕ). ascend_above k map) (sym same) ∙ up) above)
      ∙ ap (λ (l : List Entry). other ∷ l) (leads map others all.1 each.1 own its values.1))
      (λ lower.
      ap (λ (l : List Entry). with_all (differences map (other ∷ others)) l) (taken_away one map)
      ∙ leads map (other ∷ others) all.1 each own above whole)
