-- A map whose keys are among keys that ascend is what stands under each of these, one after the other.
use Rattle.std.proofs.Common.{◌≡◌, ◌∙◌, ℕ, refl, sym, ap, subst, inl, inr, ◌&&◌, ◌==◌, Bool, true, false, List, [], ◌∷◌, ◌++◌, Option, Some, None, map, arith}
use Rattle.std.proofs.lemmas.Bool.{and_from, and_parts, both_ways, cases_Bool}
use Rattle.std.proofs.lemmas.Bool.Decides.{nat_tests}
use Rattle.std.specs.List.{flat_map}
use Rattle.mt_tlv.specs.declared.value.Value.{Value}
use Rattle.mt_durable.specs.Keys.{is_before, is_same}
use Rattle.mt_durable.specs.Maps.{ascend_above, has_value, have_values, keys_ascend, value_under}
use Rattle.mt_durable.specs.declared.durable.Entry.{Entry}
use Rattle.mt_grammar.specs.declared.keys.Key.{Key}
use Rattle.mt_lasting.specs.Contents.{entry_if}
use Rattle.mt_lasting.specs.Keys.{all_keys, key_bytes}
use Rattle.mt_regained.proofs.Lists.{Each, IsIn}

-- The order of bytes.

pub same_is : (a b : List ℕ) → is_same a b ≡ true → a ≡ b
same_is [] [] same = refl
same_is [] (y ∷ ys) same = absurd (grind (arith, same))
same_is (x ∷ xs) [] same = absurd (grind (arith, same))
same_is (x ∷ xs) (y ∷ ys) same =
    let both = and_parts (x == y) (is_same xs ys) same in
    let head : x ≡ y = grind (arith, nat_tests, both.0) in
    ap (λ (n : ℕ). n ∷ xs) head ∙ ap (λ (l : List ℕ). y ∷ l) (same_is xs ys both.1)

pub same_itself : (a : List ℕ) → is_same a a ≡ true
same_itself [] = refl
same_itself (x ∷ xs) = and_from (x == x) (is_same xs xs) (grind (arith, nat_tests)) (same_itself xs)

before_differs : (a b : List ℕ) → is_before a b ≡ true → is_same a b ≡ false
before_differs a [] before = absurd (grind (arith, before))
before_differs [] (y ∷ ys) before = refl
before_differs (x ∷ xs) (y ∷ ys) before = grind (arith, nat_tests, before_differs xs ys)

before_then : (a b c : List ℕ) → is_before a b ≡ true → is_before b c ≡ true → is_before a c ≡ true
before_then a b [] first second = absurd (grind (arith, second))
before_then a [] (z ∷ zs) first second = absurd (grind (arith, first))
before_then [] (y ∷ ys) (z ∷ zs) first second = refl
before_then (x ∷ xs) (y ∷ ys) (z ∷ zs) first second = grind (arith, nat_tests, before_then xs ys zs)

later_differs : (a b : List ℕ) → is_before a b ≡ true → is_same b a ≡ false
later_differs a b before = elim (cases_Bool (is_same b a)) [
  | inl same ↦
      let itself : is_before a a ≡ true = subst (λ (c : List ℕ). is_before a c ≡ true) (same_is b a same) before in
      absurd (both_ways (is_same a a) (before_differs a a itself) (same_itself a))
  | inr differs ↦ differs
]

-- Keys.

-- whether the bytes of the keys ascend, from above these on
abbrev pub bytes_above : List ℕ → List Key → Bool
bytes_above bytes [] = true
bytes_above bytes (key ∷ some) = is_before bytes (key_bytes key) && bytes_above (key_bytes key) some

abbrev pub bytes_ascend : List Key → Bool
bytes_ascend [] = true
bytes_ascend (key ∷ some) = bytes_above (key_bytes key) some

pub all_ascend : bytes_ascend all_keys ≡ true
all_ascend = refl

above_in : (bytes : List ℕ) (some : List Key) (one : List ℕ) → bytes_above bytes some ≡ true → IsIn one (map key_bytes some) → is_before bytes one ≡ true
above_in bytes [] one above there = absurd there
above_in bytes (key ∷ some) one above (inl is) = subst (λ (b : List ℕ). is_before bytes b ≡ true) (sym is) (and_parts (is_before bytes (key_bytes key)) (bytes_above (key_bytes key) some) above).0
above_in bytes (key ∷ some) one above (inr later) =
    let both = and_parts (is_before bytes (key_bytes key)) (bytes_above (key_bytes key) some) above in
    before_then bytes (key_bytes key) one both.0 (above_in (key_bytes key) some one both.1 later)

above_rest : (bytes : List ℕ) (some : List Key) → bytes_above bytes some ≡ true → bytes_ascend some ≡ true
above_rest bytes [] above = refl
above_rest bytes (key ∷ some) above = (and_parts (is_before bytes (key_bytes key)) (bytes_above (key_bytes key) some) above).1

-- Entries.

ascend_lower : (a b : List ℕ) (entries : List Entry) → is_before a b ≡ true → ascend_above b entries ≡ true → ascend_above a entries ≡ true
ascend_lower a b [] before above = refl
ascend_lower a b (entry ∷ entries) before above =
    let both = and_parts (is_before b entry.key) (ascend_above entry.key entries) above in
    and_from _ _ (before_then a b entry.key before both.0) both.1

none_under : (key : List ℕ) (entries : List Entry) → ascend_above key entries ≡ true → value_under key entries ≡ None
none_under key [] above = refl
none_under key (entry ∷ entries) above =
    let both = and_parts (is_before key entry.key) (ascend_above entry.key entries) above in
    rw (before_differs key entry.key both.0) (none_under key entries (ascend_lower key entry.key entries both.0 both.1))

rest_ascends : (key : List ℕ) (entries : List Entry) → ascend_above key entries ≡ true → keys_ascend entries ≡ true
rest_ascends key [] above = refl
rest_ascends key (entry ∷ entries) above = (and_parts (is_before key entry.key) (ascend_above entry.key entries) above).1

-- whether the keys of all entries are among some
abbrev pub AreOf : List (List ℕ) → List Entry → Type 0
AreOf some entries = Each (λ (entry : Entry). IsIn entry.key some) entries

without_first : (first : List ℕ) (some : List (List ℕ)) (entries : List Entry) → ascend_above first entries ≡ true → AreOf (first ∷ some) entries → AreOf some entries
without_first first some [] above each = refl
without_first first some (entry ∷ entries) above each =
    let both = and_parts (is_before first entry.key) (ascend_above entry.key entries) above in (
      elim each.0 [
        | inl is ↦ absurd (both_ways (is_same entry.key first) (later_differs first entry.key both.0) (subst (λ (b : List ℕ). is_same b first ≡ true) (sym is) (same_itself first)))
        | inr later ↦ later
      ],
      without_first first some entries (ascend_lower first entry.key entries both.0 both.1) each.1,
    )

itself : (key : Key) (bytes : List ℕ) (value : Option Value) → bytes ≡ key_bytes key → has_value value ≡ true → entry_if key value ≡ record { key = bytes; value = value } ∷ []
itself key bytes None is there = absurd cc
itself key bytes (Some value) is there = ap (λ (b : List ℕ). record { key = b; value = Some value } ∷ []) (sym is)

-- what is under each of some keys
abbrev pub entry_of : List Entry → Key → List Entry
entry_of entries key = entry_if key (value_under (key_bytes key) entries)

pub entries_of : List Key → List Entry → List Entry
entries_of some entries = flat_map (entry_of entries) some

none_at_all : (some : List Key) → flat_map (entry_of []) some ≡ []
none_at_all [] = refl
none_at_all (key ∷ some) = none_at_all some

-- an entry before all of the keys is not under them
not_under : (entry : Entry) (entries : List Entry) (some : List Key) → bytes_above entry.key some ≡ true → flat_map (entry_of (entry ∷ entries)) some ≡ flat_map (entry_of entries) some
not_under entry entries [] above = refl
not_under entry entries (key ∷ some) above =
    let both = and_parts (is_before entry.key (key_bytes key)) (bytes_above (key_bytes key) some) above in
    let on : bytes_above entry.key some ≡ true = above_lower entry.key (key_bytes key) some both.0 both.1 in
    rw (later_differs entry.key (key_bytes key) both.0) (ap (λ (l : List Entry). entry_of entries key ++ l) (not_under entry entries some on))
  where
    above_lower : (a b : List ℕ) (some : List Key) → is_before a b ≡ true → bytes_above b some ≡ true → bytes_above a some ≡ true
    above_lower a b [] before above = refl
    above_lower a b (next ∷ others) before above =
        let both = and_parts (is_before b (key_bytes next)) (bytes_above (key_bytes next) others) above in
        and_from _ _ (before_then a b (key_bytes next) before both.0) both.1

pub gathered : (some : List Key) (entries : List Entry) → bytes_ascend some ≡ true → keys_ascend entries ≡ true → have_values entries ≡ true → AreOf (map key_bytes some) entries → flat_map (entry_of entries) some ≡ entries
gathered [] [] up ascend whole each = refl
gathered [] (entry ∷ entries) up ascend whole each = absurd each.0
gathered (key ∷ some) [] up ascend whole each = none_at_all some
gathered (key ∷ some) (entry ∷ entries) up ascend whole each =
    let values = and_parts (has_value entry.value) (have_values entries) whole in
    elim each.0 [
      | inl is ↦
          let above : bytes_above entry.key some ≡ true = ap (λ (b : List ℕ). bytes_above b some) is ∙ up in
          let same : is_same (key_bytes key) entry.key ≡ true = subst (λ (b : List ℕ). is_same (key_bytes key) b ≡ true) (sym is) (same_itself (key_bytes key)) in
          let rest : AreOf (map key_bytes some) entries = without_first (key_bytes key) (map key_bytes some) entries (ap (λ (b : List ℕ). ascend_above b entries) (sym is) ∙ ascend) each.1 in
          rw same (
          ap (λ (l : List Entry). l ++ flat_map (entry_of (entry ∷ entries)) some) (itself key entry.key entry.value is values.0)
          ∙ ap (λ (l : List Entry). entry ∷ l) (not_under entry entries some above ∙ gathered some entries (above_rest (key_bytes key) some up) (rest_ascends entry.key entries ascend) values.1 rest))
      | inr later ↦
          let before : is_before (key_bytes key) entry.key ≡ true = above_in (key_bytes key) some entry.key up later in
          let above : ascend_above (key_bytes key) (entry ∷ entries) ≡ true = and_from _ _ before ascend in
          let rest : AreOf (map key_bytes some) (entry ∷ entries) = without_first (key_bytes key) (map key_bytes some) (entry ∷ entries) above each in
          ap (λ (v : Option Value). entry_if key v ++ flat_map (entry_of (entry ∷ entries)) some) (none_under (key_bytes key) (entry ∷ entries) above)
          ∙ gathered some (entry ∷ entries) (above_rest (key_bytes key) some up) ascend whole rest
    ]
