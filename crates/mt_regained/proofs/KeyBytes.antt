-- A key that is read has its own bytes.
use Rattle.std.proofs.Common.{◌≡◌, ◌∙◌, ℕ, ◌<◌, ◌≤◌, ◌+◌, ◌*◌, ◌/◌, ◌%◌, zero, suc, refl, sym, ap, subst, inl, inr, ◌==◌, nat_le, nat_lt, Bool, true, List, [], ◌∷◌, ◌++◌, Option, Some, None, length, arith, map, slice_index}
use Rattle.std.proofs.lemmas.Bool.{and_parts, cases_Bool, eqb-true, leb-true, ltb-true}
use Rattle.std.specs.Prelude.{option_map}
use Rattle.std.proofs.lemmas.List.{append-nil}
use Rattle.std.specs.List.{flat_map, list_all}
use Rattle.mt_model.specs.declared.limits.TheConstants.{FABRICS}
use Rattle.mt_model.specs.declared.rows.place.Place.{Place}
use Rattle.mt_grammar.specs.Keys.{alone, fabric_key, is_index, items_key, key_in, key_of, place_in, with_place}
use Rattle.mt_grammar.specs.Keys as grammar
use Rattle.mt_grammar.specs.declared.keys.Key.{Key}
use Rattle.mt_grammar.specs.declared.keys.Key.TheVariants as keys
use Rattle.mt_lasting.specs.Keys.{acl_place, all_keys, four_bytes, indexes, item_places, key_bytes, keys_of, numbers_from, place_bytes, single_places, two_bytes}
use Rattle.mt_regained.proofs.Lists.{IsIn, in-flat, in-left, in-map, in-right}

abbrev pub is_byte : ℕ → Bool
is_byte byte = nat_lt byte 256

-- Numbers.

two_again : (a b : ℕ) → b < 256 → two_bytes (grammar.two_bytes a b) ≡ a ∷ b ∷ []
two_again a b below =
    let high : (a * 256 + b) / 256 ≡ a = omega (arith, below) in
    let low : (a * 256 + b) % 256 ≡ b = omega (arith, below) in
    λ i. high i ∷ low i ∷ []

four_again : (a b c d : ℕ) → b < 256 → c < 256 → d < 256 → four_bytes (grammar.four_bytes a b c d) ≡ a ∷ b ∷ c ∷ d ∷ []
four_again a b c d b_below c_below d_below =
    let n = ((a * 256 + b) * 256 + c) * 256 + d in
    let first : n / 0x1000000 ≡ a = omega (arith, b_below, c_below, d_below) in
    let second : n / 0x10000 % 0x100 ≡ b = omega (arith, b_below, c_below, d_below) in
    let third : n / 0x100 % 0x100 ≡ c = omega (arith, b_below, c_below, d_below) in
    let fourth : n % 0x100 ≡ d = omega (arith, d_below) in
    λ i. first i ∷ second i ∷ third i ∷ fourth i ∷ []

-- Places.

abbrev place_from : ℕ → ℕ → ℕ → ℕ → ℕ → ℕ → ℕ → ℕ → ℕ → ℕ → Place
place_from a b c d e f g h i j = record { endpoint = grammar.two_bytes a b; cluster = grammar.four_bytes c d e f; leaf = grammar.four_bytes g h i j }

of_ten : (a b c d e f g h i j : ℕ) → list_all is_byte (a ∷ b ∷ c ∷ d ∷ e ∷ f ∷ g ∷ h ∷ i ∷ j ∷ []) ≡ true → place_bytes (place_from a b c d e f g h i j) ≡ a ∷ b ∷ c ∷ d ∷ e ∷ f ∷ g ∷ h ∷ i ∷ j ∷ []
of_ten a b c d e f g h i j all =
    let from_a = and_parts (is_byte a) _ all in
    let from_b = and_parts (is_byte b) _ from_a.1 in
    let from_c = and_parts (is_byte c) _ from_b.1 in
    let from_d = and_parts (is_byte d) _ from_c.1 in
    let from_e = and_parts (is_byte e) _ from_d.1 in
    let from_f = and_parts (is_byte f) _ from_e.1 in
    let from_g = and_parts (is_byte g) _ from_f.1 in
    let from_h = and_parts (is_byte h) _ from_g.1 in
    let from_i = and_parts (is_byte i) _ from_h.1 in
    let from_j = and_parts (is_byte j) _ from_i.1 in
    let endpoint = two_again a b (ltb-true b 256 from_b.0) in
    let cluster = four_again c d e f (ltb-true d 256 from_d.0) (ltb-true e 256 from_e.0) (ltb-true f 256 from_f.0) in
    let leaf = four_again g h i j (ltb-true h 256 from_h.0) (ltb-true i 256 from_i.0) (ltb-true j 256 from_j.0) in
    λ k. endpoint k ++ (cluster k ++ leaf k)

some_same : {X : Type 0} (a b : X) → Some a ≡ Some b → a ≡ b
some_same a b same = cc

by_length : (bytes : List ℕ) (place : Place) → length bytes ≡ 10 → list_all is_byte bytes ≡ true
    → Some (place_from (slice_index bytes 0) (slice_index bytes 1) (slice_index bytes 2) (slice_index bytes 3) (slice_index bytes 4) (slice_index bytes 5) (slice_index bytes 6) (slice_index bytes 7) (slice_index bytes 8) (slice_index bytes 9)) ≡ Some place
    → place_bytes place ≡ bytes
by_length (a ∷ b ∷ c ∷ d ∷ e ∷ f ∷ g ∷ h ∷ i ∷ j ∷ []) place ten all is = ap place_bytes (sym (some_same (place_from a b c d e f g h i j) place is)) ∙ of_ten a b c d e f g h i j all
by_length [] place ten all is = absurd (omega (arith, ten))
by_length (a ∷ []) place ten all is = absurd (omega (arith, ten))
by_length (a ∷ b ∷ []) place ten all is = absurd (omega (arith, ten))
by_length (a ∷ b ∷ c ∷ []) place ten all is = absurd (omega (arith, ten))
by_length (a ∷ b ∷ c ∷ d ∷ []) place ten all is = absurd (omega (arith, ten))
by_length (a ∷ b ∷ c ∷ d ∷ e ∷ []) place ten all is = absurd (omega (arith, ten))
by_length (a ∷ b ∷ c ∷ d ∷ e ∷ f ∷ []) place ten all is = absurd (omega (arith, ten))
by_length (a ∷ b ∷ c ∷ d ∷ e ∷ f ∷ g ∷ []) place ten all is = absurd (omega (arith, ten))
by_length (a ∷ b ∷ c ∷ d ∷ e ∷ f ∷ g ∷ h ∷ []) place ten all is = absurd (omega (arith, ten))
by_length (a ∷ b ∷ c ∷ d ∷ e ∷ f ∷ g ∷ h ∷ i ∷ []) place ten all is = absurd (omega (arith, ten))
by_length (a ∷ b ∷ c ∷ d ∷ e ∷ f ∷ g ∷ h ∷ i ∷ j ∷ k ∷ rest) place ten all is = absurd (omega (arith, ten))

place_again : (bytes : List ℕ) (place : Place) → place_in bytes ≡ Some place → list_all is_byte bytes ≡ true → place_bytes place ≡ bytes
place_again bytes place read all = elim (cases_Bool (length bytes == 10)) [
  | inl ten ↦ by_length bytes place (eqb-true (length bytes) 10 ten) all (rw ten at read)
  | inr other ↦
      let none : None ≡ Some place = rw other at read in
      absurd cc
]

-- Keys.

-- the index of a key's fabric is one
abbrev pub has_its_index : Key → Bool
has_its_index (keys.Items fabric place) = is_index fabric
has_its_index (keys.Fabric index) = is_index index
has_its_index key = true

abbrev Again : List ℕ → Key → Type 0
Again bytes key = (key_bytes key ≡ bytes) × (has_its_index key ≡ true)

alone_again : (one : Key) (kind : List ℕ) (rest : List ℕ) (key : Key) → key_bytes one ≡ kind → has_its_index one ≡ true → alone one rest ≡ Some key → Again (kind ++ rest) key
alone_again one kind [] key is its read = subst (λ (k : Key). Again (kind ++ []) k) (some_same one key read) (is ∙ sym (append-nil kind), its)
alone_again one kind (byte ∷ rest) key is its read = absurd cc

placed : (of : Place → Key) (key : Key) (place : Option Place) → option_map of place ≡ Some key → (p : Place) × (place ≡ Some p) × (of p ≡ key)
placed of key None read = absurd cc
placed of key (Some place) read = (place, refl, some_same (of place) key read)

single_again : (rest : List ℕ) (key : Key) → with_place keys.Single rest ≡ Some key → list_all is_byte rest ≡ true → Again (3 ∷ rest) key
single_again rest key read all =
    let parts = placed keys.Single key (place_in rest) read in
    subst (Again (3 ∷ rest)) parts.2 (ap (λ (l : List ℕ). 3 ∷ l) (place_again rest parts.0 parts.1 all), refl)

items_again : (rest : List ℕ) (key : Key) → items_key rest ≡ Some key → list_all is_byte rest ≡ true → Again (4 ∷ rest) key
items_again [] key read all = absurd cc
items_again (fabric ∷ rest) key read all = elim (cases_Bool (is_index fabric)) [
  | inl index ↦
      let there : with_place (keys.Items fabric) rest ≡ Some key = rw index at read in
      let parts = placed (keys.Items fabric) key (place_in rest) there in
      subst (Again (4 ∷ fabric ∷ rest)) parts.2 (ap (λ (l : List ℕ). 4 ∷ fabric ∷ l) (place_again rest parts.0 parts.1 (and_parts (is_byte fabric) (list_all is_byte rest) all).1), index)
  | inr none ↦
      let wrong : None ≡ Some key = rw none at read in
      absurd cc
]

fabric_again : (rest : List ℕ) (key : Key) → fabric_key rest ≡ Some key → Again (5 ∷ rest) key
fabric_again [] key read = absurd cc
fabric_again (index ∷ rest) key read = elim (cases_Bool (is_index index)) [
  | inl its ↦
      let there : alone (keys.Fabric index) rest ≡ Some key = rw its at read in
      alone_again (keys.Fabric index) (5 ∷ index ∷ []) rest key refl its there
  | inr none ↦
      let wrong : None ≡ Some key = rw none at read in
      absurd cc
]

of_kind : (n kind : ℕ) (rest : List ℕ) (key : Key) → (key_of n rest ≡ Some key → Again (n ∷ rest) key) → key_of kind rest ≡ Some key → (kind == n) ≡ true → Again (kind ∷ rest) key
of_kind n kind rest key again read is = subst (λ (m : ℕ). key_of m rest ≡ Some key → Again (m ∷ rest) key) (sym (eqb-true kind n is)) again read

by_kind : (kind : ℕ) (rest : List ℕ) (key : Key) → list_all is_byte rest ≡ true → key_of kind rest ≡ Some key → Again (kind ∷ rest) key
by_kind kind rest key all read =
    elim (cases_Bool (kind == 1)) [
      | inl is ↦ of_kind 1 kind rest key (alone_again keys.Boot (1 ∷ []) rest key refl refl) read is
      | inr not_boot ↦ elim (cases_Bool (kind == 2)) [
        | inl is ↦ of_kind 2 kind rest key (alone_again keys.Ceiling (2 ∷ []) rest key refl refl) read is
        | inr not_ceiling ↦ elim (cases_Bool (kind == 3)) [
          | inl is ↦ of_kind 3 kind rest key (λ r. single_again rest key r all) read is
          | inr not_single ↦ elim (cases_Bool (kind == 4)) [
            | inl is ↦ of_kind 4 kind rest key (λ r. items_again rest key r all) read is
            | inr not_items ↦ elim (cases_Bool (kind == 5)) [
              | inl is ↦ of_kind 5 kind rest key (fabric_again rest key) read is
              | inr not_fabric ↦ elim (cases_Bool (kind == 6)) [
                | inl is ↦ of_kind 6 kind rest key (alone_again keys.Roots (6 ∷ []) rest key refl refl) read is
                | inr not_roots ↦ elim (cases_Bool (kind == 7)) [
                  | inl is ↦ of_kind 7 kind rest key (alone_again keys.Networks (7 ∷ []) rest key refl refl) read is
                  | inr not_networks ↦ elim (cases_Bool (kind == 8)) [
                    | inl is ↦ of_kind 8 kind rest key (alone_again keys.Failsafe (8 ∷ []) rest key refl refl) read is
                    | inr not_failsafe ↦
                        let none : None ≡ Some key = rw (not_boot, not_ceiling, not_single, not_items, not_fabric, not_roots, not_networks, not_failsafe) at read in
                        absurd cc
                  ]
                ]
              ]
            ]
          ]
        ]
      ]
    ]

pub bytes_again : (bytes : List ℕ) (key : Key) → list_all is_byte bytes ≡ true → key_in bytes ≡ Some key → (key_bytes key ≡ bytes) × (has_its_index key ≡ true)
bytes_again [] key all read = absurd cc
bytes_again (kind ∷ rest) key all read = by_kind kind rest key (and_parts (is_byte kind) (list_all is_byte rest) all).1 read

-- All keys.

numbers_in : (n count one : ℕ) → n ≤ one → one < n + count → IsIn one (numbers_from n count)
numbers_in n zero one low high = absurd (omega (arith, low, high))
numbers_in n (suc count) one low high = elim (cases_Bool (one == n)) [
  | inl same ↦ inl (eqb-true one n same)
  | inr apart ↦ inr (numbers_in (n + 1) count one (grind (arith, apart, low)) (omega (arith, high)))
]

pub index_in : (index : ℕ) → is_index index ≡ true → IsIn index indexes
index_in index is =
    let both = and_parts (nat_le 1 index) (nat_le index FABRICS) is in
    let most : index ≤ FABRICS = leb-true index FABRICS both.1 in
    numbers_in 1 FABRICS index (leb-true 1 index both.0) (omega (arith, most))

abbrev tail : List Key
tail = map keys.Fabric indexes ++ (keys.Roots ∷ keys.Networks ∷ keys.Failsafe ∷ [])

pub single_in_all : (place : Place) → IsIn place single_places → IsIn (keys.Single place) all_keys
single_in_all place there = inr (inr (in-left (keys.Single place) (map keys.Single single_places) (flat_map keys_of indexes ++ tail) (in-map keys.Single place single_places there)))

pub items_in_all : (fabric : ℕ) (place : Place) → is_index fabric ≡ true → IsIn place (acl_place ∷ item_places) → IsIn (keys.Items fabric place) all_keys
items_in_all fabric place is there = inr (inr (in-right (keys.Items fabric place) (map keys.Single single_places) (flat_map keys_of indexes ++ tail)
    (in-left (keys.Items fabric place) (flat_map keys_of indexes) tail
    (in-flat keys_of fabric (keys.Items fabric place) indexes (index_in fabric is) (in-map (keys.Items fabric) place (acl_place ∷ item_places) there)))))

pub fabric_in_all : (index : ℕ) → is_index index ≡ true → IsIn (keys.Fabric index) all_keys
fabric_in_all index is = inr (inr (in-right (keys.Fabric index) (map keys.Single single_places) (flat_map keys_of indexes ++ tail)
    (in-right (keys.Fabric index) (flat_map keys_of indexes) tail
    (in-left (keys.Fabric index) (map keys.Fabric indexes) (keys.Roots ∷ keys.Networks ∷ keys.Failsafe ∷ []) (in-map keys.Fabric index indexes (index_in index is))))))

pub last_in_all : (key : Key) → IsIn key (keys.Roots ∷ keys.Networks ∷ keys.Failsafe ∷ []) → IsIn key all_keys
last_in_all key there = inr (inr (in-right key (map keys.Single single_places) (flat_map keys_of indexes ++ tail)
    (in-right key (flat_map keys_of indexes) tail (in-right key (map keys.Fabric indexes) (keys.Roots ∷ keys.Networks ∷ keys.Failsafe ∷ []) there))))
