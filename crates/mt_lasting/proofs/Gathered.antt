-- The entries and the fabrics of a valid state are those of each index, one index after the other.
use Rattle.std.proofs.Common.{◌≡◌, refl, inl, inr, ℕ, ◌+◌, ◌≤◌, ◌<◌, nat_le, nat_lt, Bool, true, List, [], ◌∷◌, filter, length, arith}
use Rattle.std.proofs.lemmas.Bool.{and_from, and_parts, eqb-true, le-leb, leb-true, lt-ltb, ltb-true, or_cases}
use Rattle.std.specs.List.{flat_map, list_all, list_any}
use Rattle.mt_model.specs.rows.Order.{fabrics_ascend, rise_above}
use Rattle.mt_model.specs.rows.Setting.{is_entry_of}
use Rattle.mt_model.specs.tables.Holding.{is_owned}
use Rattle.mt_model.specs.texts.Config.{ascend_from, is_of}
use Rattle.mt_model.specs.declared.limits.TheConstants.{FABRICS}
use Rattle.mt_model.specs.declared.tables.access.AclEntry.{AclEntry}
use Rattle.mt_model.specs.declared.tables.fabric.Fabric.{Fabric}
use Rattle.mt_lasting.specs.Keys.{indexes}
use Rattle.mt_lasting.specs.Values.{has_index}
use Rattle.mt_lasting.proofs.Buckets.{few_of, gathered, is_below, rise, rise_lower}

abbrev has_index_up_to : ℕ → Fabric → Bool
has_index_up_to most fabric = nat_le fabric.index most

abbrev its_fabric : AclEntry → ℕ
its_fabric entry = entry.fabric

abbrev its_index : Fabric → ℕ
its_index fabric = fabric.index

-- Entries.

entries_rise : (least : ℕ) (entries : List AclEntry) → ascend_from least entries ≡ true → rise AclEntry its_fabric least entries ≡ true
entries_rise least [] up = refl
entries_rise least (entry ∷ entries) up =
    let both = and_parts (nat_le least entry.fabric) (ascend_from entry.fabric entries) up in
    and_from _ _ both.0 (entries_rise entry.fabric entries both.1)

owned_below : (fabrics : List Fabric) (entry : AclEntry) → list_all (has_index_up_to FABRICS) fabrics ≡ true → is_owned fabrics entry ≡ true → is_below AclEntry its_fabric (1 + FABRICS) entry ≡ true
owned_below [] entry up owned = absurd cc
owned_below (fabric ∷ fabrics) entry up owned =
    let both = and_parts (has_index_up_to FABRICS fabric) (list_all (has_index_up_to FABRICS) fabrics) up in
    elim (or_cases (is_of fabric entry) (list_any (λ f. is_of f entry) fabrics) owned) [
      | inl here ↦
          let is : entry.fabric ≡ fabric.index = eqb-true entry.fabric fabric.index here in
          let most : fabric.index ≤ FABRICS = leb-true fabric.index FABRICS both.0 in
          lt-ltb entry.fabric (1 + FABRICS) (omega (arith, is, most))
      | inr later ↦ owned_below fabrics entry both.1 later
    ]

all_below : (fabrics : List Fabric) (entries : List AclEntry) → list_all (has_index_up_to FABRICS) fabrics ≡ true → list_all (is_owned fabrics) entries ≡ true → list_all (is_below AclEntry its_fabric (1 + FABRICS)) entries ≡ true
all_below fabrics [] up owned = refl
all_below fabrics (entry ∷ entries) up owned =
    let both = and_parts (is_owned fabrics entry) (list_all (is_owned fabrics) entries) owned in
    and_from _ _ (owned_below fabrics entry up both.0) (all_below fabrics entries up both.1)

pub entries_gathered : (fabrics : List Fabric) (entries : List AclEntry) → ascend_from 1 entries ≡ true → list_all (has_index_up_to FABRICS) fabrics ≡ true → list_all (is_owned fabrics) entries ≡ true
    → flat_map (λ fabric. filter (is_entry_of fabric) entries) indexes ≡ entries
entries_gathered fabrics entries rises up owned = gathered AclEntry its_fabric 1 FABRICS entries (entries_rise 1 entries rises) (all_below fabrics entries up owned)

-- Fabrics.

fabrics_rise : (index : ℕ) (fabrics : List Fabric) → rise_above index fabrics ≡ true → rise Fabric its_index (index + 1) fabrics ≡ true
fabrics_rise index [] up = refl
fabrics_rise index (fabric ∷ fabrics) up =
    let both = and_parts (nat_lt index fabric.index) (rise_above fabric.index fabrics) up in
    let above : index < fabric.index = ltb-true index fabric.index both.0 in
    and_from _ _ (le-leb (index + 1) fabric.index (omega (arith, above))) (rise_lower Fabric its_index fabric.index (fabric.index + 1) fabrics (omega arith) (fabrics_rise fabric.index fabrics both.1))

indexes_below : (fabrics : List Fabric) → list_all (has_index_up_to FABRICS) fabrics ≡ true → list_all (is_below Fabric its_index (1 + FABRICS)) fabrics ≡ true
indexes_below [] up = refl
indexes_below (fabric ∷ fabrics) up =
    let both = and_parts (has_index_up_to FABRICS fabric) (list_all (has_index_up_to FABRICS) fabrics) up in
    let most : fabric.index ≤ FABRICS = leb-true fabric.index FABRICS both.0 in
    and_from _ _ (lt-ltb fabric.index (1 + FABRICS) (omega (arith, most))) (indexes_below fabrics both.1)

pub fabrics_gathered : (fabrics : List Fabric) → fabrics_ascend fabrics ≡ true → list_all (has_index_up_to FABRICS) fabrics ≡ true → flat_map (λ index. filter (has_index index) fabrics) indexes ≡ fabrics
fabrics_gathered fabrics rises up = gathered Fabric its_index 1 FABRICS fabrics (fabrics_rise 0 fabrics rises) (indexes_below fabrics up)

-- no two fabrics have one index
pub fabrics_few : (fabric index : ℕ) (fabrics : List Fabric) → rise_above index fabrics ≡ true → length (filter (has_index fabric) fabrics) ≤ 1
fabrics_few fabric index [] up = omega arith
fabrics_few fabric index (first ∷ fabrics) up =
    let both = and_parts (nat_lt index first.index) (rise_above first.index fabrics) up in
    few_of Fabric its_index fabric first fabrics (fabrics_rise first.index fabrics both.1) (fabrics_few fabric first.index fabrics both.1)
