-- The state in which a new node begins is valid.
use Rattle.mt_model.specs.declared.rows.place.Row.{Row}
use Rattle.mt_model.specs.declared.messages.status.Status.{Status}
use Rattle.mt_meta.specs.declared.meta.Meta.{Meta}
use Rattle.mt_meta.specs.Finding.{find_data_of}
use Rattle.mt_model.specs.rows.Sight.{same_place}
use Rattle.mt_model.specs.rows.Setting.{is_at}
use Rattle.mt_machine.proofs.Counting.{all-weaker, count-none, counted, impossible, place-itself, place-same}
use Rattle.std.proofs.Common.{◌≡◌, ℕ, ◌+◌, ◌<◌, ◌≤◌, inl, inr, Bool, true, false, not, ◌&&◌, ◌||◌, ◌==◌, nat_le, List, [], ◌∷◌, ◌++◌, length, Option, Some, None, refl, sym, ap, ◌∙◌, bytes_eq, filter, map, arith, Result, Ok, Err, ◌^◌, nat_lt, subst}
use Rattle.std.proofs.lemmas.Bool.{and_from, and_parts, both_ways, cases_Bool, false_from_ne_true, eqb-true, eq-eqb, le-leb, leb-true, ltb-true, not_from_false, not-true, or_cases, or_from, or_left, or_parts, or_right}
use Rattle.std.proofs.lemmas.List.Folds.{list_any-append}
use Rattle.std.proofs.lemmas.Slice.Eq.{bytes_eq-Decides}
use Rattle.std.specs.List.{find, list_all, list_any}
use Rattle.std.specs.Str.{chars, is_utf8}
use lib.Utf8.{encode}
use Rattle.mt_fabrics.specs.Table.{has_index_up_to}
use Rattle.mt_meta.specs.Places.{all_places}
use Rattle.mt_meta.specs.Stored.{first_rows, is_stored}
use Rattle.mt_meta.specs.Table.{attributes_of, clusters_of, endpoints, extensions_of, globals}
use Rattle.mt_model.specs.texts.Config.{are_entries, are_fabrics, are_numbered_from, ascend_from, is_of, none_alike, has_identity, are_credentials, is_certificate, is_fabric, is_label}
use Rattle.mt_model.specs.rows.Order.{are_ascending, fabrics_ascend, rise_above}
use Rattle.mt_model.specs.declared.tables.access.AclEntry.{AclEntry}
use Rattle.mt_model.specs.declared.tables.access.Auth.{Auth}
use Rattle.mt_model.specs.declared.tables.access.Auth.TheVariants.{Pase, Case, Group}
use Rattle.mt_model.specs.declared.rows.place.Place.{Place}
use Rattle.mt_model.specs.declared.texts.config.SessionRow.{SessionRow}
use Rattle.mt_model.specs.declared.tables.fabric.Fabric.{Fabric}
use Rattle.mt_subs.specs.Changes.{IsChanges, change_at, unchanged, newest_of}
use Rattle.mt_machine.specs.Opened.{begun_with, live_or_waits, opened_with, session_of, sessions_of, standing_of, with_roots_of, first_version, versions_at}
use Rattle.mt_machine.specs.Effects.{with_root}
use Rattle.mt_model.specs.declared.node.state.NodeSession.{NodeSession}
use Rattle.mt_model.specs.declared.node.state.NodeState.{NodeState}
use Rattle.mt_model.specs.declared.tables.network.Armed.{Armed}
use Rattle.mt_machine.specs.State.{IsValid, follows, has_one_row, is_change_up_to, is_row, is_session, is_used, stands_once, stands_rightly, ItemsAreFew, has_change, instance_of, instances, is_of_attribute, is_unscoped}
use Rattle.mt_model.specs.tables.Holding.{is_owned, is_root_of}

-- Fabrics.

-- the last of numbered fabrics has the highest index
numbered_up_to : (most index : ℕ) (fabrics : List Fabric) → are_numbered_from index fabrics ≡ true → length fabrics + index ≤ most + 1 → list_all (has_index_up_to most) fabrics ≡ true
numbered_up_to most index [] numbered room = refl
numbered_up_to most index (fabric ∷ fabrics) numbered room =
    let parts = and_parts (fabric.index == index) (are_numbered_from (index + 1) fabrics) numbered in
    let same : fabric.index ≡ index = eqb-true _ _ parts.0 in
    and_from _ _ (le-leb fabric.index most (omega arith)) (numbered_up_to most (index + 1) fabrics parts.1 (omega arith))

-- Entries.

of_this : (f : Fabric) (fs : List Fabric) (e : AclEntry) → 1 ≤ f.index → (list_any (λ fabric. is_of fabric e) fs ≡ true → 1 ≤ e.fabric)
    → list_any (λ fabric. is_of fabric e) (f ∷ fs) ≡ true → 1 ≤ e.fabric
of_this f fs e positive again found = elim (or_cases (e.fabric == f.index) (list_any (λ fabric. is_of fabric e) fs) found) [
  | inl this ↦ let same : e.fabric ≡ f.index = eqb-true _ _ this in omega arith
  | inr other ↦ again other
]

-- an entry of a fabric of the table is of one from 1 on
of_one : (least : ℕ) (fs : List Fabric) (e : AclEntry) → rise_above least fs ≡ true → list_any (λ fabric. is_of fabric e) fs ≡ true → 1 ≤ e.fabric
of_one least [] e up found = absurd (cc)
of_one least (f ∷ fs) e up found =
    let parts = and_parts _ (rise_above f.index fs) up in
    let above : least < f.index = ltb-true least f.index parts.0 in
    of_this f fs e (omega arith) (of_one f.index fs e parts.1) found

from_one : (fabrics : List Fabric) (entries : List AclEntry) → fabrics_ascend fabrics ≡ true → list_all (is_owned fabrics) entries ≡ true → ascend_from 0 entries ≡ true → ascend_from 1 entries ≡ true
from_one fabrics [] rise owned up = refl
from_one fabrics (e ∷ es) rise owned up =
    let first : is_owned fabrics e ≡ true = (and_parts _ _ owned).0 in
    and_from _ _ (le-leb 1 e.fabric (of_one 0 fabrics e rise first)) (and_parts (nat_le 0 e.fabric) (ascend_from e.fabric es) up).1

-- Rows.

rows_rise : are_ascending first_rows ≡ true
unfolding endpoints clusters_of attributes_of globals extensions_of
rows_rise = refl

row_forms : (fabrics : List Fabric) → list_all (is_row fabrics) first_rows ≡ true
unfolding endpoints clusters_of attributes_of globals extensions_of is_stored is_utf8 chars encode
row_forms fabrics = refl

rows_stand : list_all (stands_once first_rows) (filter has_one_row all_places) ≡ true
unfolding endpoints clusters_of attributes_of globals extensions_of is_stored
rows_stand = refl

-- none of them is an item of a scoped list
is_plain_row : Row → Bool
is_plain_row row = is_unscoped (find_data_of row.place)

rows_unscoped : list_all is_plain_row first_rows ≡ true
unfolding is_plain_row endpoints clusters_of attributes_of globals extensions_of
rows_unscoped = refl

row_counts : ItemsAreFew first_rows
unfolding is_plain_row
row_counts place meta fabric there scoped =
    le-leb _ _ (omega (arith, counted (is_at place fabric) first_rows, count-none (is_at place fabric) is_plain_row not_at first_rows rows_unscoped))
  where
    its_scoped : (found : Result Meta Status) → found ≡ Ok meta → is_unscoped found ≡ false
    its_scoped (Ok m) is = let same : m ≡ meta = cc in ap not (ap (λ (x : Meta). x.scoped) same ∙ scoped)
    its_scoped (Err status) is = absurd (cc)

    not_at : (row : Row) → is_plain_row row ≡ true → is_at place fabric row ≡ false
    not_at row plain = false_from_ne_true (is_at place fabric row) (λ at.
        let same = place-same row.place place (and_parts (same_place row.place place) (row.fabric == fabric) at).0 in
        both_ways (is_unscoped (find_data_of place)) (its_scoped (find_data_of place) there) (subst (λ (p : Place). is_unscoped (find_data_of p) ≡ true) same plain))

-- Roots.

-- a fabric's root has its length
root_formed : (f : Fabric) → is_fabric f ≡ true → is_certificate f.credentials.root ≡ true
root_formed f form =
    let given : are_credentials f.credentials ≡ true = (and_parts _ _ (and_parts (are_credentials f.credentials && is_label f.label) (nat_lt f.vendor (2 ^ 16)) form).0).0 in
    (and_parts _ _ (and_parts _ _ (and_parts _ _ (and_parts _ _ (and_parts _ _ (and_parts _ _ given).0).0).0).0).0).0

pub same_bytes : (a : List ℕ) → bytes_eq a a ≡ true
same_bytes a = (bytes_eq-Decides a a).1 refl

pub bytes_apart : (a b : List ℕ) → bytes_eq a b ≡ false → bytes_eq b a ≡ false
bytes_apart a b apart = false_from_ne_true (bytes_eq b a) (λ alike. both_ways (bytes_eq a b) apart ((bytes_eq-Decides a b).1 (sym ((bytes_eq-Decides b a).0 alike))))

pub differ-append : (roots : List (List ℕ)) (root : List ℕ) → list_any (bytes_eq root) roots ≡ false → none_alike bytes_eq roots ≡ true → none_alike bytes_eq (roots ++ root ∷ []) ≡ true
differ-append [] root new differ = refl
differ-append (first ∷ roots) root new differ =
    let apart = or_parts (bytes_eq root first) (list_any (bytes_eq root) roots) new in
    let parts = and_parts (not (list_any (bytes_eq first) roots)) (none_alike bytes_eq roots) differ in
    let none : list_any (bytes_eq first) roots ≡ false = not-true _ parts.0 in
    let not_root : (bytes_eq first root || false) ≡ false = or_from _ _ (bytes_apart root first apart.0) refl in
    and_from _ _ (not_from_false _ (list_any-append (bytes_eq first) roots (root ∷ []) ∙ or_from _ _ none not_root)) (differ-append roots root apart.1 parts.1)

pub with_root_differ : (roots : List (List ℕ)) (root : List ℕ) → none_alike bytes_eq roots ≡ true → none_alike bytes_eq (with_root roots root) ≡ true
with_root_differ roots root differ = elim (cases_Bool (list_any (bytes_eq root) roots)) [
  | inl known ↦ rw known differ
  | inr new ↦ rw new (differ-append roots root new differ)
]

roots_differ : (roots : List (List ℕ)) (fabrics : List Fabric) → none_alike bytes_eq roots ≡ true → none_alike bytes_eq (with_roots_of roots fabrics) ≡ true
roots_differ roots [] differ = differ
roots_differ roots (fabric ∷ fabrics) differ = roots_differ (with_root roots fabric.credentials.root) fabrics (with_root_differ roots fabric.credentials.root differ)

module _ (used : List ℕ → Bool) where
  pub all-append : (roots : List (List ℕ)) (root : List ℕ) → list_all used roots ≡ true → used root ≡ true → list_all used (roots ++ root ∷ []) ≡ true
  all-append [] root all here = and_from _ _ here refl
  all-append (first ∷ roots) root all here =
      let parts = and_parts (used first) (list_all used roots) all in
      and_from _ _ parts.0 (all-append roots root parts.1 here)

  pub with_root_used : (roots : List (List ℕ)) (root : List ℕ) → list_all used roots ≡ true → used root ≡ true → list_all used (with_root roots root) ≡ true
  with_root_used roots root all here = elim (cases_Bool (list_any (bytes_eq root) roots)) [
    | inl known ↦ rw known all
    | inr new ↦ rw new (all-append roots root all here)
  ]

  with_roots_used : (roots : List (List ℕ)) (fabrics : List Fabric) → list_all used roots ≡ true → list_all (λ (fabric : Fabric). used fabric.credentials.root) fabrics ≡ true → list_all used (with_roots_of roots fabrics) ≡ true
  with_roots_used roots [] all own = all
  with_roots_used roots (fabric ∷ fabrics) all own =
      let parts = and_parts (used fabric.credentials.root) (list_all (λ (f : Fabric). used f.credentials.root) fabrics) own in
      with_roots_used (with_root roots fabric.credentials.root) fabrics (with_root_used roots fabric.credentials.root all parts.0) parts.1

-- the root of each fabric of a part of the table is used
own_roots : (all fabrics : List Fabric) → ((root : List ℕ) → list_any (is_root_of root) fabrics ≡ true → list_any (is_root_of root) all ≡ true)
    → list_all (λ (fabric : Fabric). is_used all None fabric.credentials.root) fabrics ≡ true
own_roots all [] within = refl
own_roots all (fabric ∷ fabrics) within =
    and_from _ _
    (or_left _ _ (within fabric.credentials.root (or_left _ _ (same_bytes fabric.credentials.root))))
    (own_roots all fabrics (λ root later. within root (or_right _ _ later)))

roots_used : (fabrics : List Fabric) → list_all (is_used fabrics None) (with_roots_of [] fabrics) ≡ true
roots_used fabrics = with_roots_used (is_used fabrics None) [] fabrics refl (own_roots fabrics fabrics (λ root found. found))

-- Sessions.

module _ (fabrics : List Fabric) (row : SessionRow) where
  abbrev is_its : Fabric → Bool
  is_its fabric = has_identity row.root_key row.fabric_id fabric

  -- what is found is of the list, and has the identity
  found_among : (fs : List Fabric) (fabric : Fabric) → find is_its fs ≡ Some fabric → list_any (λ (f : Fabric). f.index == fabric.index && is_its f) fs ≡ true
  found_among [] fabric found = absurd (cc)
  found_among (f ∷ fs) fabric found = elim (cases_Bool (is_its f)) [
    | inl its ↦
        let this : Some f ≡ Some fabric = rw its at found in
        let index : f.index ≡ fabric.index = cc in
        or_left _ _ (and_from _ _ (eq-eqb _ _ index) its)
    | inr other ↦
        let later : find is_its fs ≡ Some fabric = rw other at found in
        or_right _ _ (found_among fs fabric later)
  ]

  none_found : (fs : List Fabric) → find is_its fs ≡ None → list_any is_its fs ≡ false
  none_found [] found = refl
  none_found (f ∷ fs) found = elim (cases_Bool (is_its f)) [
    | inl its ↦
        let this : Some f ≡ None = rw its at found in
        absurd (cc)
    | inr other ↦
        let later : find is_its fs ≡ None = rw other at found in
        or_from _ _ other (none_found fs later)
  ]

  -- a session of CASE is live where its fabric is found, and waits where it is not
  case_stands : (found : Option Fabric) → find is_its fabrics ≡ found → stands_rightly fabrics (session_of fabrics row) Case (live_or_waits found) ≡ true
  case_stands None none = not_from_false _ (none_found fabrics none)
  case_stands (Some fabric) some = found_among fabrics fabric some

  stands : (auth : Auth) → stands_rightly fabrics (session_of fabrics row) auth (standing_of fabrics row auth) ≡ true
  stands Pase = refl
  stands Case = case_stands (find is_its fabrics) refl
  stands Group = case_stands (find is_its fabrics) refl

sessions_stand : (boot : ℕ) (fabrics : List Fabric) (rows : List SessionRow) → list_all (is_session fabrics) (sessions_of boot fabrics rows) ≡ true
sessions_stand boot fabrics [] = refl
sessions_stand boot fabrics (row ∷ rows) = elim (cases_Bool (row.boot == boot)) [
  | inl first ↦ rw first (and_from _ _ (stands fabrics row row.auth) (sessions_stand boot fabrics rows))
  | inr later ↦ rw later (sessions_stand boot fabrics rows)
]

pase_none : (fabrics : List Fabric) (row : SessionRow) (auth : Auth) → follows None auth (standing_of fabrics row auth) ≡ true
pase_none fabrics row Pase = refl
pase_none fabrics row Case = refl
pase_none fabrics row Group = refl

sessions_follow : (boot : ℕ) (fabrics : List Fabric) (rows : List SessionRow) → list_all (λ (session : NodeSession). follows None session.auth session.standing) (sessions_of boot fabrics rows) ≡ true
sessions_follow boot fabrics [] = refl
sessions_follow boot fabrics (row ∷ rows) = elim (cases_Bool (row.boot == boot)) [
  | inl first ↦ rw first (and_from _ _ (pase_none fabrics row row.auth) (sessions_follow boot fabrics rows))
  | inr later ↦ rw later (sessions_follow boot fabrics rows)
]

-- Change numbers.

changes_counted : (places : List Place) → list_all (is_change_up_to 0) (map (λ (place : Place). change_at place 0) places) ≡ true
changes_counted [] = refl
changes_counted (place ∷ places) = changes_counted places

newest_counts : newest_of unchanged ≡ 0
unfolding endpoints clusters_of attributes_of globals extensions_of
newest_counts = refl

has_each : (place : Place) (places : List Place) → list_any (same_place place) places ≡ true → has_change (map (λ (p : Place). change_at p 0) places) place ≡ true
has_each place [] there = impossible there
has_each place (p ∷ places) there = elim (or_cases (same_place place p) (list_any (same_place place) places) there) [
  | inl here ↦ or_left _ _ (subst (λ (q : Place). same_place p q ≡ true) (sym (place-same place p here)) (place-itself p))
  | inr later ↦ or_right _ _ (has_each place places later)
]

have_each : (all places : List Place) → ((p : Place) → list_any (same_place p) places ≡ true → list_any (same_place p) all ≡ true) → list_all (has_change (map (λ (p : Place). change_at p 0) all)) places ≡ true
have_each all [] within = refl
have_each all (place ∷ places) within =
    and_from _ _ (has_each place all (within place (or_left _ _ (place-itself place)))) (have_each all places (λ p later. within p (or_right _ _ later)))

changes_of_all : list_all (has_change unchanged) all_places ≡ true
changes_of_all = have_each all_places all_places (λ p there. there)

changes_of_attributes : list_all is_of_attribute unchanged ≡ true
unfolding endpoints clusters_of attributes_of globals extensions_of
changes_of_attributes = refl

-- Versions.

versions_stand : (version : ℕ) → map instance_of (versions_at version) ≡ instances
unfolding endpoints clusters_of
versions_stand version = refl

-- The whole.

pub opens_valid : ((fabrics : List Fabric) → are_numbered_from 1 fabrics ≡ true → fabrics_ascend fabrics ≡ true) → IsChanges unchanged
    → (boot : ℕ) (fabrics : List Fabric) (entries : List AclEntry) (sessions : List SessionRow) → nat_le boot (2 ^ 31) ≡ true → are_fabrics fabrics ≡ true → are_entries fabrics entries ≡ true → IsValid (opened_with boot fabrics entries sessions)
unfolding are_fabrics are_entries
opens_valid numbered_ascend none_changed boot fabrics entries sessions boots good_fabrics good_entries =
    let few : nat_le (length fabrics) 16 ≡ true = grind (arith, good_fabrics) in
    let numbered : are_numbered_from 1 fabrics ≡ true = grind (arith, good_fabrics) in
    let rise = numbered_ascend fabrics numbered in
    let forms : list_all is_fabric fabrics ≡ true = grind (arith, good_fabrics) in
    let owned : list_all (is_owned fabrics) entries ≡ true = grind (arith, good_entries) in
    let up : ascend_from 0 entries ≡ true = grind (arith, good_entries) in
    record {
      fabric_count = few;
      fabrics_rise = rise;
      indexes = numbered_up_to 16 1 fabrics numbered (omega (arith, leb-true _ _ few));
      fabric_forms = forms;
      identities_differ = grind (arith, good_fabrics);
      labels_differ = grind (arith, good_fabrics);
      entries_rise = from_one fabrics entries rise owned up;
      entry_forms = grind (arith, good_entries);
      entries_owned = owned;
      entry_counts = grind (arith, good_entries);
      rows_rise = rows_rise;
      row_forms = row_forms fabrics;
      rows_stand = rows_stand;
      row_counts = row_counts;
      roots_differ = roots_differ [] fabrics refl;
      root_forms = with_roots_used is_certificate [] fabrics refl (all-weaker is_fabric (λ (f : Fabric). is_certificate f.credentials.root) root_formed fabrics forms);
      roots_used = roots_used fabrics;
      network_count = refl;
      network_forms = refl;
      network_ids_differ = refl;
      sessions_stand = sessions_stand boot fabrics sessions;
      plain_stands = refl;
      versions_stand = versions_stand (first_version boot);
      count_fits = refl;
      changes_counted = changes_counted all_places;
      newest_counts = newest_counts;
      changes_stand = none_changed;
      changes_of_all = changes_of_all;
      changes_of_attributes = changes_of_attributes;
      failsafe_facts = refl;
      failsafe_names = refl;
      saved_stand = refl;
      given_stand = refl;
      sessions_follow = sessions_follow boot fabrics sessions;
      plain_follow = refl;
      boot_fits = boots;
    }

-- What was kept of a state in which no fail-safe is armed.

follow_unarmed : (armed : Option Armed) (boot : ℕ) (fabrics : List Fabric) (rows : List SessionRow) → armed ≡ None
    → list_all (λ (session : NodeSession). follows armed session.auth session.standing) (sessions_of boot fabrics rows) ≡ true
follow_unarmed armed boot fabrics rows none = rw none (sessions_follow boot fabrics rows)

pub begins_valid : IsChanges unchanged → (boot : ℕ) (sessions : List SessionRow) (kept : NodeState) → nat_le boot (2 ^ 31) ≡ true → IsValid kept → kept.armed ≡ None
    → IsValid (begun_with boot sessions kept)
begins_valid none_changed boot sessions kept boots valid unarmed = record {
  fabric_count = valid.fabric_count;
  fabrics_rise = valid.fabrics_rise;
  indexes = valid.indexes;
  fabric_forms = valid.fabric_forms;
  identities_differ = valid.identities_differ;
  labels_differ = valid.labels_differ;
  entries_rise = valid.entries_rise;
  entry_forms = valid.entry_forms;
  entries_owned = valid.entries_owned;
  entry_counts = valid.entry_counts;
  rows_rise = valid.rows_rise;
  row_forms = valid.row_forms;
  rows_stand = valid.rows_stand;
  row_counts = valid.row_counts;
  roots_differ = valid.roots_differ;
  root_forms = valid.root_forms;
  roots_used = valid.roots_used;
  network_count = valid.network_count;
  network_forms = valid.network_forms;
  network_ids_differ = valid.network_ids_differ;
  sessions_stand = sessions_stand boot kept.fabrics sessions;
  plain_stands = refl;
  versions_stand = versions_stand (first_version boot);
  count_fits = refl;
  changes_counted = changes_counted all_places;
  newest_counts = newest_counts;
  changes_stand = none_changed;
  changes_of_all = changes_of_all;
  changes_of_attributes = changes_of_attributes;
  failsafe_facts = valid.failsafe_facts;
  failsafe_names = valid.failsafe_names;
  saved_stand = valid.saved_stand;
  given_stand = valid.given_stand;
  sessions_follow = follow_unarmed kept.armed boot kept.fabrics sessions unarmed;
  plain_follow = refl;
  boot_fits = boots;
}
