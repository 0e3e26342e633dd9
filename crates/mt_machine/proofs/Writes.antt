-- The steps of a write leave a state valid.
use Rattle.std.proofs.Common.{is_ok, ◌≡◌, ℕ, suc, ◌+◌, ◌-◌, ◌<◌, ◌≤◌, ◌^◌, inl, inr, Bool, true, false, not, ◌&&◌, ◌||◌, ◌==◌, nat_le, nat_lt, List, [], ◌∷◌, ◌++◌, length, Option, Result, Ok, Err, refl, sym, ap, ◌∙◌, subst, filter, map, length-append, if◌then◌else◌, arith}
use Rattle.std.proofs.lemmas.Bool.{and_from, and_parts, and_right, cases_Bool, cases_order, cond_both, eqb-false, eqb-true, eq-eqb, leb-true, le-leb, le-ltb, lt-ltb, ltb-true, ne_eqb, not-true, or_cases, or_left, or_right}
use Rattle.std.proofs.lemmas.Grind.{common_steps}
use Rattle.std.proofs.lemmas.List.Elements.{filter-append}
use Rattle.std.proofs.lemmas.List.Folds.{list_all-append, list_all-map}
use Rattle.std.proofs.lemmas.List.Sums.{length-filter, count_by-le-length}
use Rattle.std.specs.List.{count_by, list_all, list_any}
use Rattle.mt_fabrics.specs.Table.{has_index}
use Rattle.mt_tlv.specs.declared.value.Value.{Value}
use Rattle.mt_meta.specs.Finding.{find_data_of, find_of}
use Rattle.mt_meta.specs.Forms.{has_form}
use Rattle.mt_meta.specs.Places.{all_places}
use Rattle.mt_meta.specs.Stored.{is_stored}
use Rattle.mt_meta.specs.declared.meta.Meta.{Meta}
use Rattle.mt_model.specs.texts.Config.{ascend_from, is_entry, is_of}
use Rattle.mt_model.specs.rows.Order.{are_ascending, fabrics_ascend, rise_above, row_at, stands_before}
use Rattle.mt_model.specs.rows.Setting.{is_above, is_below, is_entry_above, is_entry_below, with_entries, with_rows}
use Rattle.mt_model.specs.rows.Setting as setting
use Rattle.mt_model.specs.rows.Sight.{same_place, stands_at}
use Rattle.mt_model.specs.declared.tables.access.AclEntry.{AclEntry}
use Rattle.mt_model.specs.declared.tables.access.Actor.{Actor}
use Rattle.mt_model.specs.declared.tables.fabric.Fabric.{Fabric}
use Rattle.mt_model.specs.declared.node.action.NodeStep.{NodeStep}
use Rattle.mt_model.specs.declared.node.action.NodeStep.TheVariants.{SetRow, SetEntries, PutNetwork, RemoveNetwork, ConnectNetwork, MoveNetwork, Arm, Renew, Expire, Complete, AddRoot, Csr, AddFabric, UpdateFabric, RemoveFabric, Label, Emit}
use Rattle.mt_model.specs.declared.rows.place.Place.{Place}
use Rattle.mt_model.specs.declared.rows.place.Row.{Row}
use Rattle.mt_model.specs.declared.node.state.ChangeNumber.{ChangeNumber}
use Rattle.mt_model.specs.declared.node.state.NodeState.{NodeState}
use Rattle.mt_model.specs.declared.node.state.Version.{Version}
use Rattle.mt_model.specs.declared.messages.status.Status.{Status}
use Rattle.mt_write.specs.Laws.{are_as_many, are_entries_of, is_entry_of, is_sound_row}
use Rattle.mt_subs.specs.Changes as subs
use Rattle.mt_subs.specs.Changes.{IsChanges, is_other_change, newest_of, noted}
use Rattle.mt_machine.specs.Changes.{changed_at, count_after, is_within, next_change, next_version, noted_all, version_after}
use Rattle.mt_machine.specs.Effects.{after}
use Rattle.mt_machine.specs.Taking.{fits, fits_row}
use Rattle.mt_machine.specs.State.{IsValid, ItemsAreFew, has_change, has_entries_up_to, has_one_row, instance_of, instances, is_among, is_change_up_to, is_of_attribute, is_row, is_row_at, is_row_of, is_unscoped, stands_once}
use Rattle.mt_model.specs.tables.Holding.{is_owned}
use Rattle.mt_machine.proofs.Counting.{all-filter, all-kept, all-three, all-weaker, any-weaker, before-itself, count, count-apart, count-gone, count-map, count-none, count-three, counted, few-set, impossible, one-before, or-apart, place-itself, place-other, place-same}

-- A valid state is valid with other rows, entries, versions, change numbers and another time, where these keep their rules.

record AreRows (s : NodeState) (rows : List Row) : Type 0 where
  rise : are_ascending rows ≡ true
  forms : list_all (is_row s.fabrics) rows ≡ true
  stand : list_all (stands_once rows) (filter has_one_row all_places) ≡ true
  few : ItemsAreFew rows

record AreEntries (s : NodeState) (entries : List AclEntry) : Type 0 where
  rise : ascend_from 1 entries ≡ true
  forms : list_all is_entry entries ≡ true
  owned : list_all (is_owned s.fabrics) entries ≡ true
  few : list_all (has_entries_up_to 4 entries) s.fabrics ≡ true

record AreChanges (changes : List ChangeNumber) (changed : ℕ) : Type 0 where
  counted : list_all (is_change_up_to changed) changes ≡ true
  stand : IsChanges changes
  fits : nat_le changed (2 ^ 64 - 1) ≡ true
  of_all : list_all (has_change changes) all_places ≡ true
  of_attributes : list_all is_of_attribute changes ≡ true

renewed : (s : NodeState) (rows : List Row) (entries : List AclEntry) (versions : List Version) (changes : List ChangeNumber) (changed now : ℕ)
    → IsValid s → AreRows s rows → AreEntries s entries → map instance_of versions ≡ instances → AreChanges changes changed → newest_of changes ≡ changed
    → IsValid (record s { rows = rows; entries = entries; versions = versions; changes = changes; changed = changed; clock = now })
renewed s rows entries versions changes changed now valid are_rows are_entries are_versions are_changes newest = record {
  fabric_count = valid.fabric_count;
  fabrics_rise = valid.fabrics_rise;
  indexes = valid.indexes;
  fabric_forms = valid.fabric_forms;
  identities_differ = valid.identities_differ;
  labels_differ = valid.labels_differ;
  entries_rise = are_entries.rise;
  entry_forms = are_entries.forms;
  entries_owned = are_entries.owned;
  entry_counts = are_entries.few;
  rows_rise = are_rows.rise;
  row_forms = are_rows.forms;
  rows_stand = are_rows.stand;
  row_counts = are_rows.few;
  roots_differ = valid.roots_differ;
  root_forms = valid.root_forms;
  roots_used = valid.roots_used;
  network_count = valid.network_count;
  network_forms = valid.network_forms;
  network_ids_differ = valid.network_ids_differ;
  sessions_stand = valid.sessions_stand;
  plain_stands = valid.plain_stands;
  versions_stand = are_versions;
  changes_counted = are_changes.counted;
  newest_counts = newest;
  changes_stand = are_changes.stand;
  changes_of_all = are_changes.of_all;
  changes_of_attributes = are_changes.of_attributes;
  count_fits = are_changes.fits;
  failsafe_facts = valid.failsafe_facts;
  failsafe_names = valid.failsafe_names;
  saved_stand = valid.saved_stand;
  given_stand = valid.given_stand;
  sessions_follow = valid.sessions_follow;
  plain_follow = valid.plain_follow;
  boot_fits = valid.boot_fits;
}

same_rows : (s : NodeState) → IsValid s → AreRows s s.rows
same_rows s valid = record { rise = valid.rows_rise; forms = valid.row_forms; stand = valid.rows_stand; few = valid.row_counts }

same_entries : (s : NodeState) → IsValid s → AreEntries s s.entries
same_entries s valid = record { rise = valid.entries_rise; forms = valid.entry_forms; owned = valid.entries_owned; few = valid.entry_counts }

same_changes : (s : NodeState) → IsValid s → AreChanges s.changes s.changed
same_changes s valid = record { counted = valid.changes_counted; stand = valid.changes_stand; fits = valid.count_fits; of_all = valid.changes_of_all; of_attributes = valid.changes_of_attributes }

-- Rows that are set.

-- a row at a place that is not scoped is nobody's
pub nobodys : (fabrics : List Fabric) (row : Row) (found : Result Meta Status) → is_row_at fabrics row found ≡ true → is_unscoped found ≡ true → row.fabric ≡ 0
nobodys fabrics row (Err status) is unscoped = impossible is
nobodys fabrics row (Ok meta) is unscoped =
    let both = and_parts (has_form meta row.fabric row.value) (is_row_of fabrics meta.scoped row.fabric) is in
    let nobody : is_row_of fabrics false row.fabric ≡ true = subst (λ b. is_row_of fabrics b row.fabric ≡ true) (not-true meta.scoped unscoped) both.1 in
    eqb-true row.fabric 0 nobody

module _ (s : NodeState) (valid : IsValid s) (place : Place) (fabric : ℕ) (values : List Value) (meta : Meta) (there : find_data_of place ≡ Ok meta)
    (stored : is_stored place ≡ true) (forms : list_all (has_form meta fabric) values ≡ true) (many : are_as_many meta values ≡ true)
    (whose : is_row_of s.fabrics meta.scoped fabric ≡ true)
    (ascending : are_ascending (with_rows place fabric values s.rows) ≡ true)
  where
    new_row : (value : Value) → has_form meta fabric value ≡ true → is_row s.fabrics (row_at place fabric value) ≡ true
    new_row value form = and_from _ _ stored (ap (is_row_at s.fabrics (row_at place fabric value)) there ∙ and_from _ _ form whose)

    set_forms : list_all (is_row s.fabrics) (with_rows place fabric values s.rows) ≡ true
    set_forms =
        all-three (is_row s.fabrics) (filter (is_below place fabric) s.rows) (map (row_at place fabric) values) (filter (is_above place fabric) s.rows)
        (all-filter (is_row s.fabrics) (is_below place fabric) s.rows valid.row_forms)
        (list_all-map (is_row s.fabrics) (row_at place fabric) values ∙ all-weaker (has_form meta fabric) (λ value. is_row s.fabrics (row_at place fabric value)) new_row values forms)
        (all-filter (is_row s.fabrics) (is_above place fabric) s.rows valid.row_forms)

    set_count : (q : Place) → count (stands_at q) (with_rows place fabric values s.rows)
        ≡ count (stands_at q) (filter (is_below place fabric) s.rows) + (count (stands_at q) (map (row_at place fabric) values) + count (stands_at q) (filter (is_above place fabric) s.rows))
    set_count q = count-three (stands_at q) (filter (is_below place fabric) s.rows) (map (row_at place fabric) values) (filter (is_above place fabric) s.rows)

    -- at the place itself the new value alone stands
    none_below : fabric ≡ 0 → (row : Row) → is_row s.fabrics row ≡ true → stands_at place row ≡ true → is_below place fabric row ≡ false
    none_below zero row is at =
        let early : stands_before row.place place ≡ false = subst (λ (p : Place). stands_before p place ≡ false) (sym (place-same row.place place at)) (before-itself place) in
        rw (early, at, zero) (le-ltb row.fabric 0 (omega arith))

    none_above : is_unscoped (find_data_of place) ≡ true → fabric ≡ 0 → (row : Row) → is_row s.fabrics row ≡ true → stands_at place row ≡ true → is_above place fabric row ≡ false
    none_above unscoped zero row is at =
        let same = place-same row.place place at in
        let late : stands_before place row.place ≡ false = subst (λ (p : Place). stands_before place p ≡ false) (sym same) (before-itself place) in
        let here = (and_parts (is_stored row.place) (is_row_at s.fabrics row (find_data_of row.place)) is).1 in
        let nobody : row.fabric ≡ 0 = nobodys s.fabrics row (find_data_of row.place) here (subst (λ (p : Place). is_unscoped (find_data_of p) ≡ true) (sym same) unscoped) in
        rw (late, zero, nobody) (and_right (same_place place row.place) false refl)

    stands_here : has_one_row place ≡ true → count (stands_at place) (with_rows place fabric values s.rows) ≡ 1
    stands_here single =
        let unscoped = (and_parts (is_stored place) (is_unscoped (find_data_of place)) single).1 in
        let bare : meta.scoped ≡ false = not-true meta.scoped (subst (λ r. is_unscoped r ≡ true) there unscoped) in
        let zero : fabric ≡ 0 = eqb-true fabric 0 (subst (λ b. is_row_of s.fabrics b fabric ≡ true) bare whose) in
        let alone : length values ≡ 1 = eqb-true (length values) 1 (subst (λ b. (if b then nat_le (length values) meta.limit else length values == 1) ≡ true) bare many) in
        let below = count-gone (stands_at place) (is_row s.fabrics) (is_below place fabric) (none_below zero) s.rows valid.row_forms in
        let above = count-gone (stands_at place) (is_row s.fabrics) (is_above place fabric) (none_above unscoped zero) s.rows valid.row_forms in
        let new = count-map (stands_at place) (row_at place fabric) true (λ value. place-itself place) values in
        omega (arith, set_count place, below, above, new, alone)

    -- at another place all stand that stood there
    either_side : (q : Place) → same_place place q ≡ false → (row : Row) → stands_at q row ≡ true → is_above place fabric row ≡ not (is_below place fabric row)
    either_side q other row at =
        let same = place-same row.place q at in
        subst (λ (p : Place). (stands_before place p || (same_place place p && nat_lt fabric row.fabric)) ≡ not (stands_before p place || (same_place p place && nat_lt row.fabric fabric))) (sym same)
        (ap (λ b. b || (same_place place q && nat_lt fabric row.fabric)) (one-before place q other)
        ∙ or-apart (stands_before q place) (nat_lt fabric row.fabric) (nat_lt row.fabric fabric) (same_place place q) (same_place q place) other (place-other place q other))

    stands_elsewhere : (q : Place) → same_place place q ≡ false → count (stands_at q) (with_rows place fabric values s.rows) ≡ count (stands_at q) s.rows
    stands_elsewhere q other =
        let parts = count-apart (stands_at q) (is_below place fabric) (is_above place fabric) (either_side q other) s.rows in
        let new = count-map (stands_at q) (row_at place fabric) false (λ value. other) values in
        omega (arith, set_count q, parts, new)

    stands_still : (q : Place) → has_one_row q ≡ true → stands_once s.rows q ≡ true → stands_once (with_rows place fabric values s.rows) q ≡ true
    stands_still q single once = elim (cases_Bool (same_place place q)) [
      | inl here ↦
          let same = place-same place q here in
          let alone : count (stands_at q) (with_rows place fabric values s.rows) ≡ 1 =
          subst (λ (p : Place). count (stands_at p) (with_rows place fabric values s.rows) ≡ 1) same (stands_here (subst (λ (p : Place). has_one_row p ≡ true) (sym same) single)) in
          eq-eqb _ _ (counted (stands_at q) (with_rows place fabric values s.rows) ∙ alone)
      | inr other ↦
          let before : count_by (stands_at q) s.rows ≡ 1 = eqb-true _ _ once in
          eq-eqb _ _ (counted (stands_at q) (with_rows place fabric values s.rows) ∙ stands_elsewhere q other ∙ sym (counted (stands_at q) s.rows) ∙ before)
    ]

    same_meta : (m : Meta) → find_data_of place ≡ Ok m → meta ≡ m
    same_meta m found = let same : Ok meta ≡ Ok m = sym there ∙ found in cc

    room : (m : Meta) → find_data_of place ≡ Ok m → m.scoped ≡ true → nat_le (length values) m.limit ≡ true
    room m found = subst (λ (x : Meta). x.scoped ≡ true → nat_le (length values) x.limit ≡ true) (same_meta m found) (λ scoped.
        subst (λ b. (if b then nat_le (length values) meta.limit else length values == 1) ≡ true) scoped many)

    set_rows : AreRows s (with_rows place fabric values s.rows)
    set_rows = record {
      rise = ascending;
      forms = set_forms;
      stand = all-kept (stands_once s.rows) (stands_once (with_rows place fabric values s.rows)) has_one_row stands_still all_places valid.rows_stand;
      few = few-set place fabric values s.rows valid.row_counts room;
    }

-- Fabrics of the table.

above_least : (least : ℕ) (fabrics : List Fabric) → rise_above least fabrics ≡ true → list_all (λ (f : Fabric). nat_le 1 f.index) fabrics ≡ true
above_least least [] rise = refl
above_least least (f ∷ fabrics) rise =
    let both = and_parts (nat_lt least f.index) (rise_above f.index fabrics) rise in
    let higher : least < f.index = ltb-true least f.index both.0 in
    and_from _ _ (le-leb 1 f.index (omega arith)) (above_least f.index fabrics both.1)

pub passes_among : (p : ℕ → Bool) (index : ℕ) (fabrics : List Fabric) → list_all (λ (f : Fabric). p f.index) fabrics ≡ true → is_among fabrics index ≡ true → p index ≡ true
passes_among p index [] all among = impossible among
passes_among p index (f ∷ fabrics) all among =
    let both = and_parts (p f.index) (list_all (λ (g : Fabric). p g.index) fabrics) all in
    elim (or_cases (f.index == index) (is_among fabrics index) among) [
      | inl this ↦ subst (λ n. p n ≡ true) (eqb-true f.index index this) both.0
      | inr later ↦ passes_among p index fabrics both.1 later
    ]

pub members_are_positive : (fabrics : List Fabric) (index : ℕ) → fabrics_ascend fabrics ≡ true → is_among fabrics index ≡ true → 1 ≤ index
members_are_positive fabrics index rise among = leb-true 1 index (passes_among (nat_le 1) index fabrics (above_least 0 fabrics rise) among)

-- Entries that are set.

one-lower : (a b : ℕ) → (a == b) ≡ false → nat_lt b a ≡ not (nat_lt a b)
one-lower a b other = elim (cases_order a b) [
  | inl same ↦ absurd (eqb-false a b other same)
  | inr apart ↦ elim apart [
    | inl lower ↦ le-ltb b a (omega arith) ∙ sym (ap not (lt-ltb a b lower))
    | inr higher ↦ lt-ltb b a higher ∙ sym (ap not (le-ltb a b (omega arith)))
  ]
]

module _ (s : NodeState) (valid : IsValid s) (fabric : ℕ) (new : List AclEntry) (are : are_entries_of fabric new ≡ true) (among : is_among s.fabrics fabric ≡ true)
    (ascending : ascend_from 1 (with_entries fabric new s.entries) ≡ true)
  where
    new_forms : list_all (is_entry_of fabric) new ≡ true
    new_forms = (and_parts _ _ are).0

    of_all : (p : AclEntry → Bool) → list_all p s.entries ≡ true → ((entry : AclEntry) → is_entry_of fabric entry ≡ true → p entry ≡ true) → list_all p (with_entries fabric new s.entries) ≡ true
    of_all p all each =
        all-three p (filter (is_entry_below fabric) s.entries) new (filter (is_entry_above fabric) s.entries)
        (all-filter p (is_entry_below fabric) s.entries all) (all-weaker (is_entry_of fabric) p each new new_forms) (all-filter p (is_entry_above fabric) s.entries all)

    has_owner : (entry : AclEntry) → is_entry_of fabric entry ≡ true → is_owned s.fabrics entry ≡ true
    has_owner entry is =
        let its : entry.fabric ≡ fabric = eqb-true entry.fabric fabric (and_parts _ _ is).1 in
        any-weaker (has_index fabric) (λ (f : Fabric). is_of f entry) (λ f at. eq-eqb entry.fabric f.index (its ∙ sym (eqb-true f.index fabric at))) s.fabrics among

    entries_count : (f : Fabric) → count (is_of f) (with_entries fabric new s.entries)
        ≡ count (is_of f) (filter (is_entry_below fabric) s.entries) + (count (is_of f) new + count (is_of f) (filter (is_entry_above fabric) s.entries))
    entries_count f = count-three (is_of f) (filter (is_entry_below fabric) s.entries) new (filter (is_entry_above fabric) s.entries)

    few_own : (f : Fabric) → f.index ≡ fabric → count (is_of f) (with_entries fabric new s.entries) ≤ 4
    few_own f own =
        let below = count-gone (is_of f) is_entry (is_entry_below fabric) (λ entry is its. le-ltb entry.fabric fabric (omega (arith, eqb-true entry.fabric f.index its))) s.entries valid.entry_forms in
        let above = count-gone (is_of f) is_entry (is_entry_above fabric) (λ entry is its. le-ltb fabric entry.fabric (omega (arith, eqb-true entry.fabric f.index its))) s.entries valid.entry_forms in
        let most = leb-true (length new) 4 (and_parts (list_all (is_entry_of fabric) new) (nat_le (length new) 4) are).1 in
        omega (arith, entries_count f, below, above, most, counted (is_of f) new, count_by-le-length (is_of f) new)

    few_of_other : (f : Fabric) → (f.index == fabric) ≡ false → count (is_of f) (with_entries fabric new s.entries) ≡ count (is_of f) s.entries
    few_of_other f other =
        let parts = count-apart (is_of f) (is_entry_below fabric) (is_entry_above fabric) (λ entry its. one-lower entry.fabric fabric (subst (λ n. (n == fabric) ≡ false) (sym (eqb-true entry.fabric f.index its)) other)) s.entries in
        let none = count-none (is_of f) (is_entry_of fabric) (λ entry is. ne_eqb entry.fabric f.index (λ its. eqb-false f.index fabric other (sym its ∙ eqb-true entry.fabric fabric (and_parts (is_entry entry) (entry.fabric == fabric) is).1))) new new_forms in
        omega (arith, entries_count f, parts, none)

    few_each : (f : Fabric) → has_entries_up_to 4 s.entries f ≡ true → has_entries_up_to 4 (with_entries fabric new s.entries) f ≡ true
    few_each f before = elim (cases_Bool (f.index == fabric)) [
      | inl own ↦ le-leb _ _ (omega (arith, counted (is_of f) (with_entries fabric new s.entries), few_own f (eqb-true f.index fabric own)))
      | inr other ↦
          let few : count_by (is_of f) s.entries ≤ 4 = leb-true _ _ before in
          le-leb _ _ (omega (arith, few, counted (is_of f) s.entries, counted (is_of f) (with_entries fabric new s.entries), few_of_other f other))
    ]

    set_entries : AreEntries s (with_entries fabric new s.entries)
    set_entries = record {
      rise = ascending;
      forms = of_all is_entry valid.entry_forms (λ entry is. (and_parts (is_entry entry) (entry.fabric == fabric) is).0);
      owned = of_all (is_owned s.fabrics) valid.entries_owned has_owner;
      few = all-weaker (has_entries_up_to 4 s.entries) (has_entries_up_to 4 (with_entries fabric new s.entries)) few_each s.fabrics valid.entry_counts;
    }

-- Steps that a state with these fabrics can take.

-- they leave the fabrics as they are
pub keeps_fabrics : (asker : Option Actor) (step : NodeStep) (s : NodeState) (fabrics : List Fabric) → fits fabrics step ≡ true → (after asker step s).fabrics ≡ s.fabrics
keeps_fabrics asker (SetRow place fabric values) s fabrics fit = refl
keeps_fabrics asker (SetEntries fabric new) s fabrics fit = refl
keeps_fabrics asker (PutNetwork id secret) s fabrics fit = impossible fit
keeps_fabrics asker (RemoveNetwork id) s fabrics fit = impossible fit
keeps_fabrics asker (ConnectNetwork id) s fabrics fit = impossible fit
keeps_fabrics asker (MoveNetwork id index) s fabrics fit = impossible fit
keeps_fabrics asker (Arm owner seconds) s fabrics fit = impossible fit
keeps_fabrics asker (Renew seconds) s fabrics fit = impossible fit
keeps_fabrics asker Expire s fabrics fit = impossible fit
keeps_fabrics asker Complete s fabrics fit = impossible fit
keeps_fabrics asker (AddRoot cert) s fabrics fit = impossible fit
keeps_fabrics asker (Csr nonce update) s fabrics fit = impossible fit
keeps_fabrics asker (AddFabric joins) s fabrics fit = impossible fit
keeps_fabrics asker (UpdateFabric index given) s fabrics fit = impossible fit
keeps_fabrics asker (RemoveFabric index) s fabrics fit = impossible fit
keeps_fabrics asker (Label index label) s fabrics fit = impossible fit
keeps_fabrics asker (Emit place priority fabric value) s fabrics fit = refl

module _
    (rows_rise : (rows : List Row) (place : Place) (fabric : ℕ) (values : List Value) → are_ascending rows ≡ true → are_ascending (with_rows place fabric values rows) ≡ true)
    (entries_rise : (entries new : List AclEntry) (least fabric : ℕ) → least ≤ fabric → ascend_from least entries ≡ true → list_all (setting.is_entry_of fabric) new ≡ true → ascend_from least (with_entries fabric new entries) ≡ true)
  where
    row_set : (s : NodeState) → IsValid s → (place : Place) (fabric : ℕ) (values : List Value) (found : Result Meta Status) → find_data_of place ≡ found → fits_row s.fabrics fabric (is_stored place) values found ≡ true
        → AreRows s (with_rows place fabric values s.rows)
    row_set s valid place fabric values (Err status) there fit = impossible fit
    row_set s valid place fabric values (Ok meta) there fit =
        let both = and_parts (is_sound_row (is_stored place) fabric values (Ok meta)) (is_row_of s.fabrics meta.scoped fabric) fit in
        let sound = and_parts (is_stored place) (list_all (has_form meta fabric) values && are_as_many meta values) both.0 in
        let of_form = and_parts (list_all (has_form meta fabric) values) (are_as_many meta values) sound.1 in
        set_rows s valid place fabric values meta there sound.0 of_form.0 of_form.1 both.1 (rows_rise s.rows place fabric values valid.rows_rise)

    entries_set : (s : NodeState) → IsValid s → (fabric : ℕ) (new : List AclEntry) → (are_entries_of fabric new && is_among s.fabrics fabric) ≡ true → AreEntries s (with_entries fabric new s.entries)
    entries_set s valid fabric new fit =
        let both = and_parts (are_entries_of fabric new) (is_among s.fabrics fabric) fit in
        let own = all-weaker (is_entry_of fabric) (setting.is_entry_of fabric) (λ entry is. (and_parts (is_entry entry) (entry.fabric == fabric) is).1) new (and_parts _ _ both.0).0 in
        set_entries s valid fabric new both.0 both.1
        (entries_rise s.entries new 1 fabric (members_are_positive s.fabrics fabric valid.fabrics_rise both.1) valid.entries_rise own)

    pub after_step : (asker : Option Actor) (step : NodeStep) (s : NodeState) → IsValid s → fits s.fabrics step ≡ true → IsValid (after asker step s)
    after_step asker (SetRow place fabric values) s valid fit =
        renewed s (with_rows place fabric values s.rows) s.entries s.versions s.changes s.changed s.clock valid (row_set s valid place fabric values (find_data_of place) refl fit) (same_entries s valid) valid.versions_stand (same_changes s valid) valid.newest_counts
    after_step asker (SetEntries fabric new) s valid fit =
        renewed s s.rows (with_entries fabric new s.entries) s.versions s.changes s.changed s.clock valid (same_rows s valid) (entries_set s valid fabric new fit) valid.versions_stand (same_changes s valid) valid.newest_counts
    after_step asker (PutNetwork id secret) s valid fit = impossible fit
    after_step asker (RemoveNetwork id) s valid fit = impossible fit
    after_step asker (ConnectNetwork id) s valid fit = impossible fit
    after_step asker (MoveNetwork id index) s valid fit = impossible fit
    after_step asker (Arm owner seconds) s valid fit = impossible fit
    after_step asker (Renew seconds) s valid fit = impossible fit
    after_step asker Expire s valid fit = impossible fit
    after_step asker Complete s valid fit = impossible fit
    after_step asker (AddRoot cert) s valid fit = impossible fit
    after_step asker (Csr nonce update) s valid fit = impossible fit
    after_step asker (AddFabric joins) s valid fit = impossible fit
    after_step asker (UpdateFabric index given) s valid fit = impossible fit
    after_step asker (RemoveFabric index) s valid fit = impossible fit
    after_step asker (Label index label) s valid fit = impossible fit
    after_step asker (Emit place priority fabric value) s valid fit = valid

-- Versions, change numbers and the time that follow.

next_fits : (changed : ℕ) → nat_le (next_change changed) (2 ^ 64 - 1) ≡ true
next_fits changed = le-leb _ _ (omega arith)

next_above : (changed number : ℕ) → nat_le changed (2 ^ 64 - 1) ≡ true → nat_le number changed ≡ true → nat_le number (next_change changed) ≡ true
next_above changed number fit up = le-leb _ _ (omega (arith, leb-true _ _ fit, leb-true _ _ up))

newest_up_to : (number : ℕ) (changes : List ChangeNumber) → list_all (is_change_up_to number) changes ≡ true → newest_of changes ≤ number
newest_up_to number [] all = omega arith
newest_up_to number (change ∷ changes) all = leb-true change.number number (and_parts _ _ all).0

noted_counted : (place : Place) (number : ℕ) (changes : List ChangeNumber) → list_all (is_change_up_to number) changes ≡ true → list_all (is_change_up_to number) (noted place number changes) ≡ true
noted_counted place number changes all = elim (cases_Bool (subs.is_among place changes)) [
  | inl there ↦ rw there (and_from _ _ (le-leb number number (omega arith)) (all-filter (is_change_up_to number) (is_other_change place) changes all))
  | inr nowhere ↦ rw nowhere all
]

-- each place that has a change number has one behind a change

is_other_of : (place q : Place) (change : ChangeNumber) → same_place place q ≡ false → same_place change.place q ≡ true → is_other_change place change ≡ true
is_other_of place q change other at =
    let same = place-same change.place q at in
    ap not (subst (λ (p : Place). same_place p place ≡ false) (sym same) (place-other place q other))

among_others : (place q : Place) → same_place place q ≡ false → (changes : List ChangeNumber) → has_change changes q ≡ true → has_change (filter (is_other_change place) changes) q ≡ true
among_others place q other [] there = impossible there
among_others place q other (change ∷ changes) there = elim (or_cases (same_place change.place q) (has_change changes q) there) [
  | inl here ↦ rw (is_other_of place q change other here) (or_left _ _ here)
  | inr later ↦
      let rest = among_others place q other changes later in
      elim (cases_Bool (is_other_change place change)) [ inl stays ↦ rw stays (or_right _ _ rest) | inr goes ↦ rw goes rest ]
]

noted_has : (place q : Place) (number : ℕ) (changes : List ChangeNumber) → has_change changes q ≡ true → has_change (noted place number changes) q ≡ true
noted_has place q number changes there = elim (cases_Bool (has_change changes place)) [
  | inl known ↦ rw known (elim (cases_Bool (same_place place q)) [ inl same ↦ or_left _ _ same | inr other ↦ or_right _ _ (among_others place q other changes there) ])
  | inr nowhere ↦ rw nowhere there
]

found_place : (place : Place) (changes : List ChangeNumber) → list_all is_of_attribute changes ≡ true → has_change changes place ≡ true → is_ok (find_of place) ≡ true
found_place place [] all there = impossible there
found_place place (change ∷ changes) all there =
    let both = and_parts (is_of_attribute change) (list_all is_of_attribute changes) all in
    elim (or_cases (same_place change.place place) (has_change changes place) there) [
      | inl here ↦ subst (λ (p : Place). is_ok (find_of p) ≡ true) (place-same change.place place here) both.0
      | inr later ↦ found_place place changes both.1 later
    ]

noted_of : (place : Place) (number : ℕ) (changes : List ChangeNumber) → list_all is_of_attribute changes ≡ true → list_all is_of_attribute (noted place number changes) ≡ true
noted_of place number changes all = elim (cases_Bool (has_change changes place)) [
  | inl known ↦ rw known (and_from _ _ (found_place place changes all known) (all-filter is_of_attribute (is_other_change place) changes all))
  | inr nowhere ↦ rw nowhere all
]

-- the newest change has the number of the latest

newest_stays : (place : Place) (number : ℕ) (changes : List ChangeNumber) → newest_of changes ≡ number → newest_of (noted place number changes) ≡ number
newest_stays place number changes is = elim (cases_Bool (has_change changes place)) [ inl known ↦ rw known refl | inr nowhere ↦ rw nowhere is ]

newest_of_all : (places : List Place) (number : ℕ) (changes : List ChangeNumber) → newest_of changes ≡ number → newest_of (noted_all places number changes) ≡ number
newest_of_all [] number changes is = is
newest_of_all (place ∷ places) number changes is = newest_of_all places number (noted place number changes) (newest_stays place number changes is)

newest_first : (place : Place) (number : ℕ) (changes : List ChangeNumber) → has_change changes place ≡ true → newest_of (noted place number changes) ≡ number
newest_first place number changes known = rw known refl

newest_follows : (places : List Place) (changes : List ChangeNumber) (changed : ℕ) → newest_of changes ≡ changed → list_all (has_change changes) places ≡ true
    → newest_of (noted_all places (next_change changed) changes) ≡ count_after places changed
newest_follows [] changes changed is all = is
newest_follows (place ∷ places) changes changed is all =
    newest_of_all places (next_change changed) (noted place (next_change changed) changes)
    (newest_first place (next_change changed) changes (and_parts (has_change changes place) (list_all (has_change changes) places) all).0)

-- versions are of what they were
instances_stay : (places : List Place) (versions : List Version) → map instance_of (map (version_after places) versions) ≡ map instance_of versions
instances_stay places [] = refl
instances_stay places (version ∷ versions) =
    let first : instance_of (version_after places version) ≡ instance_of version =
    cond_both (list_any (is_within version) places) (next_version version) version (λ (v : Version). instance_of v ≡ instance_of version) (λ moved. refl) (λ still. refl) in
    λ i. first i ∷ instances_stay places versions i

-- By the law that changes stay in their order.
module _ (noted_stands : (place : Place) (number : ℕ) (changes : List ChangeNumber) → IsChanges changes → newest_of changes ≤ number → IsChanges (noted place number changes)) where
  all_noted : (places : List Place) (changes : List ChangeNumber) (number : ℕ) → AreChanges changes number → AreChanges (noted_all places number changes) number
  all_noted [] changes number are = are
  all_noted (place ∷ places) changes number are =
      let follow : AreChanges (noted place number changes) number = record {
        counted = noted_counted place number changes are.counted;
        stand = noted_stands place number changes are.stand (newest_up_to number changes are.counted);
        fits = are.fits;
        of_all = all-weaker (has_change changes) (has_change (noted place number changes)) (λ q there. noted_has place q number changes there) all_places are.of_all;
        of_attributes = noted_of place number changes are.of_attributes;
      } in
      all_noted places (noted place number changes) number follow

  changes_follow : (places : List Place) (changes : List ChangeNumber) (changed : ℕ) → AreChanges changes changed → AreChanges (noted_all places (next_change changed) changes) (count_after places changed)
  changes_follow [] changes changed are = are
  changes_follow (place ∷ places) changes changed are =
      let later : AreChanges changes (next_change changed) = record {
        counted = all-weaker (is_change_up_to changed) (is_change_up_to (next_change changed)) (λ change up. next_above changed change.number are.fits up) changes are.counted;
        stand = are.stand;
        fits = next_fits changed;
        of_all = are.of_all;
        of_attributes = are.of_attributes;
      } in
      all_noted (place ∷ places) changes (next_change changed) later

  pub settled_valid : (places : List Place) (s t : NodeState) → IsValid s → IsValid t → list_all (has_change s.changes) places ≡ true → IsValid (changed_at places s t)
  settled_valid places s t before behind known =
      let follow = changes_follow places s.changes s.changed (same_changes s before) in
      renewed t t.rows t.entries (map (version_after places) s.versions) (noted_all places (next_change s.changed) s.changes) (count_after places s.changed) t.clock
      behind (same_rows t behind) (same_entries t behind) (instances_stay places s.versions ∙ before.versions_stand) follow (newest_follows places s.changes s.changed before.newest_counts known)

pub timed_valid : (s : NodeState) (now : ℕ) → IsValid s → IsValid (record s { clock = now })
timed_valid s now valid = renewed s s.rows s.entries s.versions s.changes s.changed now valid (same_rows s valid) (same_entries s valid) valid.versions_stand (same_changes s valid) valid.newest_counts
