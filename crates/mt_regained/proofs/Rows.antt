-- The rows of a state that is regained are those of a valid state.
use Rattle.std.proofs.Common.{◌≡◌, ◌∙◌, refl, sym, ap, subst, ℕ, ◌≤◌, inl, inr, ◌&&◌, ◌||◌, ◌==◌, not, nat_le, Bool, true, false, List, [], ◌∷◌, Result, Ok, Err, count_by, filter, length, arith, if◌then◌else◌}
use Rattle.std.proofs.lemmas.Bool.{and_from, and_parts, both_ways, cases_Bool, eq-eqb, eqb-true, false_from_ne_true, le-leb, leb-true, not-true, or_cases}
use Rattle.std.proofs.lemmas.List.Sums.{length-filter}
use Rattle.std.specs.List.{flat_map, list_all, list_any}
use Rattle.std.specs.Str.{chars, is_utf8}
use lib.Utf8.{encode}
use Rattle.mt_durable.specs.declared.durable.Entry.{Entry}
use Rattle.mt_fabrics.specs.Table as table
use Rattle.mt_model.specs.rows.Order.{are_ascending}
use Rattle.mt_model.specs.rows.Setting.{is_at}
use Rattle.mt_model.specs.rows.Sight.{same_place, stands_at}
use Rattle.mt_model.specs.rows.Stored.{stored_places}
use Rattle.mt_model.specs.declared.limits.TheConstants.{FABRICS}
use Rattle.mt_model.specs.declared.messages.status.Status.{Status}
use Rattle.mt_model.specs.declared.rows.place.Place.{Place}
use Rattle.mt_model.specs.declared.rows.place.Row.{Row}
use Rattle.mt_model.specs.declared.tables.fabric.Fabric.{Fabric}
use Rattle.mt_meta.specs.Finding.{find_data_of}
use Rattle.mt_meta.specs.Forms.{has_form}
use Rattle.mt_meta.specs.Places.{all_places}
use Rattle.mt_meta.specs.Stored.{first_rows, is_stored}
use Rattle.mt_meta.specs.Table.{attributes_of, clusters_of, endpoints, extensions_of, globals}
use Rattle.mt_meta.specs.declared.meta.Meta.{Meta}
use Rattle.mt_grammar.specs.Facts as facts
use Rattle.mt_grammar.specs.Values.{is_acl, is_first_at}
use Rattle.mt_grammar.specs.declared.kept.MapContents.{MapContents}
use Rattle.mt_grammar.specs.declared.keys.Key.{Key}
use Rattle.mt_grammar.specs.declared.keys.Key.TheVariants as keys
use Rattle.mt_machine.specs.State.{ItemsAreFew, has_one_row, is_row, is_row_at, is_unscoped, stands_once}
use Rattle.mt_machine.specs.State as state
use Rattle.mt_lasting.specs.Keys.{all_keys}
use Rattle.mt_regained.specs.Laws.{IsKeptIn}
use Rattle.mt_regained.specs.Regained.{or_first, rows_with}
use Rattle.mt_regained.proofs.Fold.{lists, under_in}
use Rattle.mt_regained.proofs.KeyFacts.{KeyFacts, key_facts}
use Rattle.mt_regained.proofs.Lists.{Each, all-both, all-flat, all-kept, all-weaker, each-of, each-same, filter-all, filter-none, filter-same, filter-stronger, in-any}
use Rattle.mt_regained.proofs.Places.{place-same}
use Rattle.mt_regained.proofs.Rises.{rise, rise_from_none, rises, weight}
use Rattle.mt_regained.proofs.RowsWith.{absent, all_rows, its_fabric, kept_there, places_differ, present, rows_ascend}
use Rattle.mt_regained.proofs.Standing.{all_differ, few_at, key_at, sound_of}
use Rattle.mt_regained.proofs.Steps.{Stand, is_sound, is_sound_at, limit_at, most_rows, row_stands, rows_of}

-- The first rows.

first_forms : (fabrics : List Fabric) → list_all (is_row fabrics) first_rows ≡ true
unfolding endpoints clusters_of attributes_of globals extensions_of is_stored is_utf8 chars encode
first_forms fabrics = refl

is_plain_row : Row → Bool
is_plain_row row = is_unscoped (find_data_of row.place)

first_unscoped : list_all is_plain_row first_rows ≡ true
unfolding is_plain_row endpoints clusters_of attributes_of globals extensions_of
first_unscoped = refl

-- what the places with one row are: stored, with one first row, and of no fabric
once_known : Place → Bool
once_known place = list_any (same_place place) stored_places && (count_by (stands_at place) first_rows == 1 && is_unscoped (find_data_of place))

all_once : list_all once_known (filter has_one_row all_places) ≡ true
unfolding once_known endpoints clusters_of attributes_of globals extensions_of is_stored
all_once = refl

-- A sound row.

owner_fits : (fabrics : List Fabric) (scoped : Bool) (fabric : ℕ) → (if scoped then not (fabric == 0) else fabric == 0) ≡ true → (fabric == 0 || table.is_used fabric fabrics) ≡ true → state.is_row_of fabrics scoped fabric ≡ true
owner_fits fabrics false fabric its known = its
owner_fits fabrics true fabric its known = elim (or_cases (fabric == 0) (table.is_used fabric fabrics) known) [
  | inl none ↦ absurd (both_ways (fabric == 0) (not-true (fabric == 0) its) none)
  | inr used ↦ used
]

row_at_found : (fabrics : List Fabric) (row : Row) (found : Result Meta Status) → is_sound_at row found ≡ true → facts.is_row_of fabrics row ≡ true → is_row_at fabrics row found ≡ true
row_at_found fabrics row (Err status) sound known = absurd cc
row_at_found fabrics row (Ok meta) sound known =
    let parts = and_parts (has_form meta row.fabric row.value) (if meta.scoped then not (row.fabric == 0) else row.fabric == 0) sound in
    and_from _ _ parts.0 (owner_fits fabrics meta.scoped row.fabric parts.1 known)

row_fits : (fabrics : List Fabric) (row : Row) → is_sound row ≡ true → facts.is_row_of fabrics row ≡ true → is_row fabrics row ≡ true
row_fits fabrics row sound known =
    let parts = and_parts (is_stored row.place) (is_sound_at row (find_data_of row.place)) sound in
    and_from _ _ parts.0 (row_at_found fabrics row (find_data_of row.place) parts.1 known)

nobodys_at : (row : Row) (found : Result Meta Status) → is_unscoped found ≡ true → is_sound_at row found ≡ true → (row.fabric == 0) ≡ true
nobodys_at row (Err status) unscoped sound = absurd cc
nobodys_at row (Ok meta) unscoped sound =
    let its : (if meta.scoped then not (row.fabric == 0) else row.fabric == 0) ≡ true = (and_parts (has_form meta row.fabric row.value) (if meta.scoped then not (row.fabric == 0) else row.fabric == 0) sound).1 in
    rw (not-true meta.scoped unscoped) at its

-- at a place that is not scoped a sound row is nobody's
pub unscoped_at : (place : Place) → is_unscoped (find_data_of place) ≡ true → (row : Row) → is_sound row ≡ true → stands_at place row ≡ is_at place 0 row
unscoped_at place unscoped row sound = elim (cases_Bool (same_place row.place place)) [
  | inr other ↦ rw other refl
  | inl here ↦
      let is : row.place ≡ place = place-same row.place place here in
      let there : is_sound_at row (find_data_of row.place) ≡ true = (and_parts (is_stored row.place) (is_sound_at row (find_data_of row.place)) sound).1 in
      let its = nobodys_at row (find_data_of row.place) (ap (λ (p : Place). is_unscoped (find_data_of p)) is ∙ unscoped) there in
      rw (here, its) refl
]

module _ (map : List Entry) (kept : MapContents) (is : IsKeptIn map kept) where
  abbrev pub of : Key → List Row
  of key = rows_of (under_in map key) key

  pub rows_are : kept.rows ≡ flat_map of all_keys
  rows_are = (lists map kept is).rows

  abbrev Stands : Key → Type 0
  Stands key = Stand (under_in map key) key

  pub rows_stand_there : Each (λ key. list_all (row_stands key) (of key) ≡ true) all_keys
  rows_stand_there = each-same Stands (λ key. list_all (row_stands key) (of key) ≡ true) (λ key stand. stand.rows) all_keys (lists map kept is).stand

  pub kept_sound : list_all is_sound kept.rows ≡ true
  kept_sound =
      ap (list_all is_sound) rows_are
      ∙ all-flat is_sound of all_keys (each-same (λ key. list_all (row_stands key) (of key) ≡ true) (λ key. list_all is_sound (of key) ≡ true) (λ key stand. all-weaker (row_stands key) is_sound (sound_of key) (of key) stand) all_keys rows_stand_there)

  pub forms : list_all (facts.is_row_of kept.fabrics) kept.rows ≡ true → list_all (is_row kept.fabrics) (rows_with kept.rows) ≡ true
  forms known = all_rows (is_row kept.fabrics) kept.rows (first_forms kept.fabrics) (all-both is_sound (facts.is_row_of kept.fabrics) (is_row kept.fabrics) (row_fits kept.fabrics) kept.rows kept_sound known)

  -- Order.

  weighed : (key : Key) (row : Row) → row_stands key row ≡ true → (row.fabric == weight 0 key) ≡ true
  weighed (keys.Single place) row stands = (and_parts (same_place row.place place) (row.fabric == 0) (and_parts (is_at place 0 row) (is_sound row && not (is_first_at place row.value)) stands).0).1
  weighed (keys.Items fabric place) row stands = (and_parts (same_place row.place place) (row.fabric == fabric) (and_parts (is_at place fabric row) (is_sound row) stands).0).1
  weighed keys.Boot row stands = absurd cc
  weighed keys.Ceiling row stands = absurd cc
  weighed (keys.Fabric index) row stands = absurd cc
  weighed keys.Roots row stands = absurd cc
  weighed keys.Networks row stands = absurd cc
  weighed keys.Failsafe row stands = absurd cc

  kept_rise : rise Row its_fabric 0 kept.rows ≡ true
  kept_rise =
      ap (rise Row its_fabric 0) rows_are
      ∙ rises Row its_fabric of 0 0 all_keys (each-same (λ key. list_all (row_stands key) (of key) ≡ true) (λ key. list_all (λ (row : Row). row.fabric == weight 0 key) (of key) ≡ true)
      (λ key stand. all-weaker (row_stands key) (λ (row : Row). row.fabric == weight 0 key) (weighed key) (of key) stand) all_keys rows_stand_there) rise_from_none

  pub ascend : are_ascending (rows_with kept.rows) ≡ true
  ascend = rows_ascend kept.rows kept_rise

  -- Places with one row.

  few_of : (most : ℕ) (place : Place) (fabric : ℕ) → ((key : Key) → KeyFacts key → key_at place fabric key ≡ true → most_rows key ≤ most) → length (filter (is_at place fabric) kept.rows) ≤ most
  few_of most place fabric within = subst (λ (rows : List Row). length (filter (is_at place fabric) rows) ≤ most) (sym rows_are) (few_at of place fabric all_keys rows_stand_there all_differ most
      (λ key there at.
      let stand : Stand (under_in map key) key = each-of Stands all_keys (lists map kept is).stand key there in
      let few = leb-true (length (of key)) (most_rows key) stand.few in
      let most_here = within key (each-of KeyFacts all_keys key_facts key there) at in
      omega (arith, few, most_here)))

  one_row : (place : Place) (key : Key) → KeyFacts key → key_at place 0 key ≡ true → most_rows key ≤ 1
  one_row place (keys.Single one) known at = omega arith
  one_row place (keys.Items fabric one) known at =
      let none : fabric ≡ 0 = eqb-true fabric 0 (and_parts (same_place one place) (fabric == 0) at).1 in
      let least : 1 ≤ fabric = leb-true 1 fabric (and_parts (nat_le 1 fabric) (nat_le fabric FABRICS) known.0).0 in
      absurd (omega (arith, none, least))
  one_row place keys.Boot known at = omega arith
  one_row place keys.Ceiling known at = omega arith
  one_row place (keys.Fabric index) known at = omega arith
  one_row place keys.Roots known at = omega arith
  one_row place keys.Networks known at = omega arith
  one_row place keys.Failsafe known at = omega arith

  alone : (place : Place) → is_unscoped (find_data_of place) ≡ true → length (filter (stands_at place) kept.rows) ≤ 1
  alone place unscoped = subst (λ (rows : List Row). length rows ≤ 1) (sym (filter-same is_sound (stands_at place) (is_at place 0) (unscoped_at place unscoped) kept.rows kept_sound)) (few_of 1 place 0 (one_row place))

  of_place : (place : Place) (rows : List Row) → length rows ≤ 1 → list_all (stands_at place) rows ≡ true → count_by (stands_at place) first_rows ≡ 1 → length (filter (stands_at place) (or_first place rows)) ≡ 1
  of_place place [] few all first = ap length (filter-stronger (stands_at place) (stands_at place) (λ row there. there) first_rows) ∙ length-filter (stands_at place) first_rows ∙ first
  of_place place (row ∷ []) few all first = ap length (filter-all (stands_at place) (row ∷ []) all)
  of_place place (row ∷ next ∷ rows) few all first = absurd (omega (arith, few))

  once : (place : Place) → once_known place ≡ true → stands_once (rows_with kept.rows) place ≡ true
  unfolding once_known
  once place known =
      let outer = and_parts (list_any (same_place place) stored_places) (count_by (stands_at place) first_rows == 1 && is_unscoped (find_data_of place)) known in
      let inner = and_parts (count_by (stands_at place) first_rows == 1) (is_unscoped (find_data_of place)) outer.1 in
      let there = in-any (same_place place) place (place-same place) stored_places outer.0 in
      let same = present kept.rows place (stands_at place) (λ row here. here) stored_places places_differ there in
      let count = of_place place (filter (stands_at place) kept.rows) (alone place inner.1) (all-kept (stands_at place) kept.rows) (eqb-true (count_by (stands_at place) first_rows) 1 inner.0) in
      eq-eqb (count_by (stands_at place) (rows_with kept.rows)) 1 (sym (length-filter (stands_at place) (rows_with kept.rows)) ∙ ap length same ∙ count)

  pub stand_once : list_all (stands_once (rows_with kept.rows)) (filter has_one_row all_places) ≡ true
  stand_once = all-weaker once_known (stands_once (rows_with kept.rows)) once (filter has_one_row all_places) all_once

  -- Items.

  of_scoped : (place : Place) (meta : Meta) (fabric : ℕ) → find_data_of place ≡ Ok meta → meta.scoped ≡ true → (key : Key) → KeyFacts key → key_at place fabric key ≡ true → most_rows key ≤ meta.limit
  of_scoped place meta fabric found scoped (keys.Single one) known at =
      let here : one ≡ place = place-same one place (and_parts (same_place one place) (0 == fabric) at).0 in
      let two : Ok known.row.meta ≡ Ok meta = sym known.is_data ∙ ap find_data_of here ∙ found in
      let same : known.row.meta ≡ meta = cc in
      let its : known.row.meta.scoped ≡ true = ap (λ (m : Meta). m.scoped) same ∙ scoped in
      let parts = and_parts (not known.row.meta.scoped) (not (is_acl known.row.meta.kind)) (and_parts known.row.meta.kept _ known.single).1 in
      absurd (both_ways known.row.meta.scoped (not-true known.row.meta.scoped parts.0) its)
  of_scoped place meta fabric found scoped (keys.Items its one) known at =
      let here : one ≡ place = place-same one place (and_parts (same_place one place) (its == fabric) at).0 in
      let limit : most_rows (keys.Items its one) ≡ meta.limit = ap (λ (p : Place). most_rows (keys.Items its p)) here ∙ limit_found (find_data_of place) found in
      omega (arith, limit)
    where
      limit_found : (r : Result Meta Status) → r ≡ Ok meta → limit_at r ≡ meta.limit
      limit_found r same = ap limit_at same
  of_scoped place meta fabric found scoped keys.Boot known at = omega arith
  of_scoped place meta fabric found scoped keys.Ceiling known at = omega arith
  of_scoped place meta fabric found scoped (keys.Fabric index) known at = omega arith
  of_scoped place meta fabric found scoped keys.Roots known at = omega arith
  of_scoped place meta fabric found scoped keys.Networks known at = omega arith
  of_scoped place meta fabric found scoped keys.Failsafe known at = omega arith

  none_first : (place : Place) (meta : Meta) (fabric : ℕ) → find_data_of place ≡ Ok meta → meta.scoped ≡ true → filter (is_at place fabric) first_rows ≡ []
  unfolding is_plain_row
  none_first place meta fabric found scoped = filter-none is_plain_row (is_at place fabric) not_at first_rows first_unscoped
    where
      not_at : (row : Row) → is_plain_row row ≡ true → is_at place fabric row ≡ false
      not_at row plain = false_from_ne_true (is_at place fabric row) (λ at.
          let here : row.place ≡ place = place-same row.place place (and_parts (same_place row.place place) (row.fabric == fabric) at).0 in
          let its : is_unscoped (find_data_of place) ≡ false = ap is_unscoped found ∙ ap not scoped in
          both_ways (is_unscoped (find_data_of place)) its (subst (λ (p : Place). is_unscoped (find_data_of p) ≡ true) here plain))

  pub counts : ItemsAreFew (rows_with kept.rows)
  counts place meta fabric found scoped =
      let at_there : (row : Row) → is_at place fabric row ≡ true → stands_at place row ≡ true = λ row at. (and_parts (same_place row.place place) (row.fabric == fabric) at).0 in
      let same = length-filter (is_at place fabric) (rows_with kept.rows) in
      elim (cases_Bool (list_any (same_place place) stored_places)) [
        | inl listed ↦
            let there = in-any (same_place place) place (place-same place) stored_places listed in
            let rows = kept_there kept.rows place (is_at place fabric) at_there there (none_first place meta fabric found scoped) in
            let few : length (filter (is_at place fabric) (rows_with kept.rows)) ≤ meta.limit = subst (λ (l : List Row). length l ≤ meta.limit) (sym rows) (few_of meta.limit place fabric (of_scoped place meta fabric found scoped)) in
            le-leb (count_by (is_at place fabric) (rows_with kept.rows)) meta.limit (omega (arith, same, few))
        | inr none ↦
            let rows = absent kept.rows place (is_at place fabric) at_there stored_places none in
            let few : length (filter (is_at place fabric) (rows_with kept.rows)) ≤ 0 = subst (λ (l : List Row). length l ≤ 0) (sym rows) (omega arith) in
            le-leb (count_by (is_at place fabric) (rows_with kept.rows)) meta.limit (omega (arith, same, few))
      ]
