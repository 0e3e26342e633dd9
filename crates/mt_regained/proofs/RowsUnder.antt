-- The rows under the keys of a valid state: those of a place and a fabric are under one key.
use Rattle.std.proofs.Common.{◌≡◌, ◌∙◌, refl, sym, ap, subst, ℕ, inl, inr, ◌&&◌, ◌==◌, not, Bool, true, false, List, Result, Ok, Err, count_by, filter, length, arith, if◌then◌else◌}
use Rattle.std.proofs.lemmas.Bool.{and_from, and_parts, cases_Bool, eqb-true}
use Rattle.std.proofs.lemmas.List.Sums.{length-filter}
use Rattle.std.specs.List.{flat_map, list_all, list_any}
use Rattle.mt_meta.specs.Finding.{find_data_of}
use Rattle.mt_meta.specs.Forms.{has_form}
use Rattle.mt_meta.specs.Places.{all_places}
use Rattle.mt_meta.specs.Stored.{is_stored}
use Rattle.mt_meta.specs.Table.{attributes_of, clusters_of, endpoints, extensions_of, globals}
use Rattle.mt_meta.specs.declared.meta.Meta.{Meta}
use Rattle.mt_model.specs.rows.Order.{rise_above}
use Rattle.mt_model.specs.rows.Setting.{is_at}
use Rattle.mt_model.specs.rows.Sight.{same_place, stands_at}
use Rattle.mt_model.specs.declared.messages.status.Status.{Status}
use Rattle.mt_model.specs.declared.node.state.NodeState.{NodeState}
use Rattle.mt_model.specs.declared.rows.place.Place.{Place}
use Rattle.mt_model.specs.declared.rows.place.Row.{Row}
use Rattle.mt_model.specs.declared.tables.fabric.Fabric.{Fabric}
use Rattle.mt_grammar.specs.Values.{is_acl, is_first_at}
use Rattle.mt_grammar.specs.declared.keys.Key.{Key}
use Rattle.mt_grammar.specs.declared.keys.Key.TheVariants as keys
use Rattle.mt_machine.specs.State.{IsValid, has_one_row, is_among, is_row, is_row_at, is_row_of, is_unscoped, stands_once}
use Rattle.mt_lasting.specs.Contents.{rows_under}
use Rattle.mt_lasting.specs.Keys.{all_keys}
use Rattle.mt_regained.proofs.BehindRollbacks.{none_below}
use Rattle.mt_regained.proofs.KeyFacts.{KeyFacts, key_facts}
use Rattle.mt_regained.proofs.Lists.{IsIn, all-both, all-filter, all-kept, all-weaker, each-same, in-any, tested}
use Rattle.mt_regained.proofs.PlaceFacts.{IsSingle}
use Rattle.mt_regained.proofs.Places.{place-same}
use Rattle.mt_regained.proofs.Rows.{unscoped_at}
use Rattle.mt_regained.proofs.Standing.{all_differ, exact_at, key_at}
use Rattle.mt_regained.proofs.Steps.{is_sound, is_sound_at, row_stands}

-- Each row is sound.

owner_sound : (fabrics : List Fabric) (scoped : Bool) (fabric : ℕ) → rise_above 0 fabrics ≡ true → is_row_of fabrics scoped fabric ≡ true → (if scoped then not (fabric == 0) else fabric == 0) ≡ true
owner_sound fabrics false fabric up its = its
owner_sound fabrics true fabric up its = elim (cases_Bool (fabric == 0)) [
  | inl none ↦ absurd (none_below 0 0 fabrics (omega arith) up (subst (λ (n : ℕ). is_among fabrics n ≡ true) (eqb-true fabric 0 none) its))
  | inr some ↦ ap not some
]

found_sound : (fabrics : List Fabric) (row : Row) (found : Result Meta Status) → rise_above 0 fabrics ≡ true → is_row_at fabrics row found ≡ true → is_sound_at row found ≡ true
found_sound fabrics row (Err status) up stands = absurd cc
found_sound fabrics row (Ok meta) up stands =
    let both = and_parts (has_form meta row.fabric row.value) (is_row_of fabrics meta.scoped row.fabric) stands in
    and_from _ _ both.0 (owner_sound fabrics meta.scoped row.fabric up both.1)

row_sound : (fabrics : List Fabric) → rise_above 0 fabrics ≡ true → (row : Row) → is_row fabrics row ≡ true → is_sound row ≡ true
row_sound fabrics up row stands =
    let both = and_parts (is_stored row.place) (is_row_at fabrics row (find_data_of row.place)) stands in
    and_from _ _ both.0 (found_sound fabrics row (find_data_of row.place) up both.1)

-- The places with one value have one row.

once_key : Key → Bool
once_key (keys.Single place) = list_any (same_place place) (filter has_one_row all_places)
once_key key = true

all_once : list_all once_key all_keys ≡ true
unfolding once_key endpoints clusters_of attributes_of globals extensions_of is_stored
all_once = refl

once : (place : Place) → IsIn (keys.Single place) all_keys → IsIn place (filter has_one_row all_places)
unfolding once_key
once place there =
    let among : list_any (same_place place) (filter has_one_row all_places) ≡ true = tested once_key all_keys all_once (keys.Single place) there in
    in-any (same_place place) place (place-same place) (filter has_one_row all_places) among

module _ (s : NodeState) (valid : IsValid s) where
  rows_sound : list_all is_sound s.rows ≡ true
  rows_sound = all-weaker (is_row s.fabrics) is_sound (row_sound s.fabrics valid.fabrics_rise) s.rows valid.row_forms

  abbrev StandUnder : Key → Type 0
  StandUnder key = list_all (row_stands key) (rows_under s key) ≡ true

  -- where each sound row that passes the test stands there
  passed : (key : Key) (test : Row → Bool) → ((row : Row) → is_sound row ≡ true → test row ≡ true → row_stands key row ≡ true) → list_all (row_stands key) (filter test s.rows) ≡ true
  passed key test each = all-both is_sound test (row_stands key) each (filter test s.rows) (all-filter is_sound test s.rows rows_sound) (all-kept test s.rows)

  of_single : (place : Place) → IsSingle place → StandUnder (keys.Single place)
  of_single place facts = passed (keys.Single place) (λ row. stands_at place row && not (is_first_at place row.value)) each
    where
      each : (row : Row) → is_sound row ≡ true → (stands_at place row && not (is_first_at place row.value)) ≡ true → row_stands (keys.Single place) row ≡ true
      each row sound passes =
          let both = and_parts (stands_at place row) (not (is_first_at place row.value)) passes in
          let parts = and_parts (not facts.row.meta.scoped) (not (is_acl facts.row.meta.kind)) (and_parts facts.row.meta.kept _ facts.single).1 in
          let unscoped : is_unscoped (find_data_of place) ≡ true = ap is_unscoped facts.is_data ∙ parts.0 in
          and_from _ _ (sym (unscoped_at place unscoped row sound) ∙ both.0) (and_from _ _ sound both.1)

  of_key : (key : Key) → KeyFacts key → StandUnder key
  of_key (keys.Single place) facts = of_single place facts
  of_key (keys.Items fabric place) facts = passed (keys.Items fabric place) (is_at place fabric) (λ row sound at. and_from _ _ at sound)
  of_key keys.Boot facts = refl
  of_key keys.Ceiling facts = refl
  of_key (keys.Fabric index) facts = refl
  of_key keys.Roots facts = refl
  of_key keys.Networks facts = refl
  of_key keys.Failsafe facts = refl

  pub under_key : (place : Place) (fabric : ℕ) (key : Key) → IsIn key all_keys → key_at place fabric key ≡ true → filter (is_at place fabric) (flat_map (rows_under s) all_keys) ≡ rows_under s key
  under_key place fabric key there at = exact_at (rows_under s) place fabric all_keys (each-same KeyFacts StandUnder of_key all_keys key_facts) all_differ key there at

  pub one_row : (place : Place) → IsIn (keys.Single place) all_keys → length (filter (stands_at place) s.rows) ≡ 1
  one_row place there =
      let found = tested (stands_once s.rows) (filter has_one_row all_places) valid.rows_stand place (once place there) in
      length-filter (stands_at place) s.rows ∙ eqb-true (count_by (stands_at place) s.rows) 1 found
