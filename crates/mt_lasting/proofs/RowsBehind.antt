-- What rows of a fabric stand at a place behind steps that set values.
use Rattle.std.proofs.Common.{◌≡◌, ◌∙◌, refl, sym, ap, ℕ, ◌==◌, ◌&&◌, not, Bool, true, false, List, [], ◌∷◌, ◌++◌, Option, Some, None, IsTrue, filter, map, option_map, unwrap_or, append-nil, arith, if◌then◌else◌}
use Rattle.std.specs.List.{list_all}
use Rattle.std.specs.Option.{option_or}
use Rattle.std.proofs.lemmas.Grind.{common_steps}
use Rattle.std.proofs.lemmas.Bool.{and_from, and_parts, eqb-true}
use Rattle.std.proofs.lemmas.List.Elements.{filter-append}
use Rattle.mt_tlv.specs.declared.value.Value.{Value}
use Rattle.mt_model.specs.rows.Order.{are_ascending, row_at}
use Rattle.mt_model.specs.rows.Setting.{is_above, is_at, is_below, with_rows}
use Rattle.mt_model.specs.rows.Sight.{same_place}
use Rattle.mt_model.specs.declared.node.action.NodeStep.{NodeStep}
use Rattle.mt_model.specs.declared.node.state.NodeState.{NodeState}
use Rattle.mt_model.specs.declared.rows.place.Place.{Place}
use Rattle.mt_model.specs.declared.rows.place.Row.{Row}
use Rattle.mt_write.specs.Latest.{latest, row_set}
use Rattle.mt_machine.specs.Effects.{after, after_all, is_setting_step}
use Rattle.mt_machine.specs.Settings.{setting_cases}
use Rattle.mt_lasting.proofs.Filters.{filter_all, filter_none, filter_through, filter_without}
use Rattle.mt_lasting.proofs.Lists.{place-same}

abbrev pub SetsInOrder : Type 0
SetsInOrder = (rows : List Row) (place : Place) (fabric : ℕ) (values : List Value) → IsTrue (are_ascending rows) → IsTrue (are_ascending (with_rows place fabric values rows))

abbrev pub KeepsOthers : Type 0
KeepsOthers = (rows : List Row) (place : Place) (fabric : ℕ) → IsTrue (are_ascending rows)
    → filter (is_below place fabric) rows ++ filter (is_above place fabric) rows ≡ filter (λ (row : Row). not (is_at place fabric row)) rows

below_is_other : (place : Place) (fabric : ℕ) (row : Row) → is_below place fabric row ≡ true → is_at place fabric row ≡ false
below_is_other place fabric row e = grind (arith, common_steps)

above_is_other : (place : Place) (fabric : ℕ) (row : Row) → is_above place fabric row ≡ true → is_at place fabric row ≡ false
above_is_other place fabric row e = grind (arith, common_steps)

self_place : (p : Place) → same_place p p ≡ true
self_place p = grind (arith, common_steps)

module _ (place : Place) (fabric : ℕ) where
  here : (v : Value) → is_at place fabric (row_at place fabric v) ≡ true
  here v = grind (arith, self_place place)

  all_here : (values : List Value) → list_all (is_at place fabric) (map (row_at place fabric) values) ≡ true
  all_here [] = refl
  all_here (v ∷ values) = and_from _ _ (here v) (all_here values)

  none_here : (at : Place) (whose : ℕ) (values : List Value) → (same_place at place && (whose == fabric)) ≡ false → list_all (λ (row : Row). not (is_at place fabric row)) (map (row_at at whose) values) ≡ true
  none_here at whose [] e = refl
  none_here at whose (v ∷ values) e = and_from _ _ (ap not e) (none_here at whose values e)

  split : (below new above : List Row) → filter (is_at place fabric) (below ++ (new ++ above)) ≡ filter (is_at place fabric) below ++ (filter (is_at place fabric) new ++ filter (is_at place fabric) above)
  split below new above = filter-append (is_at place fabric) below (new ++ above) ∙ ap (λ (l : List Row). filter (is_at place fabric) below ++ l) (filter-append (is_at place fabric) new above)

  -- behind a step that sets rows there, these stand there
  set_here : (values : List Value) (rows : List Row) → filter (is_at place fabric) (with_rows place fabric values rows) ≡ map (row_at place fabric) values
  set_here values rows =
      split (filter (is_below place fabric) rows) (map (row_at place fabric) values) (filter (is_above place fabric) rows)
      ∙ (λ i. filter_without (is_at place fabric) (is_below place fabric) (below_is_other place fabric) rows i
      ++ (filter_all (is_at place fabric) (map (row_at place fabric) values) (all_here values) i
      ++ filter_without (is_at place fabric) (is_above place fabric) (above_is_other place fabric) rows i))
      ∙ append-nil (map (row_at place fabric) values)

  other_at : (at : Place) (whose : ℕ) → (same_place at place && (whose == fabric)) ≡ false → (row : Row) → is_at place fabric row ≡ true → not (is_at at whose row) ≡ true
  other_at at whose e row h = grind (arith, common_steps)

  -- behind one that sets other rows, what stood there
  set_elsewhere : KeepsOthers → (at : Place) (whose : ℕ) (values : List Value) (rows : List Row) → IsTrue (are_ascending rows)
      → (same_place at place && (whose == fabric)) ≡ false → filter (is_at place fabric) (with_rows at whose values rows) ≡ filter (is_at place fabric) rows
  set_elsewhere keeps at whose values rows up e =
      let lower = filter (is_below at whose) rows in
      let higher = filter (is_above at whose) rows in
      split lower (map (row_at at whose) values) higher
      ∙ ap (λ (l : List Row). filter (is_at place fabric) lower ++ (l ++ filter (is_at place fabric) higher)) (filter_none (is_at place fabric) (map (row_at at whose) values) (none_here at whose values e))
      ∙ sym (filter-append (is_at place fabric) lower higher)
      ∙ ap (filter (is_at place fabric)) (keeps rows at whose up)
      ∙ filter_through (is_at place fabric) (λ (row : Row). not (is_at at whose row)) (other_at at whose e) rows

  -- what a step sets there, or what stands there
  abbrev pub or_stored : Option (List Value) → List Row → List Row
  or_stored set rows = unwrap_or (option_map (map (row_at place fabric)) set) rows

  behind_row : KeepsOthers → (at : Place) (whose : ℕ) (values : List Value) (rows : List Row) → IsTrue (are_ascending rows) → (t : Bool) → (same_place at place && (whose == fabric)) ≡ t
      → filter (is_at place fabric) (with_rows at whose values rows) ≡ or_stored (if t then Some values else None) (filter (is_at place fabric) rows)
  behind_row keeps at whose values rows up true e =
      let both = and_parts (same_place at place) (whose == fabric) e in
      let is : at ≡ place = place-same at place both.0 in
      let whose_is : whose ≡ fabric = eqb-true whose fabric both.1 in
      (λ i. filter (is_at place fabric) (with_rows (is i) (whose_is i) values rows)) ∙ set_here values rows
  behind_row keeps at whose values rows up false e = set_elsewhere keeps at whose values rows up e

  behind_step : KeepsOthers → (step : NodeStep) (s : NodeState) → IsTrue (are_ascending s.rows) → is_setting_step step ≡ true
      → filter (is_at place fabric) (after None step s).rows ≡ or_stored (row_set place fabric step) (filter (is_at place fabric) s.rows)
  behind_step keeps step s up =
      setting_cases (λ (step : NodeStep). filter (is_at place fabric) (after None step s).rows ≡ or_stored (row_set place fabric step) (filter (is_at place fabric) s.rows))
      (λ at whose values stored. behind_row keeps at whose values s.rows up (same_place at place && (whose == fabric)) refl) (λ whose entries all. refl) (λ at-event priority whom value. refl) step

  newer_is : (set found : Option (List Value)) (behind before stored : List Row) → behind ≡ or_stored set before → before ≡ or_stored found stored → behind ≡ or_stored (option_or set found) stored
  newer_is (Some values) found behind before stored a b = a
  newer_is None found behind before stored a b = a ∙ b

-- the rows behind steps ascend
up_step : SetsInOrder → (step : NodeStep) (s : NodeState) → IsTrue (are_ascending s.rows) → is_setting_step step ≡ true → IsTrue (are_ascending (after None step s).rows)
up_step sets step s up =
    setting_cases (λ (step : NodeStep). IsTrue (are_ascending (after None step s).rows)) (λ at whose values stored. sets s.rows at whose values up) (λ whose entries all. up) (λ at-event priority whom value. up) step

module _ (sets : SetsInOrder) (keeps : KeepsOthers) (place : Place) (fabric : ℕ) where
  behind_all : (steps : List NodeStep) (s : NodeState) (found : Option (List Value)) (stored : List Row) → IsTrue (are_ascending s.rows) → list_all is_setting_step steps ≡ true
      → filter (is_at place fabric) s.rows ≡ or_stored place fabric found stored
      → filter (is_at place fabric) (after_all None steps s).rows ≡ or_stored place fabric (latest (row_set place fabric) found steps) stored
  behind_all [] s found stored up settings e = e
  behind_all (step ∷ steps) s found stored up settings e =
      let both = and_parts (is_setting_step step) (list_all is_setting_step steps) settings in
      behind_all steps (after None step s) (option_or (row_set place fabric step) found) stored (up_step sets step s up both.0) both.1
      (newer_is place fabric (row_set place fabric step) found (filter (is_at place fabric) (after None step s).rows) (filter (is_at place fabric) s.rows) stored (behind_step place fabric keeps step s up both.0) e)

  -- what the latest of the steps sets there, or what stood there
  pub rows_behind : (steps : List NodeStep) (s : NodeState) → IsTrue (are_ascending s.rows) → list_all is_setting_step steps ≡ true
      → filter (is_at place fabric) (after_all None steps s).rows ≡ or_stored place fabric (latest (row_set place fabric) None steps) (filter (is_at place fabric) s.rows)
  rows_behind steps s up settings = behind_all steps s None (filter (is_at place fabric) s.rows) up settings refl
