-- What is durable of a valid state is durable of the state that it stands for.
use Rattle.std.proofs.Common.{◌≡◌, ◌∙◌, refl, sym, ap, ℕ, ◌^◌, ◌≤◌, inl, inr, ◌&&◌, not, Bool, true, List, [], ◌∷◌, Option, Some, None, filter, length, arith, if◌then◌else◌}
use Rattle.std.proofs.lemmas.Bool.{and_from, and_parts, cases_Bool, eq-eqb}
use Rattle.std.specs.Prelude.{option_map}
use Rattle.std.specs.List.{flat_map, list_all}
use Rattle.mt_tlv.specs.declared.value.Value.{Value}
use Rattle.mt_model.specs.rows.Setting.{is_at, is_entry_of}
use Rattle.mt_model.specs.rows.Sight.{same_place, stands_at}
use Rattle.mt_model.specs.declared.node.state.NodeState.{NodeState}
use Rattle.mt_model.specs.declared.rows.place.Place.{Place}
use Rattle.mt_model.specs.declared.rows.place.Row.{Row}
use Rattle.mt_model.specs.declared.tables.network.Armed.{Armed}
use Rattle.mt_grammar.specs.Values.{is_first_at}
use Rattle.mt_grammar.specs.declared.kept.MapContents.{MapContents}
use Rattle.mt_grammar.specs.declared.keys.Key.{Key}
use Rattle.mt_grammar.specs.declared.keys.Key.TheVariants as keys
use Rattle.mt_machine.specs.State.{IsValid}
use Rattle.mt_lasting.specs.Contents.{durable, entry_at, entry_if, kept_failsafe, kept_of, rows_under}
use Rattle.mt_lasting.specs.Keys.{acl_place, all_keys}
use Rattle.mt_lasting.specs.Values.{array_if, entry_tree, failsafe_value, row_tree, single_in, single_value, value_at}
use Rattle.mt_regained.specs.Laws.{DurableIsKept, KeptAgain, StatesAreValid}
use Rattle.mt_regained.specs.Regained.{state_of, with_given_root}
use Rattle.mt_regained.proofs.Again.{flat-same}
use Rattle.mt_regained.proofs.Lists.{IsIn, all-kept, each-all, filter-stronger}
use Rattle.mt_regained.proofs.Read.{place-itself}
use Rattle.mt_regained.proofs.Regaining.{regained}
use Rattle.mt_regained.proofs.RowsUnder.{one_row, under_key}
use Rattle.mt_regained.proofs.Standing.{key_at}

-- The value of a place with one row is told by the rows under its key.

abbrev differs_at : Place → Row → Bool
differs_at place row = stands_at place row && not (is_first_at place row.value)

abbrev value_in : List Row → Option Value
value_in [] = None
value_in (row ∷ rows) = Some row.value

of_one : (place : Place) (rows : List Row) → length rows ≡ 1 → list_all (stands_at place) rows ≡ true → single_in place rows ≡ value_in (filter (differs_at place) rows)
of_one place [] one all = absurd (omega (arith, one))
of_one place (row ∷ []) one all =
    let here : stands_at place row ≡ true = (and_parts (stands_at place row) true all).0 in
    elim (cases_Bool (is_first_at place row.value)) [
      | inl first ↦ rw (here, first) refl
      | inr other ↦ rw (here, other) refl
    ]
of_one place (row ∷ next ∷ rows) one all = absurd (omega (arith, one))

single_under : (s : NodeState) → IsValid s → (place : Place) → IsIn (keys.Single place) all_keys → single_value place s.rows ≡ value_in (rows_under s (keys.Single place))
single_under s valid place there =
    of_one place (filter (stands_at place) s.rows) (one_row s valid place there) (all-kept (stands_at place) s.rows)
    ∙ ap value_in (filter-stronger (stands_at place) (differs_at place) (λ row passes. (and_parts (stands_at place row) (not (is_first_at place row.value)) passes).0) s.rows)

-- Of the fail-safe the same is durable.
failsafe_again : (kept : MapContents) (armed : Option Armed) → option_map failsafe_value (option_map (with_given_root kept) (option_map kept_failsafe armed)) ≡ option_map failsafe_value armed
failsafe_again kept None = refl
failsafe_again kept (Some armed) = refl

module _ (is_kept : DurableIsKept) (are_valid : StatesAreValid) (again : KeptAgain) where
  module _ (s : NodeState) (ceiling : ℕ) (valid : IsValid s) (fits : ceiling ≤ 2 ^ 62) where
    abbrev behind : NodeState
    behind = state_of (kept_of s ceiling)

    behind_valid : IsValid behind
    behind_valid = are_valid (durable s ceiling) (kept_of s ceiling) (is_kept s ceiling valid fits)

    same_rows : flat_map (rows_under behind) all_keys ≡ flat_map (rows_under s) all_keys
    same_rows = ap (λ (kept : MapContents). kept.rows) (regained is_kept again s ceiling valid)

    pub same_under : (place : Place) (fabric : ℕ) (key : Key) → IsIn key all_keys → key_at place fabric key ≡ true → rows_under behind key ≡ rows_under s key
    same_under place fabric key there at =
        sym (under_key behind behind_valid place fabric key there at)
        ∙ ap (filter (is_at place fabric)) same_rows
        ∙ under_key s valid place fabric key there at

    same_value : (key : Key) → IsIn key all_keys → value_at key behind ceiling ≡ value_at key s ceiling
    same_value (keys.Single place) there =
        single_under behind behind_valid place there
        ∙ ap value_in (same_under place 0 (keys.Single place) there (and_from _ _ (place-itself place) refl))
        ∙ sym (single_under s valid place there)
    same_value (keys.Items fabric place) there =
        ap (λ (rows : List Row). if same_place place acl_place then array_if entry_tree (filter (is_entry_of fabric) s.entries) else array_if row_tree rows)
        (same_under place fabric (keys.Items fabric place) there (and_from _ _ (place-itself place) (eq-eqb fabric fabric refl)))
    same_value keys.Boot there = refl
    same_value keys.Ceiling there = refl
    same_value (keys.Fabric index) there = refl
    same_value keys.Roots there = refl
    same_value keys.Networks there = refl
    same_value keys.Failsafe there = failsafe_again (kept_of s ceiling) s.armed

  pub durable_again : (s : NodeState) (ceiling : ℕ) → IsValid s → ceiling ≤ 2 ^ 62 → durable (state_of (kept_of s ceiling)) ceiling ≡ durable s ceiling
  durable_again s ceiling valid fits =
      flat-same (entry_at (state_of (kept_of s ceiling)) ceiling) (entry_at s ceiling) all_keys
      (each-all (λ key. entry_at (state_of (kept_of s ceiling)) ceiling key ≡ entry_at s ceiling key) all_keys (λ key there. ap (entry_if key) (same_value s ceiling valid fits key there)))
