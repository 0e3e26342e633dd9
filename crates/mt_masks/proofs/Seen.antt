-- What a fabric observes of a masked state: the same, but that its own key sets are masked.
use Rattle.std.proofs.Common.{◌≡◌, ℕ, ◌==◌, ◌||◌, ◌++◌, inl, inr, true, false, List, [], ◌∷◌, refl, sym, ap, ◌∙◌, arith, filter, map}
use Rattle.std.proofs.lemmas.Bool.{cases_Bool, cond_both, eqb-true}
use Rattle.std.proofs.lemmas.List.{append-nil}
use Rattle.std.proofs.lemmas.List.Elements.{filter-append}
use Rattle.mt_meta.specs.Stored.{is_stored}
use Rattle.mt_meta.specs.Table.{attributes_of, clusters_of, endpoints, extensions_of, globals}
use Rattle.mt_groupkeys.specs.Commands.{key_map}
use Rattle.mt_groupkeys.specs.Sets.{values_of}
use Rattle.mt_model.specs.rows.Order.{in_order, is_higher, is_lower, is_own}
use Rattle.mt_model.specs.rows.Setting.{is_at}
use Rattle.mt_model.specs.rows.Sight.{bare_value, same_place, seen_by, stands_at}
use Rattle.mt_model.specs.tables.KeySets.{key_sets}
use Rattle.mt_model.specs.declared.node.state.NodeState.{NodeState}
use Rattle.mt_model.specs.declared.rows.place.Place.{Place}
use Rattle.mt_model.specs.declared.rows.place.Row.{Row}
use Rattle.mt_machine.specs.Commands.{nobodys_rows, own_rows}
use Rattle.mt_machine.specs.Observation.{observation}
use Rattle.mt_machine.specs.State.{rows_of}
use Rattle.mt_machine.specs.Step.{rows_of_nobody}
use Rattle.mt_masks.specs.Masking.{masked_node, masked_set}
use Rattle.mt_masks.proofs.Lists.{filter_all, filter_none}
use Rattle.mt_masks.proofs.Observed.{Agree}
use Rattle.mt_masks.proofs.Rows.{own_masked, set_elsewhere}
use Rattle.mt_masks.proofs.Steps.{rows_elsewhere}

-- The rows of a fabric at a place, as it sees them.

seen_fabric : (fabric : ℕ) (row : Row) → (seen_by fabric row).fabric ≡ row.fabric
seen_fabric fabric row =
    cond_both (row.fabric == fabric || row.fabric == 0) row (record row { value = bare_value row.place row.value }) (λ (r : Row). r.fabric ≡ row.fabric) (λ whole. refl) (λ bare. refl)

seen_own : (fabric : ℕ) (rows : List Row) → filter (is_own fabric) (map (seen_by fabric) rows) ≡ filter (is_own fabric) rows
seen_own fabric [] = refl
seen_own fabric (row ∷ rows) =
    let rest = seen_own fabric rows in
    elim (cases_Bool (row.fabric == fabric)) [
      | inl its ↦ rw (its, its) (ap (λ (xs : List Row). row ∷ xs) rest)
      | inr anothers ↦
          let seen : is_own fabric (seen_by fabric row) ≡ false = ap (λ (n : ℕ). n == fabric) (seen_fabric fabric row) ∙ anothers in
          rw (seen, anothers) rest
    ]

lower_is_other : (fabric : ℕ) (row : Row) → is_own fabric row ≡ true → is_lower fabric row ≡ false
lower_is_other fabric row its = let same = eqb-true row.fabric fabric its in grind (arith, same)

higher_is_other : (fabric : ℕ) (row : Row) → is_own fabric row ≡ true → is_higher fabric row ≡ false
higher_is_other fabric row its = let same = eqb-true row.fabric fabric its in grind (arith, same)

own_in_order : (fabric : ℕ) (rows : List Row) → filter (is_own fabric) (in_order fabric rows) ≡ filter (is_own fabric) rows
own_in_order fabric rows =
    filter-append (is_own fabric) (filter (is_lower fabric) rows) (filter (is_own fabric) rows ++ filter (is_higher fabric) rows)
    ∙ ap (λ (xs : List Row). filter (is_own fabric) (filter (is_lower fabric) rows) ++ xs) (filter-append (is_own fabric) (filter (is_own fabric) rows) (filter (is_higher fabric) rows))
    ∙ (λ i.
    filter_none (is_lower fabric) (is_own fabric) (lower_is_other fabric) rows i
    ++ (filter_all (is_own fabric) (is_own fabric) (λ row its. its) rows i ++ filter_none (is_higher fabric) (is_own fabric) (higher_is_other fabric) rows i))
    ∙ append-nil (filter (is_own fabric) rows)

own_there : (place : Place) (fabric : ℕ) (rows : List Row) → filter (is_own fabric) (filter (stands_at place) rows) ≡ filter (is_at place fabric) rows
own_there place fabric [] = refl
own_there place fabric (row ∷ rows) =
    let rest = own_there place fabric rows in
    elim (cases_Bool (same_place row.place place)) [
      | inl here ↦ elim (cases_Bool (row.fabric == fabric)) [ inl its ↦ rw (here, its) (ap (λ (xs : List Row). row ∷ xs) rest) | inr anothers ↦ rw (here, anothers) rest ]
      | inr elsewhere ↦ rw elsewhere rest
    ]

seen_there : (place : Place) (fabric : ℕ) (rows : List Row) → filter (is_own fabric) (map (seen_by fabric) (in_order fabric (filter (stands_at place) rows))) ≡ filter (is_at place fabric) rows
seen_there place fabric rows = seen_own fabric (in_order fabric (filter (stands_at place) rows)) ∙ own_in_order fabric (filter (stands_at place) rows) ∙ own_there place fabric rows

rows_stored : (s : NodeState) → rows_of s key_sets ≡ filter (stands_at key_sets) s.rows
unfolding is_stored endpoints clusters_of attributes_of globals extensions_of
rows_stored s = refl

own_observed : (fabric : ℕ) (s : NodeState) → values_of (own_rows (observation fabric s) key_sets) ≡ values_of (filter (is_at key_sets fabric) s.rows)
own_observed fabric s =
    ap (λ (rows : List Row). values_of (filter (is_own fabric) (map (seen_by fabric) (in_order fabric rows)))) (rows_stored s)
    ∙ ap values_of (seen_there key_sets fabric s.rows)

pub own_sets : (fabric : ℕ) (s : NodeState) → values_of (own_rows (observation fabric (masked_node s)) key_sets) ≡ map masked_set (values_of (own_rows (observation fabric s) key_sets))
own_sets fabric s = own_observed fabric (masked_node s) ∙ own_masked fabric s.rows ∙ sym (ap (map masked_set) (own_observed fabric s))

-- At every other place it observes the same.

module _ (fabric : ℕ) (s : NodeState) where
  pub seen_agree : Agree (observation fabric (masked_node s)).seen.rows_at (observation fabric s).seen.rows_at
  seen_agree place elsewhere = ap (λ (rows : List Row). map (seen_by fabric) (in_order fabric rows)) (rows_elsewhere s place elsewhere)

  pub nobodys_agree : Agree (nobodys_rows (observation fabric (masked_node s))) (nobodys_rows (observation fabric s))
  nobodys_agree place elsewhere = ap (filter (λ (row : Row). row.fabric == 0)) (seen_agree place elsewhere)

  pub own_items : values_of (own_rows (observation fabric (masked_node s)) key_map) ≡ values_of (own_rows (observation fabric s) key_map)
  own_items = ap (λ (rows : List Row). values_of (filter (λ (row : Row). row.fabric == fabric) rows)) (seen_agree key_map refl)

pub stored_agree : (s : NodeState) → Agree (rows_of_nobody (masked_node s)) (rows_of_nobody s)
stored_agree s place elsewhere = set_elsewhere place 0 elsewhere s.rows
