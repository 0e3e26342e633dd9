-- The steps that close a commissioning window at a time step: they set rows of nobody, and are the same on every veil.
use Rattle.std.proofs.Common.{◌≡◌, ℕ, ◌==◌, ◌&&◌, ◌++◌, inl, inr, not, Bool, true, false, List, [], ◌∷◌, Option, refl, ap, ◌∙◌, filter, map, arith, if◌then◌else◌}
use Rattle.std.specs.List.{list_all}
use Rattle.std.proofs.lemmas.Bool.{cases_Bool}
use Rattle.std.proofs.lemmas.List.Elements.{filter-append}
use Rattle.mt_admin.specs.Windows.{closed, has_ended, number_at, ticked, window_at, window_end}
use Rattle.mt_meta.specs.Stored.{is_stored}
use Rattle.mt_meta.specs.Table.{attributes_of, clusters_of, endpoints, extensions_of, globals}
use Rattle.mt_model.specs.rows.Setting.{is_at}
use Rattle.mt_model.specs.rows.Shown.{first_value}
use Rattle.mt_model.specs.rows.Sight.{same_place, seen_by}
use Rattle.mt_model.specs.declared.node.action.NodeStep.{NodeStep}
use Rattle.mt_model.specs.declared.node.state.NodeState.{NodeState}
use Rattle.mt_model.specs.declared.rows.place.Place.{Place}
use Rattle.mt_model.specs.declared.rows.place.Row.{Row}
use Rattle.mt_model.specs.declared.tables.fabric.Fabric.{Fabric}
use Rattle.mt_machine.specs.Effects.{is_setting_step}
use Rattle.mt_machine.specs.Isolation.{owns, veil}
use Rattle.mt_machine.specs.Step.{rows_of_nobody, window_steps}
use Rattle.mt_machine.specs.Taking.{fits}
use Rattle.mt_machine.proofs.Steps.{is_step_of}

-- what holds of the steps that close it holds of what a time step makes of it
module _ (P : NodeStep → Bool) (all : list_all P closed ≡ true) (s : NodeState) (now : ℕ) where
  by_end : (ended : Bool) → list_all P (if ended then closed else []) ≡ true
  by_end true = all
  by_end false = refl

  pub windows_pass : list_all P (window_steps s now) ≡ true
  windows_pass = by_end (has_ended now (number_at (rows_of_nobody s) window_end))

pub windows_set : (s : NodeState) (now : ℕ) → list_all is_setting_step (window_steps s now) ≡ true
windows_set s now = windows_pass is_setting_step refl s now

pub nobody_sets : (s : NodeState) (now : ℕ) → list_all (is_step_of 0) (window_steps s now) ≡ true
nobody_sets s now = windows_pass (is_step_of 0) refl s now

closed_fits : (fabrics : List Fabric) → list_all (fits fabrics) closed ≡ true
unfolding is_stored endpoints clusters_of attributes_of globals extensions_of
closed_fits fabrics = refl

pub windows_fit : (fabrics : List Fabric) (s : NodeState) (now : ℕ) → list_all (fits fabrics) (window_steps s now) ≡ true
windows_fit fabrics s now = windows_pass (fits fabrics) (closed_fits fabrics) s now

-- The rows of nobody are the same on every veil.

module _ (fabric : ℕ) (place : Place) where
  none_owned : (rows : List Row) → filter (is_at place 0) (filter (owns fabric) rows) ≡ []
  none_owned [] = refl
  none_owned (row ∷ rows) = elim (cases_Bool (row.fabric == 0)) [
    | inl zero ↦ elim (cases_Bool (row.fabric == fabric)) [ inl mine ↦ rw (mine, zero) (none_owned rows) | inr other ↦ rw other (none_owned rows) ]
    | inr some ↦ elim (cases_Bool (row.fabric == fabric)) [
      | inl mine ↦ elim (cases_Bool (same_place row.place place)) [ inl here ↦ rw (mine, some, here, some) (none_owned rows) | inr elsewhere ↦ rw (mine, some, elsewhere) (none_owned rows) ]
      | inr other ↦ rw other (none_owned rows)
    ]
  ]

  all_others : (rows : List Row) → filter (is_at place 0) (map (seen_by fabric) (filter (λ (row : Row). not (owns fabric row)) rows)) ≡ filter (is_at place 0) rows
  all_others [] = refl
  all_others (row ∷ rows) = grind (arith, all_others rows)

  nobody_veiled : (s : NodeState) → rows_of_nobody (veil fabric s) place ≡ rows_of_nobody s place
  nobody_veiled s =
      filter-append (is_at place 0) (filter (owns fabric) s.rows) (map (seen_by fabric) (filter (λ (row : Row). not (owns fabric row)) s.rows))
      ∙ (λ i. none_owned s.rows i ++ all_others s.rows i)

pub windows_veiled : (fabric : ℕ) (s : NodeState) (now : ℕ) → window_steps (veil fabric s) now ≡ window_steps s now
windows_veiled fabric s now =
    ap (λ (rows : List Row). if has_ended now (number_at (λ place. rows) window_end) then closed else []) (nobody_veiled fabric (window_at window_end) s)
