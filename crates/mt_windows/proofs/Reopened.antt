-- A reopened node has the first rows of each place that is not kept.
use Rattle.std.proofs.Common.{◌≡◌, ℕ, ◌==◌, ◌&&◌, ◌∙◌, ◌++◌, inl, inr, not, Bool, true, false, List, [], ◌∷◌, refl, sym, ap, filter, subst, if◌then◌else◌}
use Rattle.std.proofs.lemmas.Bool.{and_parts, cases_Bool, not-true}
use Rattle.std.proofs.lemmas.List.Elements.{filter-append}
use Rattle.std.specs.List.{flat_map, list_all}
use Rattle.mt_grammar.specs.Values.{is_first_at}
use Rattle.mt_grammar.specs.declared.keys.Key.{Key}
use Rattle.mt_grammar.specs.declared.keys.Key.TheVariants as keys
use Rattle.mt_lasting.specs.Contents.{kept_of, rows_under}
use Rattle.mt_lasting.specs.Keys.{all_keys}
use Rattle.mt_admin.specs.Windows.{window_at, window_end}
use Rattle.mt_meta.specs.Stored.{first_rows}
use Rattle.mt_meta.specs.Table.{attributes_of, clusters_of, endpoints, extensions_of, globals}
use Rattle.mt_model.specs.rows.Setting.{is_at}
use Rattle.mt_model.specs.rows.Sight.{same_place, stands_at}
use Rattle.mt_model.specs.rows.Stored.{stored_places}
use Rattle.mt_model.specs.declared.node.state.NodeState.{NodeState}
use Rattle.mt_model.specs.declared.rows.place.Place.{Place}
use Rattle.mt_model.specs.declared.rows.place.Row.{Row}
use Rattle.mt_model.specs.declared.texts.config.SessionRow.{SessionRow}
use Rattle.mt_machine.specs.Rollback.{rollback}
use Rattle.mt_machine.specs.Step.{rows_of_nobody}
use Rattle.mt_regained.specs.Regained.{or_first, rows_at, state_of}
use Rattle.mt_regained.specs.Reopening.{reopened_node}
use Rattle.mt_runs.specs.Reopening as reopenings
use Rattle.mt_runs.specs.Whole.{Whole}
use Rattle.mt_windows.specs.Window.{closed, window_in}
use Rattle.mt_windows.proofs.Answers.{window_of}
use Rattle.mt_windows.proofs.Rows.{filter-none, mine, place-itself, place-same}

-- whether a key is of another place
abbrev other_key : Place → Key → Bool
other_key q (keys.Single place) = not (same_place place q)
other_key q (keys.Items fabric place) = not (same_place place q)
other_key q key = true

-- nothing of a place is kept that no key has
status_not_kept : list_all (other_key (window_at 0)) all_keys ≡ true
status_not_kept = refl

end_not_kept : list_all (other_key (window_at window_end)) all_keys ≡ true
end_not_kept = refl

module _ (q : Place) where
  -- no row of one place stands at another
  not_there : (place : Place) → not (same_place place q) ≡ true → (row : Row) → stands_at q row ≡ true → same_place row.place place ≡ false
  not_there place other row there =
      subst (λ (p : Place). same_place p place ≡ false) (sym (place-same row.place q there)) (turned place (not-true (same_place place q) other))
    where
      turned : (p : Place) → same_place p q ≡ false → same_place q p ≡ false
      turned p apart = elim (cases_Bool (same_place q p)) [
        | inl same ↦ let back : same_place p q ≡ true = subst (λ (r : Place). same_place p r ≡ true) (sym (place-same q p same)) (place-itself p) in absurd cc
        | inr is ↦ is
      ]

  none_under : (s : NodeState) (key : Key) → other_key q key ≡ true → filter (stands_at q) (rows_under s key) ≡ []
  none_under s (keys.Single place) other =
      filter-none (stands_at q) (λ (row : Row). stands_at place row && not (is_first_at place row.value))
      (λ row there. ap (λ (b : Bool). b && not (is_first_at place row.value)) (not_there place other row there)) s.rows
  none_under s (keys.Items fabric place) other =
      filter-none (stands_at q) (is_at place fabric) (λ row there. ap (λ (b : Bool). b && row.fabric == fabric) (not_there place other row there)) s.rows
  none_under s key other = refl

  none_kept : (s : NodeState) (some : List Key) → list_all (other_key q) some ≡ true → filter (stands_at q) (flat_map (rows_under s) some) ≡ []
  none_kept s [] others = refl
  none_kept s (key ∷ some) others =
      let both = and_parts (other_key q key) (list_all (other_key q) some) others in
      filter-append (stands_at q) (rows_under s key) (flat_map (rows_under s) some)
      ∙ (λ i. none_under s key both.0 i ++ none_kept s some both.1 i)

  -- The rows of a place of which nothing is kept.

  abbrev first_if : Place → List Row
  first_if place = if same_place place q then filter (mine q) (filter (stands_at q) first_rows) else []

  module _ (kept : List Row) (none : filter (stands_at q) kept ≡ []) where
    rows_elsewhere : (place : Place) (rows : List Row) → not (same_place place q) ≡ true → filter (mine q) (filter (stands_at place) rows) ≡ []
    rows_elsewhere place rows other = filter-none (mine q) (stands_at place) (λ row its. not_there place other row (and_parts (same_place row.place q) (row.fabric == 0) its).0) rows

    first_elsewhere : (place : Place) (rows : List Row) → not (same_place place q) ≡ true → filter (mine q) rows ≡ [] → filter (mine q) (or_first place rows) ≡ []
    first_elsewhere place [] other none_there = rows_elsewhere place first_rows other
    first_elsewhere place (row ∷ rows) other none_there = none_there

    gathered_at : (place : Place) → filter (mine q) (rows_at kept place) ≡ first_if place
    gathered_at place = elim (cases_Bool (same_place place q)) [
      | inl here ↦ rw here (subst (λ (p : Place). filter (mine q) (rows_at kept p) ≡ filter (mine q) (filter (stands_at q) first_rows)) (sym (place-same place q here)) (ap (λ (rows : List Row). filter (mine q) (or_first q rows)) none))
      | inr other ↦ rw other (first_elsewhere place (filter (stands_at place) kept) (ap not other) (rows_elsewhere place kept (ap not other)))
    ]

    gathered : (places : List Place) → filter (mine q) (flat_map (rows_at kept) places) ≡ flat_map first_if places
    gathered [] = refl
    gathered (place ∷ places) = filter-append (mine q) (rows_at kept place) (flat_map (rows_at kept) places) ∙ (λ i. gathered_at place i ++ gathered places i)

  -- so behind a reopening
  reopened_rows : (sessions : List SessionRow) (ceiling : ℕ) (s : NodeState) → list_all (other_key q) all_keys ≡ true → rows_of_nobody (reopened_node sessions ceiling s) q ≡ flat_map first_if stored_places
  reopened_rows sessions ceiling s others =
      let rolled_state = rollback (state_of (kept_of s ceiling)) in
      gathered (flat_map (rows_under rolled_state) all_keys) (none_kept rolled_state all_keys others) stored_places

first_window : window_of (flat_map (first_if (window_at 0)) stored_places) (flat_map (first_if (window_at window_end)) stored_places) ≡ closed
unfolding attributes_of clusters_of endpoints extensions_of globals
first_window = refl

-- No window is open behind a reopening.
pub reopenings_close : (sessions : List SessionRow) (w : Whole) → window_in (reopenings.reopened sessions w).state.node ≡ closed
reopenings_close sessions w =
    (λ i. window_of (reopened_rows (window_at 0) sessions (reopenings.ceiling_of w) w.state.node status_not_kept i) (reopened_rows (window_at window_end) sessions (reopenings.ceiling_of w) w.state.node end_not_kept i))
    ∙ first_window
