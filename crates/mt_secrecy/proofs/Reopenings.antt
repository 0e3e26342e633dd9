-- Masking commutes with what a loss of power makes of the node.
use Rattle.std.proofs.Common.{◌≡◌, ℕ, ◌+◌, ◌==◌, ◌&&◌, not, inl, inr, Bool, true, false, List, [], ◌∷◌, ◌++◌, Option, Some, None, refl, sym, ap, ◌∙◌, filter, map}
use Rattle.std.proofs.lemmas.Bool.{and_parts, cases_Bool, cond_both, eqb-true}
use Rattle.std.proofs.lemmas.List.{map-append}
use Rattle.std.specs.List.{flat_map}
use Rattle.mt_tlv.specs.declared.value.Value.{Value}
use Rattle.mt_tlv.specs.declared.value.Value.TheVariants as values
use Rattle.mt_grammar.specs.Values.{is_first_at}
use Rattle.mt_grammar.specs.declared.keys.Key.{Key}
use Rattle.mt_grammar.specs.declared.keys.Key.TheVariants as keys
use Rattle.mt_grammar.specs.declared.kept.MapContents.{MapContents}
use Rattle.mt_lasting.specs.Contents.{kept_of, rows_under}
use Rattle.mt_lasting.specs.Keys.{all_keys}
use Rattle.mt_meta.specs.Stored.{first_rows}
use Rattle.mt_meta.specs.Table.{attributes_of, clusters_of, endpoints, extensions_of, globals}
use Rattle.mt_model.specs.rows.Setting.{is_above, is_below, with_rows}
use Rattle.mt_model.specs.rows.Sight.{same_place, stands_at}
use Rattle.mt_model.specs.rows.Stored.{stored_places}
use Rattle.mt_model.specs.tables.KeySets.{key_sets}
use Rattle.mt_model.specs.tables.Leaving.{stays}
use Rattle.mt_model.specs.declared.node.state.NodeState.{NodeState}
use Rattle.mt_model.specs.declared.rows.place.Place.{Place}
use Rattle.mt_model.specs.declared.rows.place.Row.{Row}
use Rattle.mt_model.specs.declared.tables.network.Armed.{Armed}
use Rattle.mt_model.specs.declared.texts.config.SessionRow.{SessionRow}
use Rattle.mt_machine.specs.Opened.{begun_with}
use Rattle.mt_machine.specs.Rollback.{breadcrumb, rollback, rolled_back, undone}
use Rattle.mt_regained.specs.Regained.{or_first, rows_at, state_of}
use Rattle.mt_regained.specs.Reopening.{reopened_node}
use Rattle.mt_regained.specs.Rolled.{ceiling_of, rolled}
use Rattle.mt_masks.specs.Masking.{masked_node, masked_row, masked_set}

-- Those of which something is true that masking leaves true.
filtered : (p : Row → Bool) → ((row : Row) → p (masked_row row) ≡ p row) → (rows : List Row) → filter p (map masked_row rows) ≡ map masked_row (filter p rows)
filtered p same [] = refl
filtered p same (row ∷ rows) = elim (cases_Bool (p row)) [
  | inl passes ↦ let so = same row ∙ passes in rw (so, passes) (ap (λ (xs : List Row). masked_row row ∷ xs) (filtered p same rows))
  | inr fails ↦ let so = same row ∙ fails in rw (so, fails) (filtered p same rows)
]

-- it hangs on the place and the fabric
by_place : (P : Place → ℕ → Bool) (rows : List Row) → filter (λ (row : Row). P row.place row.fabric) (map masked_row rows) ≡ map masked_row (filter (λ (row : Row). P row.place row.fabric) rows)
by_place P rows = filtered (λ (row : Row). P row.place row.fabric) (λ row. refl) rows

-- Rows of many keys.

mapped : {A : Type 0} (f g : A → List Row) → ((x : A) → g x ≡ map masked_row (f x)) → (xs : List A) → flat_map g xs ≡ map masked_row (flat_map f xs)
mapped f g same [] = refl
mapped f g same (x ∷ xs) = (λ i. same x i ++ mapped f g same xs i) ∙ sym (map-append masked_row (f x) (flat_map f xs))

-- A ROLLBACK.

appended : (a b c : List Row) → map masked_row a ++ (map masked_row b ++ map masked_row c) ≡ map masked_row (a ++ (b ++ c))
appended a b c = ap (λ (xs : List Row). map masked_row a ++ xs) (sym (map-append masked_row b c)) ∙ sym (map-append masked_row a (b ++ c))

breadcrumb_set : (rows : List Row) → with_rows breadcrumb 0 (values.Uint 0 ∷ []) (map masked_row rows) ≡ map masked_row (with_rows breadcrumb 0 (values.Uint 0 ∷ []) rows)
breadcrumb_set rows =
    (λ i. filtered (is_below breadcrumb 0) (λ row. refl) rows i
    ++ (record { place = breadcrumb; fabric = 0; value = values.Uint 0 } ∷ filtered (is_above breadcrumb 0) (λ row. refl) rows i))
    ∙ appended (filter (is_below breadcrumb 0) rows) (record { place = breadcrumb; fabric = 0; value = values.Uint 0 } ∷ []) (filter (is_above breadcrumb 0) rows)

rolled_masked : (armed : Option Armed) (s : NodeState) → rolled_back armed (masked_node s) ≡ masked_node (rolled_back armed s)
rolled_masked None s = refl
rolled_masked (Some armed) s = λ i. record (undone armed s) {
  rows = (ap (with_rows breadcrumb 0 (values.Uint 0 ∷ [])) (by_place (λ place fabric. stays armed.added fabric) s.rows) ∙ breadcrumb_set (filter (λ (row : Row). stays armed.added row.fabric) s.rows)) i;
}

pub rollback_masked : (s : NodeState) → rollback (masked_node s) ≡ masked_node (rollback s)
rollback_masked s = rolled_masked s.armed s

-- What is kept.

abbrev masked_kept : MapContents → MapContents
masked_kept kept = record kept { rows = map masked_row kept.rows }

-- nothing is first at the place of key sets, which is no attribute's
none_first : (value : Value) → is_first_at key_sets value ≡ false
unfolding endpoints clusters_of attributes_of globals extensions_of
none_first value = refl

place_same : (p q : Place) → same_place p q ≡ true → p ≡ q
place_same p q same =
    let outer = and_parts (p.endpoint == q.endpoint) (p.cluster == q.cluster && p.leaf == q.leaf) same in
    let inner = and_parts (p.cluster == q.cluster) (p.leaf == q.leaf) outer.1 in
    let endpoint = eqb-true p.endpoint q.endpoint outer.0 in
    let cluster = eqb-true p.cluster q.cluster inner.0 in
    let leaf = eqb-true p.leaf q.leaf inner.1 in
    λ i. record { endpoint = endpoint i; cluster = cluster i; leaf = leaf i }

-- so masking does not change whether a row is as it first is
first_same : (place : Place) (row : Row) → stands_at place row ≡ true → is_first_at place (masked_row row).value ≡ is_first_at place row.value
first_same place row here =
    cond_both (same_place row.place key_sets) (masked_set row.value) row.value (λ (value : Value). is_first_at place value ≡ is_first_at place row.value)
    (λ is.
    let there : place ≡ key_sets = sym (place_same row.place place here) ∙ place_same row.place key_sets is in
    ap (λ (p : Place). is_first_at p (masked_set row.value)) there ∙ none_first (masked_set row.value) ∙ sym (none_first row.value) ∙ ap (λ (p : Place). is_first_at p row.value) (sym there))
    (λ other. refl)

single_same : (place : Place) (row : Row) → (stands_at place (masked_row row) && not (is_first_at place (masked_row row).value)) ≡ (stands_at place row && not (is_first_at place row.value))
single_same place row =
    elim (cases_Bool (stands_at place row)) [
      | inl here ↦ rw here (ap not (first_same place row here))
      | inr elsewhere ↦ rw elsewhere refl
    ]

under_masked : (s : NodeState) (key : Key) → rows_under (masked_node s) key ≡ map masked_row (rows_under s key)
under_masked s (keys.Single place) = filtered (λ (row : Row). stands_at place row && not (is_first_at place row.value)) (single_same place) s.rows
under_masked s (keys.Items fabric place) = by_place (λ p f. same_place p place && f == fabric) s.rows
under_masked s keys.Boot = refl
under_masked s keys.Ceiling = refl
under_masked s (keys.Fabric index) = refl
under_masked s keys.Roots = refl
under_masked s keys.Networks = refl
under_masked s keys.Failsafe = refl

kept_masked : (s : NodeState) (ceiling : ℕ) → kept_of (masked_node s) ceiling ≡ masked_kept (kept_of s ceiling)
kept_masked s ceiling = λ i. record (kept_of s ceiling) { rows = mapped (rows_under s) (rows_under (masked_node s)) (under_masked s) all_keys i }

-- What is regained of it.

first_masked : map masked_row first_rows ≡ first_rows
unfolding endpoints clusters_of attributes_of globals extensions_of
first_masked = refl

or_first_masked : (place : Place) (rows : List Row) → or_first place (map masked_row rows) ≡ map masked_row (or_first place rows)
or_first_masked place [] = ap (filter (stands_at place)) (sym first_masked) ∙ by_place (λ p f. same_place p place) first_rows
or_first_masked place (row ∷ rows) = refl

at_masked : (rows : List Row) (place : Place) → rows_at (map masked_row rows) place ≡ map masked_row (rows_at rows place)
at_masked rows place = ap (or_first place) (by_place (λ p f. same_place p place) rows) ∙ or_first_masked place (filter (stands_at place) rows)

state_masked : (kept : MapContents) → state_of (masked_kept kept) ≡ masked_node (state_of kept)
state_masked kept = λ i. record (state_of kept) { rows = mapped (rows_at kept.rows) (rows_at (map masked_row kept.rows)) (at_masked kept.rows) stored_places i }

rolled_kept : (kept : MapContents) → rolled (masked_kept kept) ≡ masked_kept (rolled kept)
rolled_kept kept =
    ap (λ (s : NodeState). kept_of (rollback s) (ceiling_of kept)) (state_masked kept)
    ∙ ap (λ (s : NodeState). kept_of s (ceiling_of kept)) (rollback_masked (state_of kept))
    ∙ kept_masked (rollback (state_of kept)) (ceiling_of kept)

-- THE NODE REOPENED
pub reopened_masked : (sessions : List SessionRow) (ceiling : ℕ) (s : NodeState) → reopened_node sessions ceiling (masked_node s) ≡ masked_node (reopened_node sessions ceiling s)
reopened_masked sessions ceiling s =
    let boot = s.boot + 1 in
    ap (λ (kept : MapContents). begun_with boot sessions (state_of (rolled kept))) (kept_masked s ceiling)
    ∙ ap (λ (kept : MapContents). begun_with boot sessions (state_of kept)) (rolled_kept (kept_of s ceiling))
    ∙ ap (begun_with boot sessions) (state_masked (rolled (kept_of s ceiling)))
