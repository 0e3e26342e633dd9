-- What steps make of the rows of nobody at a place, told of the steps alone.
use Rattle.std.proofs.Common.{◌≡◌, ℕ, ◌==◌, ◌&&◌, ◌++◌, not, is_none, Bool, true, false, List, [], ◌∷◌, Option, Some, None, refl, ap, ◌∙◌, subst, filter, map, if◌then◌else◌}
use Rattle.std.proofs.lemmas.Bool.{and_parts}
use Rattle.std.specs.List.{list_all}
use Rattle.mt_fabrics.specs.Table.{is_used, label_refusal}
use Rattle.mt_failsafe.specs.Notes as notes
use Rattle.mt_tlv.specs.declared.value.Value.{Value}
use Rattle.mt_tlv.specs.declared.value.Value.TheVariants as values
use Rattle.mt_model.specs.rows.Order.{are_ascending, row_at}
use Rattle.mt_model.specs.rows.Setting.{is_above, is_at, is_below, with_rows}
use Rattle.mt_model.specs.rows.Sight.{same_place}
use Rattle.mt_model.specs.tables.Leaving.{stays}
use Rattle.mt_model.specs.declared.node.action.NodeStep.{NodeStep}
use Rattle.mt_model.specs.declared.node.action.NodeStep.TheVariants.{SetRow, Expire, Complete, AddRoot, Csr, AddFabric, UpdateFabric, RemoveFabric, Label}
use Rattle.mt_model.specs.declared.node.state.NodeState.{NodeState}
use Rattle.mt_model.specs.declared.rows.place.Place.{Place}
use Rattle.mt_model.specs.declared.rows.place.Row.{Row}
use Rattle.mt_model.specs.declared.tables.access.Actor.{Actor}
use Rattle.mt_model.specs.declared.tables.network.Armed.{Armed}
use Rattle.mt_machine.specs.Effects.{after, after_all, completed, may_join, may_leave, may_update, without_fabric}
use Rattle.mt_machine.specs.Laws.{StepsStayValid}
use Rattle.mt_machine.specs.Rollback.{breadcrumb, rolled_back}
use Rattle.mt_machine.specs.State.{IsValid, is_added, is_among, is_updated, keeps_facts}
use Rattle.mt_machine.specs.Taking.{may_take, may_take_all}
use Rattle.mt_windows.proofs.Rows.{is_its, kept_there, member_stays, mine, set_elsewhere, set_there}

-- these rows behind a step, and behind several

abbrev pub told : Place → NodeStep → List Row → List Row
told q (SetRow place whose vs) rows = if is_its q place whose then map (row_at q 0) vs else rows
told q step rows = rows

abbrev pub told_all : Place → List NodeStep → List Row → List Row
told_all q [] rows = rows
told_all q (step ∷ steps) rows = told_all q steps (told q step rows)

-- a step that sets others
abbrev pub spares : Place → NodeStep → Bool
spares q (SetRow place whose vs) = not (is_its q place whose)
spares q step = true

spared : (q : Place) (step : NodeStep) (rows : List Row) → spares q step ≡ true → told q step rows ≡ rows
spared q (SetRow place whose vs) rows spare = by (is_its q place whose) spare
  where
    by : (its : Bool) → not its ≡ true → (if its then map (row_at q 0) vs else rows) ≡ rows
    by true spare_it = absurd cc
    by false spare_it = refl
spared q step rows spare = refl

pub all_spared : (q : Place) (steps : List NodeStep) (rows : List Row) → list_all (spares q) steps ≡ true → told_all q steps rows ≡ rows
all_spared q [] rows spare = refl
all_spared q (step ∷ steps) rows spare =
    let both = and_parts (spares q step) (list_all (spares q) steps) spare in
    all_spared q steps (told q step rows) both.1 ∙ spared q step rows both.0

-- What they make of the state.

-- a state that is another where a test passes, with the same rows
if_same : (test : Bool) (s t : NodeState) → t.rows ≡ s.rows → (if test then t else s).rows ≡ s.rows
if_same true s t same = same
if_same false s t same = refl

completed_rows : (armed : Option Armed) (s : NodeState) → (completed armed s).rows ≡ s.rows
completed_rows None s = refl
completed_rows (Some armed) s = refl

module _
    (ordered : (rows : List Row) (place : Place) (fabric : ℕ) → are_ascending rows ≡ true → filter (is_below place fabric) rows ++ filter (is_above place fabric) rows ≡ filter (λ (row : Row). not (is_at place fabric row)) rows)
    (rows_stay : (keep : Row → Bool) (rows : List Row) → are_ascending rows ≡ true → are_ascending (filter keep rows) ≡ true)
    (valid_behind : StepsStayValid)
    (q : Place) (apart : same_place breadcrumb q ≡ false)
  where
    set_by : (place : Place) (whose : ℕ) (vs : List Value) (rows : List Row) → are_ascending rows ≡ true → (its : Bool) → is_its q place whose ≡ its → filter (mine q) (with_rows place whose vs rows) ≡ (if its then map (row_at q 0) vs else filter (mine q) rows)
    set_by place whose vs rows up true its = set_there q place whose vs rows its
    set_by place whose vs rows up false other = set_elsewhere ordered q place whose vs rows up other

    added_facts : (s : NodeState) (armed : Armed) → IsValid s → s.armed ≡ Some armed → is_added s.fabrics armed armed.added ≡ true
    added_facts s armed valid is =
        (and_parts (is_added s.fabrics armed armed.added) (is_updated s.fabrics armed armed.added armed.updated)
        (subst (λ (a : Option Armed). keeps_facts s.fabrics a ≡ true) is valid.failsafe_facts)).0

    nobody_stays : (s : NodeState) (armed : Armed) (added : Option ℕ) → IsValid s → is_added s.fabrics armed added ≡ true → stays added 0 ≡ true
    nobody_stays s armed None valid is = refl
    nobody_stays s armed (Some index) valid is = member_stays s.fabrics index valid.fabrics_rise (and_parts (armed.context == index) (is_among s.fabrics index) is).1

    rolled_rows : (s : NodeState) (armed : Option Armed) → IsValid s → s.armed ≡ armed → filter (mine q) (rolled_back armed s).rows ≡ filter (mine q) s.rows
    rolled_rows s None valid is = refl
    rolled_rows s (Some armed) valid is =
        set_elsewhere ordered q breadcrumb 0 (values.Uint 0 ∷ []) (filter (λ (row : Row). stays armed.added row.fabric) s.rows)
        (rows_stay (λ (row : Row). stays armed.added row.fabric) s.rows valid.rows_rise) (ap (λ (b : Bool). b && true) apart)
        ∙ kept_there q armed.added s.rows (nobody_stays s armed armed.added valid (added_facts s armed valid is))

    left_by : (index : ℕ) (s : NodeState) (may : Bool) → IsValid s → may_leave index s ≡ may → filter (mine q) (without_fabric index s).rows ≡ filter (mine q) s.rows
    left_by index s true valid may = rw may (kept_there q (Some index) s.rows (member_stays s.fabrics index valid.fabrics_rise (and_parts (is_used index s.fabrics) _ may).0))
    left_by index s false valid may = rw may refl

    behind_one : (asker : Option Actor) (step : NodeStep) (s : NodeState) → IsValid s → filter (mine q) (after asker step s).rows ≡ told q step (filter (mine q) s.rows)
    behind_one asker (SetRow place whose vs) s valid = set_by place whose vs s.rows valid.rows_rise (is_its q place whose) refl
    behind_one asker Expire s valid = rolled_rows s s.armed valid refl
    behind_one asker Complete s valid = ap (filter (mine q)) (completed_rows s.armed s)
    behind_one asker (AddRoot cert) s valid = ap (filter (mine q)) (if_same (notes.may_note_root s.armed) s _ refl)
    behind_one asker (Csr nonce update) s valid = ap (filter (mine q)) (if_same (notes.may_note_csr update s.armed) s _ refl)
    behind_one asker (AddFabric new) s valid = ap (filter (mine q)) (if_same (may_join new s) s _ refl)
    behind_one asker (UpdateFabric index given) s valid = ap (filter (mine q)) (if_same (may_update index given s) s _ refl)
    behind_one asker (RemoveFabric index) s valid = left_by index s (may_leave index s) valid refl
    behind_one asker (Label index label) s valid = ap (filter (mine q)) (if_same (is_none (label_refusal index label s.fabrics)) s _ refl)
    behind_one asker step s valid = refl

    pub behind_all : (asker : Option Actor) (steps : List NodeStep) (s : NodeState) → IsValid s → may_take_all asker steps s ≡ true → filter (mine q) (after_all asker steps s).rows ≡ told_all q steps (filter (mine q) s.rows)
    behind_all asker [] s valid may = refl
    behind_all asker (step ∷ steps) s valid may =
        let both = and_parts (may_take s step) (may_take_all asker steps (after asker step s)) may in
        behind_all asker steps (after asker step s) (valid_behind asker step s valid both.0) both.1
        ∙ ap (told_all q steps) (behind_one asker step s valid)
