-- A fabric's own rows, which a loss of power leaves as they are.
use Rattle.std.proofs.Common.{◌≡◌, ◌∙◌, refl, sym, ap, subst, ℕ, inl, inr, ◌&&◌, ◌==◌, is_ok, not, nat_le, Bool, true, false, List, [], ◌∷◌, Option, Some, None, Result, Ok, Err, filter, arith, if◌then◌else◌}
use Rattle.std.proofs.lemmas.Bool.{and_from, and_parts, both_ways, cases_Bool, eq-eqb, eqb-true, false_from_ne_true, not-true, or_cases}
use Rattle.std.proofs.lemmas.Bool.Decides.{nat_tests}
use Rattle.std.specs.List.{list_all, list_any}
use Rattle.mt_failsafe.specs.Notes.{was_added}
use Rattle.mt_fabrics.specs.Table.{has_index_up_to}
use Rattle.mt_fabrics.specs.Table as table
use Rattle.mt_meta.specs.Finding.{find_data_of}
use Rattle.mt_meta.specs.Forms.{has_form}
use Rattle.mt_meta.specs.Places.{ascend, data_places}
use Rattle.mt_meta.specs.Stored.{is_stored}
use Rattle.mt_meta.specs.Table.{all_data_of, attributes_of, clusters_of, endpoints, extensions_of, globals}
use Rattle.mt_meta.specs.declared.meta.Meta.{Meta}
use Rattle.mt_model.specs.rows.Setting.{is_at}
use Rattle.mt_model.specs.rows.Sight.{same_place}
use Rattle.mt_model.specs.tables.Leaving.{stays}
use Rattle.mt_model.specs.declared.limits.TheConstants.{FABRICS}
use Rattle.mt_model.specs.declared.messages.status.Status.{Status}
use Rattle.mt_model.specs.declared.node.state.NodeState.{NodeState}
use Rattle.mt_model.specs.declared.rows.place.Place.{Place}
use Rattle.mt_model.specs.declared.rows.place.Row.{Row}
use Rattle.mt_model.specs.declared.tables.fabric.Fabric.{Fabric}
use Rattle.mt_model.specs.declared.tables.network.Armed.{Armed}
use Rattle.mt_model.specs.declared.texts.config.SessionRow.{SessionRow}
use Rattle.mt_grammar.specs.Keys.{is_index}
use Rattle.mt_grammar.specs.declared.kept.MapContents.{MapContents}
use Rattle.mt_grammar.specs.declared.keys.Key.TheVariants as keys
use Rattle.mt_machine.specs.Expiries.{RollbacksLeave, is_breadcrumb}
use Rattle.mt_machine.specs.Isolation.{owns}
use Rattle.mt_machine.specs.Laws.{RollsBackValid}
use Rattle.mt_machine.specs.Rollback.{breadcrumb, rollback}
use Rattle.mt_machine.specs.State.{IsValid, is_among, is_row, is_row_at, is_row_of}
use Rattle.mt_lasting.specs.Contents.{durable, kept_of}
use Rattle.mt_lasting.specs.Keys.{item_places}
use Rattle.mt_regained.specs.Laws.{DurableIsKept, KeptAgain, StatesAreValid}
use Rattle.mt_regained.specs.Regained.{state_of}
use Rattle.mt_regained.specs.Reopening.{ReopeningsSeeTheOwn, reopened_node}
use Rattle.mt_regained.proofs.Again.{flat-same}
use Rattle.mt_regained.proofs.BehindRollbacks.{none_below, stays_other}
use Rattle.mt_regained.proofs.DurableAgain.{same_under}
use Rattle.mt_regained.proofs.Gathering.{IsAmong, gathered, of_places, passes_at}
use Rattle.mt_regained.proofs.KeyBytes.{items_in_all}
use Rattle.mt_regained.proofs.Lists.{Each, IsIn, each-all, filter-none, filter-stronger, in-any, tested}
use Rattle.mt_regained.proofs.OwnTables.{armed_again, own_left}
use Rattle.mt_regained.proofs.Places.{listed, place-same}
use Rattle.mt_regained.proofs.Read.{place-itself}
use Rattle.mt_regained.proofs.Regaining.{unarmed_stays}
use Rattle.mt_regained.proofs.Standing.{key_at}

-- The stored places whose rows are of fabrics are those with items.

is_scoped_in : Result Meta Status → Bool
is_scoped_in (Ok meta) = meta.scoped
is_scoped_in (Err status) = false

scoped_known : Place → Bool
scoped_known place = if is_stored place && is_scoped_in (find_data_of place) then list_any (same_place place) item_places else true

all_scoped_known : list_all scoped_known data_places ≡ true
unfolding is_scoped_in scoped_known endpoints clusters_of attributes_of globals extensions_of is_stored
all_scoped_known = refl

scoped_listed : (place : Place) (meta : Meta) → find_data_of place ≡ Ok meta → is_stored place ≡ true → meta.scoped ≡ true → IsIn place item_places
unfolding is_scoped_in scoped_known
scoped_listed place meta is stored scoped =
    let there = listed all_data_of place (ap is_ok is) in
    let kept : (is_stored place && is_scoped_in (find_data_of place)) ≡ true = and_from _ _ stored (ap is_scoped_in is ∙ scoped) in
    let known : scoped_known place ≡ true = tested scoped_known data_places all_scoped_known place there in
    let among : list_any (same_place place) item_places ≡ true = rw kept at known in
    in-any (same_place place) place (place-same place) item_places among

items_ascend : ascend item_places ≡ true
items_ascend = refl

-- A row of a fabric's own stands there, and the fabric is in the table.

module _ (fabrics : List Fabric) (fabric : ℕ) (row : Row) (mine : owns fabric row ≡ true) where
  its_own : (row.fabric == fabric) ≡ true
  its_own = (and_parts (row.fabric == fabric) (not (row.fabric == 0)) mine).0

  somebodys : (row.fabric == 0) ≡ false
  somebodys = not-true (row.fabric == 0) (and_parts (row.fabric == fabric) (not (row.fabric == 0)) mine).1

  of_found : (found : Result Meta Status) → find_data_of row.place ≡ found → is_stored row.place ≡ true → is_row_at fabrics row found ≡ true → IsIn row.place item_places × (is_among fabrics fabric ≡ true)
  of_found (Err status) is stored stands = absurd cc
  of_found (Ok meta) is stored stands =
      let owner : is_row_of fabrics meta.scoped row.fabric ≡ true = (and_parts (has_form meta row.fabric row.value) (is_row_of fabrics meta.scoped row.fabric) stands).1 in
      elim (cases_Bool meta.scoped) [
        | inl scoped ↦
            let used : is_among fabrics row.fabric ≡ true = rw scoped at owner in
            (scoped_listed row.place meta is stored scoped, subst (λ (n : ℕ). is_among fabrics n ≡ true) (eqb-true row.fabric fabric its_own) used)
        | inr plain ↦
            let none : (row.fabric == 0) ≡ true = rw plain at owner in
            absurd (both_ways (row.fabric == 0) somebodys none)
      ]

  own_row : is_row fabrics row ≡ true → IsIn row.place item_places × (is_among fabrics fabric ≡ true)
  own_row stands =
      let both = and_parts (is_stored row.place) (is_row_at fabrics row (find_data_of row.place)) stands in
      of_found (find_data_of row.place) refl both.0 both.1

all_among : (fabrics : List Fabric) (fabric : ℕ) (rows : List Row) → list_all (is_row fabrics) rows ≡ true → Each (IsAmong (owns fabric) item_places) rows
all_among fabrics fabric [] all = refl
all_among fabrics fabric (row ∷ rows) all =
    let both = and_parts (is_row fabrics row) (list_all (is_row fabrics) rows) all in
    (λ mine. (own_row fabrics fabric row mine both.0).0, all_among fabrics fabric rows both.1)

index_up_to : (most index : ℕ) (fabrics : List Fabric) → list_all (has_index_up_to most) fabrics ≡ true → table.is_used index fabrics ≡ true → nat_le index most ≡ true
index_up_to most index [] all used = absurd cc
index_up_to most index (fabric ∷ fabrics) all used =
    let both = and_parts (has_index_up_to most fabric) (list_all (has_index_up_to most) fabrics) all in
    elim (or_cases (fabric.index == index) (table.is_used index fabrics) used) [
      | inl here ↦ subst (λ (n : ℕ). nat_le n most ≡ true) (eqb-true fabric.index index here) both.0
      | inr later ↦ index_up_to most index fabrics both.1 later
    ]

module _ (s : NodeState) (valid : IsValid s) where
  -- what is in the table has an index that there may be
  index_among : (fabric : ℕ) → is_among s.fabrics fabric ≡ true → is_index fabric ≡ true
  index_among fabric among = and_from _ _ least (index_up_to FABRICS fabric s.fabrics valid.indexes among)
    where
      least : nat_le 1 fabric ≡ true
      least = elim (cases_Bool (fabric == 0)) [
        | inl none ↦ absurd (none_below fabric 0 s.fabrics (omega (arith, eqb-true fabric 0 none)) valid.fabrics_rise among)
        | inr some ↦ grind (arith, nat_tests, some)
      ]

  none_own : (fabric : ℕ) → is_index fabric ≡ false → filter (owns fabric) s.rows ≡ []
  none_own fabric none = filter-none (is_row s.fabrics) (owns fabric) apart s.rows valid.row_forms
    where
      apart : (row : Row) → is_row s.fabrics row ≡ true → owns fabric row ≡ false
      apart row stands = false_from_ne_true (owns fabric row) (λ mine. both_ways (is_index fabric) none (index_among fabric (own_row s.fabrics fabric row mine stands).1))

  own_gathered : (fabric : ℕ) → filter (owns fabric) s.rows ≡ of_places (owns fabric) s.rows item_places
  own_gathered fabric = gathered (owns fabric) item_places s.rows items_ascend valid.rows_rise (all_among s.fabrics fabric s.rows valid.row_forms)

-- A row of a fabric's own at a place is one of the fabric there.
own_at : (fabric : ℕ) (place : Place) (row : Row) → passes_at (owns fabric) place row ≡ true → is_at place fabric row ≡ true
own_at fabric place row passes =
    let both = and_parts (same_place row.place place) (owns fabric row) passes in
    and_from _ _ both.0 (and_parts (row.fabric == fabric) (not (row.fabric == 0)) both.1).0

-- Behind a rollback a fabric that was not added has the same rows.

rolled_where : RollbacksLeave → (s : NodeState) (fabric : ℕ) → IsValid s → (armed : Option Armed) → s.armed ≡ armed → was_added fabric armed ≡ false → filter (owns fabric) (rollback s).rows ≡ filter (owns fabric) s.rows
rolled_where leave s fabric valid None is other = ap (λ (t : NodeState). filter (owns fabric) t.rows) (unarmed_stays s is)
rolled_where leave s fabric valid (Some armed) is other =
    let left = leave s armed valid is in
    let others : Row → Bool = λ row. not (is_breadcrumb row) in
    let row_stays : Row → Bool = λ row. stays armed.added row.fabric in
    sym (filter-stronger others (owns fabric) apart (rollback s).rows)
    ∙ ap (filter (owns fabric)) left.rows
    ∙ filter-stronger others (owns fabric) apart (filter row_stays s.rows)
    ∙ filter-stronger row_stays (owns fabric) stay s.rows
  where
    apart : (row : Row) → owns fabric row ≡ true → not (is_breadcrumb row) ≡ true
    apart row mine = ap not (false_from_ne_true (is_breadcrumb row) (λ at. both_ways (row.fabric == 0) (somebodys s.fabrics fabric row mine) (and_parts (same_place row.place breadcrumb) (row.fabric == 0) at).1))

    stay : (row : Row) → owns fabric row ≡ true → stays armed.added row.fabric ≡ true
    stay row mine = stays_other armed.added fabric row.fabric other (its_own s.fabrics fabric row mine)

pub own_rows_rolled : RollbacksLeave → (s : NodeState) (fabric : ℕ) → IsValid s → was_added fabric s.armed ≡ false → filter (owns fabric) (rollback s).rows ≡ filter (owns fabric) s.rows
own_rows_rolled leave s fabric valid other = rolled_where leave s fabric valid s.armed refl other

-- The fail-safe that is regained names the same fabric as added.
added_again : (kept : MapContents) (fabric : ℕ) (armed : Option Armed) → was_added fabric (armed_again kept armed) ≡ was_added fabric armed
added_again kept fabric None = refl
added_again kept fabric (Some armed) = refl

module _ (is_kept : DurableIsKept) (are_valid : StatesAreValid) (again : KeptAgain) where
  module _ (s : NodeState) (ceiling fabric : ℕ) (valid : IsValid s) where
    abbrev behind : NodeState
    behind = state_of (kept_of s ceiling)

    behind_valid : IsValid behind
    behind_valid = are_valid (durable s 0) (kept_of s 0) (is_kept s 0 valid (omega arith))

    abbrev SameAt : Place → Type 0
    SameAt place = filter (passes_at (owns fabric) place) behind.rows ≡ filter (passes_at (owns fabric) place) s.rows

    same_at : is_index fabric ≡ true → (place : Place) → IsIn place item_places → SameAt place
    same_at index place there =
        let key = items_in_all fabric place index (inr there) in
        let at : key_at place fabric (keys.Items fabric place) ≡ true = and_from _ _ (place-itself place) (eq-eqb fabric fabric refl) in
        sym (filter-stronger (is_at place fabric) (passes_at (owns fabric) place) (own_at fabric place) behind.rows)
        ∙ ap (filter (passes_at (owns fabric) place)) (same_under is_kept are_valid again s 0 valid (omega arith) place fabric (keys.Items fabric place) key at)
        ∙ filter-stronger (is_at place fabric) (passes_at (owns fabric) place) (own_at fabric place) s.rows

    -- What is kept of a valid state stands for one with the same rows of a fabric's own.
    pub own_rows_regained : filter (owns fabric) behind.rows ≡ filter (owns fabric) s.rows
    own_rows_regained = elim (cases_Bool (is_index fabric)) [
      | inl index ↦
          own_gathered behind behind_valid fabric
          ∙ flat-same (λ (place : Place). filter (passes_at (owns fabric) place) behind.rows) (λ (place : Place). filter (passes_at (owns fabric) place) s.rows) item_places (each-all SameAt item_places (same_at index))
          ∙ sym (own_gathered s valid fabric)
      | inr none ↦ none_own behind behind_valid fabric none ∙ sym (none_own s valid fabric none)
    ]

  -- A reopened node has the same, where the fabric was not added under the fail-safe.
  pub own_rows_reopened : RollsBackValid → RollbacksLeave → (sessions : List SessionRow) (ceiling fabric : ℕ) (s : NodeState) → IsValid s → was_added fabric s.armed ≡ false
      → filter (owns fabric) (reopened_node sessions ceiling s).rows ≡ filter (owns fabric) s.rows
  own_rows_reopened back leave sessions ceiling fabric s valid old =
      let before : NodeState = state_of (kept_of s ceiling) in
      let its : IsValid before = behind_valid s ceiling fabric valid in
      own_rows_regained (rollback before) ceiling fabric (back before its)
      ∙ own_rows_rolled leave before fabric its (added_again (kept_of s ceiling) fabric s.armed ∙ old)
      ∙ own_rows_regained s ceiling fabric valid

  -- So all that is left of the fabric's own part is made of it.
  pub sees_the_own : RollsBackValid → RollbacksLeave → ReopeningsSeeTheOwn
  sees_the_own back leave sessions ceiling fabric s valid some member old =
      own_left is_kept are_valid back sessions ceiling fabric s valid some old (own_rows_reopened back leave sessions ceiling fabric s valid old)
