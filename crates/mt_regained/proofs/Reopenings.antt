-- The reopened node: who is in its table, that it is valid, and what is kept of it.
use Rattle.std.proofs.Common.{◌≡◌, ◌∙◌, refl, sym, ap, ℕ, ◌+◌, inl, inr, ◌==◌, ◌&&◌, not, Bool, true, false, List, [], ◌∷◌, ◌++◌, Option, Some, None, filter, map, arith}
use Rattle.std.proofs.lemmas.Bool.{and_from, and_right, cases_Bool, eq-eqb, eqb-true}
use Rattle.std.specs.List.{flat_map, list_any}
use Rattle.mt_tlv.specs.declared.value.Value.TheVariants as values
use Rattle.mt_failsafe.specs.Notes.{was_added}
use Rattle.mt_fabrics.specs.Table.{has_index}
use Rattle.mt_model.specs.Optional.{is_that}
use Rattle.mt_model.specs.rows.Order.{row_at}
use Rattle.mt_model.specs.rows.Setting.{is_above, is_at, is_below, with_rows}
use Rattle.mt_model.specs.rows.Sight.{stands_at}
use Rattle.mt_model.specs.tables.Leaving.{stays}
use Rattle.mt_model.specs.declared.node.state.NodeState.{NodeState}
use Rattle.mt_model.specs.declared.rows.place.Row.{Row}
use Rattle.mt_model.specs.declared.tables.access.AclEntry.{AclEntry}
use Rattle.mt_model.specs.declared.tables.fabric.Credentials.{Credentials}
use Rattle.mt_model.specs.declared.tables.fabric.Fabric.{Fabric}
use Rattle.mt_model.specs.declared.tables.network.Armed.{Armed}
use Rattle.mt_model.specs.declared.texts.config.SessionRow.{SessionRow}
use Rattle.mt_grammar.specs.Values.{is_first_at}
use Rattle.mt_grammar.specs.declared.kept.MapContents.{MapContents}
use Rattle.mt_grammar.specs.declared.keys.Key.{Key}
use Rattle.mt_grammar.specs.declared.keys.Key.TheVariants as keys
use Rattle.mt_machine.specs.Laws.{RollsBackValid}
use Rattle.mt_machine.specs.Rollback.{breadcrumb, fabrics_behind, given_back, rollback, rolled_back, roots_behind}
use Rattle.mt_machine.specs.State.{IsValid}
use Rattle.mt_lasting.specs.Contents.{durable, kept_of, rows_under}
use Rattle.mt_lasting.specs.Keys.{all_keys}
use Rattle.mt_regained.specs.Begun.{begun_at_boot}
use Rattle.mt_regained.specs.Laws.{BeginsValid, DurableIsKept, KeptAgain, StatesAreValid}
use Rattle.mt_regained.specs.Regained.{state_of}
use Rattle.mt_regained.specs.Reopening.{ReopeningsRollBack, ReopeningsTakeTheAdded, ReopensValid, RolledIsRollback}
use Rattle.mt_regained.proofs.Again.{flat-same}
use Rattle.mt_regained.proofs.BehindRollbacks.{given_index}
use Rattle.mt_regained.proofs.DurableAgain.{same_under}
use Rattle.mt_regained.proofs.Lists.{IsIn, each-all, filter-append}
use Rattle.mt_regained.proofs.OwnTables.{armed_again, fabrics_left, fabrics_reopened}
use Rattle.mt_regained.proofs.Read.{place-itself}
use Rattle.mt_regained.proofs.Regaining.{regained}

-- Who is in the table.

and_true : (b : Bool) → (b && true) ≡ b
and_true true = refl
and_true false = refl

module _ (fabric : ℕ) (added updated : Option ℕ) (saved : Option Credentials) where
  among_behind : (fabrics : List Fabric) → list_any (has_index fabric) (map (given_back updated saved) (filter (λ (f : Fabric). stays added f.index) fabrics)) ≡ (list_any (has_index fabric) fabrics && not (is_that fabric added))
  among_behind [] = refl
  among_behind (f ∷ fabrics) =
      let rest = among_behind fabrics in
      let same : ((given_back updated saved f).index == fabric) ≡ (f.index == fabric) = ap (λ (n : ℕ). n == fabric) (given_index updated saved f) in
      elim (cases_Bool (f.index == fabric)) [
        | inl here ↦
            let stay : stays added f.index ≡ stays added fabric = ap (stays added) (eqb-true f.index fabric here) in
            elim (cases_Bool (stays added fabric)) [
              | inl kept ↦
                  let its : stays added f.index ≡ true = stay ∙ kept in
                  rw (its, same, here, kept) refl
              | inr gone ↦
                  let its : stays added f.index ≡ false = stay ∙ gone in
                  rw its (rest ∙ and_right (list_any (has_index fabric) fabrics) (stays added fabric) gone ∙ sym (and_right (list_any (has_index fabric) (f ∷ fabrics)) (stays added fabric) gone))
            ]
        | inr other ↦ elim (cases_Bool (stays added f.index)) [
          | inl kept ↦ rw (kept, same, other) rest
          | inr gone ↦ rw (gone, other) rest
        ]
      ]

member_left : (fabric : ℕ) (armed : Option Armed) (fabrics : List Fabric) → list_any (has_index fabric) (fabrics_left armed fabrics) ≡ (list_any (has_index fabric) fabrics && not (was_added fabric armed))
member_left fabric None fabrics = sym (and_true (list_any (has_index fabric) fabrics))
member_left fabric (Some armed) fabrics = among_behind fabric armed.added armed.updated armed.saved_credentials fabrics

-- the fabrics of a reopened node are those that were there, but for the one that was added
pub takes_the_added : ReopeningsTakeTheAdded
takes_the_added sessions ceiling fabric s valid = ap (list_any (has_index fabric)) (fabrics_reopened sessions ceiling s) ∙ member_left fabric s.armed s.fabrics

-- It is valid: the state that a map stands for does not hang on the ceiling.
pub reopens_valid : DurableIsKept → BeginsValid → ReopensValid
reopens_valid is_kept begins sessions ceiling s valid fits = begins (durable s 0) (kept_of s 0) (s.boot + 1) sessions (is_kept s 0 valid (omega arith)) fits

-- What is kept of the boot that begins with what is kept of a state.

abbrev with_boot : ℕ → MapContents → MapContents
with_boot boot kept = record kept { boot = Some boot }

module _ (is_kept : DurableIsKept) (are_valid : StatesAreValid) (again : KeptAgain) where
  begun_kept : (sessions : List SessionRow) (boot ceiling : ℕ) (s : NodeState) → IsValid s → kept_of (begun_at_boot sessions boot (kept_of s ceiling)) ceiling ≡ with_boot boot (kept_of s ceiling)
  begun_kept sessions boot ceiling s valid = ap (with_boot boot) (regained is_kept again s ceiling valid)

  -- the state that is regained is valid, whatever the ceiling
  again_valid : (s : NodeState) (ceiling : ℕ) → IsValid s → IsValid (state_of (kept_of s ceiling))
  again_valid s ceiling valid = are_valid (durable s 0) (kept_of s 0) (is_kept s 0 valid (omega arith))

  pub rolls_back : RollsBackValid → ReopeningsRollBack
  rolls_back back sessions ceiling s valid =
      begun_kept sessions (s.boot + 1) ceiling (rollback (state_of (kept_of s ceiling))) (back (state_of (kept_of s ceiling)) (again_valid s ceiling valid))

-- Filters give the same in either order.

swapped : {X : Type 0} (p q : X → Bool) (xs : List X) → filter p (filter q xs) ≡ filter q (filter p xs)
swapped p q [] = refl
swapped p q (x ∷ xs) =
    let rest = swapped p q xs in
    elim (cases_Bool (p x)) [
      | inl its ↦ elim (cases_Bool (q x)) [
        | inl also ↦ rw (also, its, also) (ap (λ (l : List _). x ∷ l) rest)
        | inr only ↦ rw (only, its, only) rest
      ]
      | inr not_its ↦ elim (cases_Bool (q x)) [
        | inl also ↦ rw (also, not_its) rest
        | inr none ↦ rw (none, not_its) rest
      ]
    ]

-- What a rollback leaves of rows that pass a test hangs on those alone.

abbrev rows_left : Option ℕ → List Row → List Row
rows_left added rows = with_rows breadcrumb 0 (values.Uint 0 ∷ []) (filter (λ (row : Row). stays added row.fabric) rows)

module _ (added : Option ℕ) (test : Row → Bool) where
  abbrev row_stays : Row → Bool
  row_stays row = stays added row.fabric

  abbrev zero_row : List Row
  zero_row = map (row_at breadcrumb 0) (values.Uint 0 ∷ [])

  -- the same of those that pass
  abbrev left_of : List Row → List Row
  left_of those = filter (is_below breadcrumb 0) (filter row_stays those) ++ (filter test zero_row ++ filter (is_above breadcrumb 0) (filter row_stays those))

  beside : (side : Row → Bool) (rows : List Row) → filter test (filter side (filter row_stays rows)) ≡ filter side (filter row_stays (filter test rows))
  beside side rows = swapped test side (filter row_stays rows) ∙ ap (filter side) (swapped test row_stays rows)

  passed : (rows : List Row) → filter test (rows_left added rows) ≡ left_of (filter test rows)
  passed rows =
      let kept = filter row_stays rows in
      filter-append test (filter (is_below breadcrumb 0) kept) (zero_row ++ filter (is_above breadcrumb 0) kept)
      ∙ ap (λ (l : List Row). filter test (filter (is_below breadcrumb 0) kept) ++ l) (filter-append test zero_row (filter (is_above breadcrumb 0) kept))
      ∙ (λ i. beside (is_below breadcrumb 0) rows i ++ (filter test zero_row ++ beside (is_above breadcrumb 0) rows i))

  same_left : (rows others : List Row) → filter test rows ≡ filter test others → filter test (rows_left added rows) ≡ filter test (rows_left added others)
  same_left rows others same = passed rows ∙ ap left_of same ∙ sym (passed others)

-- So under each key the same is left of states that have the same there.

abbrev left_in : Option ℕ → NodeState → NodeState
left_in added s = record s { rows = rows_left added s.rows }

under_left : (added : Option ℕ) (s t : NodeState) (key : Key) → rows_under s key ≡ rows_under t key → rows_under (left_in added s) key ≡ rows_under (left_in added t) key
under_left added s t (keys.Single place) same = same_left added (λ (row : Row). stands_at place row && not (is_first_at place row.value)) s.rows t.rows same
under_left added s t (keys.Items fabric place) same = same_left added (is_at place fabric) s.rows t.rows same
under_left added s t keys.Boot same = refl
under_left added s t keys.Ceiling same = refl
under_left added s t (keys.Fabric index) same = refl
under_left added s t keys.Roots same = refl
under_left added s t keys.Networks same = refl
under_left added s t keys.Failsafe same = refl

abbrev SameUnder : NodeState → NodeState → Type 0
SameUnder s t = (key : Key) → IsIn key all_keys → rows_under s key ≡ rows_under t key

all_left : (added : Option ℕ) (s t : NodeState) → SameUnder s t → flat_map (rows_under (left_in added s)) all_keys ≡ flat_map (rows_under (left_in added t)) all_keys
all_left added s t same =
    flat-same (rows_under (left_in added s)) (rows_under (left_in added t)) all_keys
    (each-all (λ key. rows_under (left_in added s) key ≡ rows_under (left_in added t) key) all_keys (λ key there. under_left added s t key (same key there)))

module _ (is_kept : DurableIsKept) (are_valid : StatesAreValid) (again : KeptAgain) where
  under_again : (s : NodeState) → IsValid s → SameUnder (state_of (kept_of s 0)) s
  under_again s valid (keys.Single place) there = same_under is_kept are_valid again s 0 valid (omega arith) place 0 (keys.Single place) there (and_from _ _ (place-itself place) refl)
  under_again s valid (keys.Items fabric place) there = same_under is_kept are_valid again s 0 valid (omega arith) place fabric (keys.Items fabric place) there (and_from _ _ (place-itself place) (eq-eqb fabric fabric refl))
  under_again s valid keys.Boot there = refl
  under_again s valid keys.Ceiling there = refl
  under_again s valid (keys.Fabric index) there = refl
  under_again s valid keys.Roots there = refl
  under_again s valid keys.Networks there = refl
  under_again s valid keys.Failsafe there = refl

  rolled_where : (s : NodeState) (ceiling : ℕ) → IsValid s → (armed : Option Armed) → kept_of (rolled_back (armed_again (kept_of s ceiling) armed) (state_of (kept_of s ceiling))) ceiling ≡ kept_of (rolled_back armed s) ceiling
  rolled_where s ceiling valid None = regained is_kept again s ceiling valid
  rolled_where s ceiling valid (Some armed) =
      let rows = all_left armed.added (state_of (kept_of s 0)) s (under_again s valid) in
      λ i. record {
        boot = Some s.boot;
        ceiling = Some ceiling;
        rows = rows i;
        entries = filter (λ (entry : AclEntry). stays armed.added entry.fabric) s.entries;
        fabrics = fabrics_behind armed s.fabrics;
        roots = roots_behind (fabrics_behind armed s.fabrics) s.roots;
        networks = armed.saved_networks;
        failsafe = None;
      }

  -- what is kept of a state, rolled back, is what is kept of the state, rolled back
  pub rolled_is_rollback : RolledIsRollback
  rolled_is_rollback ceiling s valid = rolled_where s ceiling valid s.armed
