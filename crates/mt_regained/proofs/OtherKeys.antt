-- What a rollback leaves under each key that it does not name.
use Rattle.std.proofs.Common.{◌≡◌, ◌∙◌, refl, sym, ap, ℕ, inl, inr, ◌&&◌, ◌||◌, ◌==◌, not, nat_le, Bool, true, false, List, [], ◌∷◌, Option, Some, None, filter, map, arith, if◌then◌else◌}
use Rattle.std.proofs.lemmas.Bool.{and_parts, cases_Bool, eqb-true, false_from_ne_true, leb-true, or_parts}
use Rattle.std.specs.Prelude.{option_map}
use Rattle.std.specs.List.{find}
use Rattle.mt_tlv.specs.declared.value.Value.TheVariants as values
use Rattle.mt_meta.specs.Finding.{find_data_of}
use Rattle.mt_meta.specs.Stored.{is_stored}
use Rattle.mt_model.specs.Optional.{is_that}
use Rattle.mt_model.specs.rows.Setting.{is_at, is_entry_of}
use Rattle.mt_model.specs.rows.Sight.{same_place, stands_at}
use Rattle.mt_model.specs.tables.Leaving.{stays}
use Rattle.mt_model.specs.declared.limits.TheConstants.{FABRICS}
use Rattle.mt_model.specs.declared.node.state.NodeState.{NodeState}
use Rattle.mt_model.specs.declared.rows.place.Place.{Place}
use Rattle.mt_model.specs.declared.rows.place.Row.{Row}
use Rattle.mt_model.specs.declared.tables.access.AclEntry.{AclEntry}
use Rattle.mt_model.specs.declared.tables.fabric.Fabric.{Fabric}
use Rattle.mt_model.specs.declared.tables.network.Armed.{Armed}
use Rattle.mt_grammar.specs.Values.{is_acl}
use Rattle.mt_grammar.specs.declared.keys.Key.{Key}
use Rattle.mt_grammar.specs.declared.keys.Key.TheVariants as keys
use Rattle.mt_machine.specs.Expiries.{IsRolledBack, RollbacksLeave, is_breadcrumb}
use Rattle.mt_machine.specs.Rollback.{breadcrumb, rollback}
use Rattle.mt_machine.specs.State.{IsValid, is_row, is_row_at}
use Rattle.mt_lasting.specs.Keys.{acl_place, all_keys}
use Rattle.mt_lasting.specs.Values.{array_if, entry_tree, fabric_value, has_index, row_tree, single_in, value_at}
use Rattle.mt_regained.specs.Laws.{names_key}
use Rattle.mt_regained.proofs.KeyFacts.{KeyFacts, key_facts}
use Rattle.mt_regained.proofs.Lists.{Each, filter-stronger}
use Rattle.mt_regained.proofs.BehindRollbacks.{filter-implied, found_behind, nobody_stays, nobodys, stays_other}
use Rattle.mt_regained.proofs.PlaceFacts.{IsSingle}
use Rattle.mt_regained.proofs.Places.{place-same}
use Rattle.mt_regained.proofs.Regaining.{unarmed_stays}

module _ (s now : NodeState) (armed : Armed) (ceiling : ℕ) (valid : IsValid s) (is : s.armed ≡ Some armed) (left : IsRolledBack armed s now) where
  abbrev row_stays : Row → Bool
  row_stays row = stays armed.added row.fabric

  -- rows that are not Breadcrumb, and that stay
  rows_stay : (test : Row → Bool) → ((row : Row) → test row ≡ true → is_breadcrumb row ≡ false) → ((row : Row) → is_row s.fabrics row ≡ true → test row ≡ true → row_stays row ≡ true) → filter test now.rows ≡ filter test s.rows
  rows_stay test apart stay =
      let others : Row → Bool = λ row. not (is_breadcrumb row) in
      let implied : (row : Row) → test row ≡ true → others row ≡ true = λ row passes. ap not (apart row passes) in
      sym (filter-stronger others test implied now.rows)
      ∙ ap (filter test) left.rows
      ∙ filter-stronger others test implied (filter row_stays s.rows)
      ∙ filter-implied (is_row s.fabrics) row_stays test stay s.rows valid.row_forms

  of_single : (place : Place) → IsSingle place → same_place place breadcrumb ≡ false → value_at (keys.Single place) now ceiling ≡ value_at (keys.Single place) s ceiling
  of_single place facts other = ap (single_in place) (rows_stay (stands_at place) apart stay)
    where
      apart : (row : Row) → stands_at place row ≡ true → is_breadcrumb row ≡ false
      apart row there = ap (λ (p : Place). same_place p breadcrumb && row.fabric == 0) (place-same row.place place there) ∙ ap (λ (b : Bool). b && row.fabric == 0) other

      stay : (row : Row) → is_row s.fabrics row ≡ true → stands_at place row ≡ true → row_stays row ≡ true
      stay row stands there =
          let parts = and_parts (not facts.row.meta.scoped) (not (is_acl facts.row.meta.kind)) (and_parts facts.row.meta.kept _ facts.single).1 in
          let found = ap find_data_of (place-same row.place place there) ∙ facts.is_data in
          let none = nobodys s.fabrics row (find_data_of row.place) facts.row.meta found parts.0 (and_parts (is_stored row.place) (is_row_at s.fabrics row (find_data_of row.place)) stands).1 in
          ap (stays armed.added) (eqb-true row.fabric 0 none) ∙ nobody_stays s armed valid is

  of_items : (fabric : ℕ) (place : Place) → nat_le 1 fabric ≡ true → is_that fabric armed.added ≡ false → value_at (keys.Items fabric place) now ceiling ≡ value_at (keys.Items fabric place) s ceiling
  of_items fabric place least other =
      let rows = rows_stay (is_at place fabric) apart (λ row stands there. stays_other armed.added fabric row.fabric other (and_parts (same_place row.place place) (row.fabric == fabric) there).1) in
      let entries : filter (is_entry_of fabric) now.entries ≡ filter (is_entry_of fabric) s.entries =
      ap (filter (is_entry_of fabric)) left.entries
      ∙ filter-stronger (λ (entry : AclEntry). stays armed.added entry.fabric) (is_entry_of fabric) (λ entry its. stays_other armed.added fabric entry.fabric other its) s.entries in
      λ i. if same_place place acl_place then array_if entry_tree (entries i) else array_if row_tree (rows i)
    where
      apart : (row : Row) → is_at place fabric row ≡ true → is_breadcrumb row ≡ false
      apart row there = false_from_ne_true (is_breadcrumb row) (λ at.
          let its = eqb-true row.fabric fabric (and_parts (same_place row.place place) (row.fabric == fabric) there).1 in
          let none = eqb-true row.fabric 0 (and_parts (same_place row.place breadcrumb) (row.fabric == 0) at).1 in
          let above = leb-true 1 fabric least in
          absurd (omega (arith, its, none, above)))

  of_fabric : (index : ℕ) → (is_that index armed.added || is_that index armed.updated) ≡ false → value_at (keys.Fabric index) now ceiling ≡ value_at (keys.Fabric index) s ceiling
  of_fabric index other =
      let both = or_parts (is_that index armed.added) (is_that index armed.updated) other in
      ap (λ (fabrics : List Fabric). option_map fabric_value (find (has_index index) fabrics)) left.fabrics
      ∙ ap (option_map fabric_value) (found_behind armed index both.0 both.1 s.fabrics)

  of_key : (key : Key) → KeyFacts key → names_key (Some armed) key ≡ false → value_at key now ceiling ≡ value_at key s ceiling
  of_key keys.Boot facts other = ap (λ (boot : ℕ). Some (values.Uint boot)) left.boot
  of_key keys.Ceiling facts other = refl
  of_key (keys.Single place) facts other = of_single place facts other
  of_key (keys.Items fabric place) facts other = of_items fabric place (and_parts (nat_le 1 fabric) (nat_le fabric FABRICS) facts.0).0 other
  of_key (keys.Fabric index) facts other = of_fabric index other
  of_key keys.Roots facts other = absurd cc
  of_key keys.Networks facts other = absurd cc
  of_key keys.Failsafe facts other = absurd cc

stays_where : RollbacksLeave → (s : NodeState) (ceiling : ℕ) (key : Key) → IsValid s → KeyFacts key → (armed : Option Armed) → s.armed ≡ armed → names_key armed key ≡ false → value_at key (rollback s) ceiling ≡ value_at key s ceiling
stays_where leave s ceiling key valid facts None is other = ap (λ (t : NodeState). value_at key t ceiling) (unarmed_stays s is)
stays_where leave s ceiling key valid facts (Some armed) is other = of_key s (rollback s) armed ceiling valid is (leave s armed valid is) key facts other

-- of each of the keys
pub other_key : RollbacksLeave → (s : NodeState) (ceiling : ℕ) (key : Key) → IsValid s → KeyFacts key → names_key s.armed key ≡ false → value_at key (rollback s) ceiling ≡ value_at key s ceiling
other_key leave s ceiling key valid facts other = stays_where leave s ceiling key valid facts s.armed refl other

-- of all of them
values_stay : RollbacksLeave → (s : NodeState) (ceiling : ℕ) → IsValid s → (some : List Key) → Each KeyFacts some
    → map (λ key. value_at key (rollback s) ceiling) (filter (λ key. not (names_key s.armed key)) some) ≡ map (λ key. value_at key s ceiling) (filter (λ key. not (names_key s.armed key)) some)
values_stay leave s ceiling valid [] facts = refl
values_stay leave s ceiling valid (key ∷ some) facts = elim (cases_Bool (names_key s.armed key)) [
  | inl named ↦ rw named (values_stay leave s ceiling valid some facts.1)
  | inr other ↦ rw other (λ i. other_key leave s ceiling key valid facts.0 other i ∷ values_stay leave s ceiling valid some facts.1 i)
]

pub other_values : RollbacksLeave → (s : NodeState) (ceiling : ℕ) → IsValid s
    → map (λ key. value_at key (rollback s) ceiling) (filter (λ key. not (names_key s.armed key)) all_keys) ≡ map (λ key. value_at key s ceiling) (filter (λ key. not (names_key s.armed key)) all_keys)
other_values leave s ceiling valid = values_stay leave s ceiling valid all_keys key_facts
