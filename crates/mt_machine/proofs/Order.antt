-- The order in which a state's parts stand.
use Rattle.std.proofs.Common.{◌≡◌, ℕ, Bool, true, false, nat_le, List, [], ◌∷◌, Option, Some, None, refl, sym, filter, if◌then◌else◌, arith}
use Rattle.mt_tlv.specs.declared.value.Value.{Value}
use Rattle.mt_model.specs.texts.Config.{ascend_from}
use Rattle.mt_model.specs.rows.Order.{are_ascending, entry_rows, fabric_rows, fabrics_ascend, in_order}
use Rattle.mt_model.specs.rows.Sight.{is_acl, is_nocs, stands_at}
use Rattle.mt_model.specs.declared.tables.access.AclEntry.{AclEntry}
use Rattle.mt_model.specs.declared.tables.fabric.Fabric.{Fabric}
use Rattle.mt_model.specs.declared.rows.place.Place.{Place}
use Rattle.mt_model.specs.declared.rows.place.Row.{Row}
use Rattle.mt_apps.specs.Computed.{computed_rows, computed_value, value_rows}
use Rattle.mt_apps.specs.OperationalCredentials.{fabric_value, is_fabrics, noc_value}
use Rattle.mt_model.specs.tables.Entries.{entry_value}
use Rattle.mt_meta.specs.Stored.{is_stored}
use Rattle.mt_model.specs.rows.Seen.{seen_as}
use Rattle.mt_model.specs.declared.node.state.NodeState.{NodeState}
use Rattle.mt_machine.specs.Observation.{observation}
use Rattle.mt_machine.specs.State.{IsValid, parts, rows_of}
use Rattle.mt_machine.proofs.Entries.{both_true}

-- A row of nobody stands alone in its place.
alone : (fabric : ℕ) (place : Place) (value : Option Value) → in_order fabric (value_rows place value) ≡ value_rows place value
alone fabric place None = refl
alone fabric place (Some value) = grind arith

pub from_zero : (es : List AclEntry) → ascend_from 1 es ≡ true → ascend_from 0 es ≡ true
from_zero [] up = refl
from_zero (e ∷ es) up = let rest = (both_true (nat_le 1 e.fabric) (ascend_from e.fabric es) up).1 in grind (arith, rest)

either : (fabric : ℕ) (b : Bool) (x y : List Row) → (b ≡ true → in_order fabric x ≡ x) → (b ≡ false → in_order fabric y ≡ y) → in_order fabric (if b then x else y) ≡ (if b then x else y)
either fabric true x y h k = h refl
either fabric false x y h k = k refl

-- By the laws of the model on rows, entries and fabrics that ascend.
module _
    (place_in_order : (rows : List Row) (place : Place) (fabric : ℕ) → are_ascending rows ≡ true → in_order fabric (filter (stands_at place) rows) ≡ filter (stands_at place) rows)
    (entries_in_order : (entries : List AclEntry) (place : Place) (value : AclEntry → Value) (fabric : ℕ) → ascend_from 0 entries ≡ true → in_order fabric (entry_rows place value entries) ≡ entry_rows place value entries)
    (fabrics_in_order : (fabrics : List Fabric) (place : Place) (value : Fabric → Value) (fabric : ℕ) → fabrics_ascend fabrics ≡ true → in_order fabric (fabric_rows place value fabrics) ≡ fabric_rows place value fabrics)
  where
    rows_in_order : (fabric : ℕ) (s : NodeState) → IsValid s → (place : Place) → in_order fabric (rows_of s place) ≡ rows_of s place
    unfolding computed_rows
    rows_in_order fabric s valid place =
        either fabric (is_stored place) (filter (stands_at place) s.rows) (computed_rows (parts s) place)
        (λ _. place_in_order s.rows place fabric valid.rows_rise)
        (λ _. either fabric (is_acl place) _ _
        (λ _. entries_in_order s.entries place entry_value fabric (from_zero s.entries valid.entries_rise))
        (λ _. either fabric (is_nocs place) _ _
        (λ _. fabrics_in_order s.fabrics place noc_value fabric valid.fabrics_rise)
        (λ _. either fabric (is_fabrics place) _ _
        (λ _. fabrics_in_order s.fabrics place fabric_value fabric valid.fabrics_rise)
        (λ _. alone fabric place (computed_value (parts s) place)))))

    pub stands_in_order : (fabric : ℕ) (s : NodeState) → IsValid s → seen_as fabric (rows_of s) s.versions s.entries ≡ (observation fabric s).seen
    stands_in_order fabric s valid = sym (λ i. seen_as fabric (λ place. rows_in_order fabric s valid place i) s.versions s.entries)
