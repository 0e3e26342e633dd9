-- What a valid state gives to the calls that set rows and entries.
use Rattle.std.proofs.Common.{◌≡◌, ℕ, ◌&&◌, Bool, true, false, inl, inr, nat_le, List, [], ◌∷◌, Result, Ok, Err, arith, is_ok, refl, ◌∙◌}
use Rattle.std.proofs.lemmas.Bool.{and_from, and_parts, le-leb, or_cases}
use Rattle.mt_tlv.specs.declared.value.Value.{Value}
use Rattle.mt_meta.specs.Finding.{find_data_of}
use Rattle.mt_meta.specs.Stored.{is_stored}
use Rattle.mt_meta.specs.declared.meta.Meta.{Meta}
use Rattle.mt_model.specs.rows.Stored.{is_stored_place}
use Rattle.mt_model.specs.texts.Config.{ascend_from}
use Rattle.mt_model.specs.declared.messages.status.Status.{Status}
use Rattle.mt_model.specs.declared.node.action.NodeStep.TheVariants.{SetRow}
use Rattle.mt_model.specs.declared.node.state.NodeState.{NodeState}
use Rattle.mt_model.specs.declared.rows.place.Place.{Place}
use Rattle.mt_model.specs.declared.tables.access.AclEntry.{AclEntry}
use Rattle.mt_model.specs.declared.tables.fabric.Fabric.{Fabric}
use Rattle.mt_machine.specs.State.{IsValid}
use Rattle.mt_machine.specs.Taking.{fits_row, may_take}

-- its entries ascend from 0 on
from_none : (es : List AclEntry) → ascend_from 1 es ≡ true → ascend_from 0 es ≡ true
from_none [] up = refl
from_none (e ∷ es) up = and_from (nat_le 0 e.fabric) (ascend_from e.fabric es) (le-leb 0 e.fabric (omega arith)) (and_parts _ _ up).1

pub entries_ascend : (s : NodeState) → IsValid s → ascend_from 0 s.entries ≡ true
entries_ascend s valid = from_none s.entries valid.entries_rise

-- it takes rows of stored places alone

row_stored : (fabrics : List Fabric) (fabric : ℕ) (stored : Bool) (values : List Value) (found : Result Meta Status) → fits_row fabrics fabric stored values found ≡ true → (stored && is_ok found) ≡ true
row_stored fabrics fabric stored values (Ok meta) is = and_from stored true (and_parts _ _ (and_parts _ _ is).0).0 refl
row_stored fabrics fabric stored values (Err status) is = absurd (cc is)

pub takes_stored : ((place : Place) → is_stored_place place ≡ (is_stored place && is_ok (find_data_of place)))
    → (s : NodeState) (place : Place) (fabric : ℕ) (values : List Value) → may_take s (SetRow place fabric values) ≡ true → is_stored_place place ≡ true
takes_stored stored s place fabric values may = elim (or_cases (fits_row s.fabrics fabric (is_stored place) values (find_data_of place)) false may) [
  | inl fit ↦ stored place ∙ row_stored s.fabrics fabric (is_stored place) values (find_data_of place) fit
  | inr sound ↦ absurd (cc sound)
]
