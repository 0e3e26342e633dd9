-- Each step of commissioning leaves a valid state valid.
use Rattle.std.proofs.lemmas.Bool.{and_parts, or_cases}
use Rattle.std.proofs.Common.{◌≡◌, ℕ, ◌≤◌, ◌&&◌, inl, inr, Bool, true, List, [], ◌∷◌, Option, None, refl, filter, map}
use Rattle.std.specs.List.{list_all}
use Rattle.mt_tlv.specs.declared.value.Value.{Value}
use Rattle.mt_fabrics.specs.Table.{IsLeastUnused, IsTable, add_refusal, added, label_refusal, labelled, least_unused, removed, update_refusal, updated}
use Rattle.mt_model.specs.rows.Order.{are_ascending}
use Rattle.mt_model.specs.rows.Setting.{is_entry_of, with_entries, with_rows}
use Rattle.mt_model.specs.texts.Config.{ascend_from}
use Rattle.mt_model.specs.declared.node.action.NodeStep.{NodeStep}
use Rattle.mt_model.specs.declared.node.action.NodeStep.TheVariants.{SetRow, SetEntries, PutNetwork, RemoveNetwork, ConnectNetwork, MoveNetwork, Arm, Renew, Expire, Complete, AddRoot, Csr, AddFabric, UpdateFabric, RemoveFabric, Label, Emit}
use Rattle.mt_model.specs.declared.node.state.NodeState.{NodeState}
use Rattle.mt_model.specs.declared.rows.place.Place.{Place}
use Rattle.mt_model.specs.declared.rows.place.Row.{Row}
use Rattle.mt_model.specs.declared.tables.access.AclEntry.{AclEntry}
use Rattle.mt_model.specs.declared.tables.access.Actor.{Actor}
use Rattle.mt_model.specs.declared.tables.fabric.Credentials.{Credentials}
use Rattle.mt_model.specs.declared.tables.fabric.Fabric.{Fabric}
use Rattle.mt_machine.specs.Taking.{fits, may_take, may_take_all, names_known}
use Rattle.mt_machine.specs.Effects.{after, after_all, connected_to, is_sound_step, moved_to, others_than, with_network}
use Rattle.mt_machine.specs.State.{IsValid}
use Rattle.mt_machine.proofs.ArmedValid.{arm-valid, completes-valid, renew-valid, request-valid, root-valid}
use Rattle.mt_machine.proofs.ChangedValid.{label-valid, update-valid}
use Rattle.mt_machine.proofs.JoinedValid.{join-valid}
use Rattle.mt_machine.proofs.LeftValid.{leave-valid}
use Rattle.mt_machine.proofs.NetworksValid.{connected_hold, moved_hold, networks-valid, others_hold, put_hold}
use Rattle.mt_machine.proofs.Rolled.{rolled-valid}
use Rattle.mt_machine.proofs.ValidParts.{its_networks}
use Rattle.mt_machine.proofs.Counting.{impossible}
use Rattle.mt_machine.proofs.Writes.{after_step}

-- by the laws of the model on rows and entries, and those of the fabric table
module _
    (rows_stay : (keep : Row → Bool) (rows : List Row) → are_ascending rows ≡ true → are_ascending (filter keep rows) ≡ true)
    (entries_stay : (keep : AclEntry → Bool) (least : ℕ) (entries : List AclEntry) → ascend_from least entries ≡ true → ascend_from least (filter keep entries) ≡ true)
    (rows_rise : (rows : List Row) (place : Place) (fabric : ℕ) (vs : List Value) → are_ascending rows ≡ true → are_ascending (with_rows place fabric vs rows) ≡ true)
    (entries_rise : (entries new : List AclEntry) (least fabric : ℕ) → least ≤ fabric → ascend_from least entries ≡ true → list_all (is_entry_of fabric) new ≡ true → ascend_from least (with_entries fabric new entries) ≡ true)
    (least : (fabrics : List Fabric) → IsTable fabrics → IsLeastUnused (least_unused fabrics) fabrics)
    (table_added : (fabric : Fabric) (fabrics : List Fabric) → IsTable fabrics → add_refusal fabric fabrics ≡ None → IsTable (added fabric fabrics))
    (table_updated : (index : ℕ) (given : Credentials) (fabrics : List Fabric) → IsTable fabrics → update_refusal index given fabrics ≡ None → IsTable (updated index given fabrics))
    (table_removed : (index : ℕ) (fabrics : List Fabric) → IsTable fabrics → IsTable (removed index fabrics))
    (table_labelled : (index : ℕ) (label : List ℕ) (fabrics : List Fabric) → IsTable fabrics → label_refusal index label fabrics ≡ None → IsTable (labelled index label fabrics))
  where
    step-valid : (asker : Option Actor) (step : NodeStep) (s : NodeState) → IsValid s → is_sound_step step ≡ true → names_known s.fabrics step ≡ true → IsValid (after asker step s)
    step-valid asker (SetRow place fabric values) s valid sound known = impossible sound
    step-valid asker (SetEntries fabric new) s valid sound known = impossible sound
    step-valid asker (PutNetwork id secret) s valid sound known = networks-valid s valid (with_network id secret s.networks) (put_hold id secret sound s.networks (its_networks s valid))
    step-valid asker (RemoveNetwork id) s valid sound known = networks-valid s valid (others_than id s.networks) (others_hold id s.networks (its_networks s valid))
    step-valid asker (ConnectNetwork id) s valid sound known = networks-valid s valid (map (connected_to id) s.networks) (connected_hold id s.networks (its_networks s valid))
    step-valid asker (MoveNetwork id index) s valid sound known = networks-valid s valid (moved_to id index s.networks) (moved_hold id index s.networks (its_networks s valid))
    step-valid asker (Arm owner seconds) s valid sound known = arm-valid s valid owner seconds known
    step-valid asker (Renew seconds) s valid sound known = renew-valid s valid seconds
    step-valid asker Expire s valid sound known = rolled-valid rows_stay entries_stay rows_rise entries_rise s.armed s refl valid
    step-valid asker Complete s valid sound known = completes-valid s valid
    step-valid asker (AddRoot cert) s valid sound known = root-valid s valid cert sound
    step-valid asker (Csr nonce update) s valid sound known = request-valid s valid nonce update sound
    step-valid asker (AddFabric joins) s valid sound known = join-valid least table_added asker joins sound s valid
    step-valid asker (UpdateFabric index given) s valid sound known = update-valid table_updated s valid index given sound
    step-valid asker (RemoveFabric index) s valid sound known = leave-valid rows_stay entries_stay table_removed s valid index
    step-valid asker (Label index label) s valid sound known = label-valid table_labelled s valid index label sound
    step-valid asker (Emit place priority fabric value) s valid sound known = valid

    -- a step that sets values and fits does so too
    pub taken-valid : (asker : Option Actor) (step : NodeStep) (s : NodeState) → IsValid s → may_take s step ≡ true → IsValid (after asker step s)
    taken-valid asker step s valid may = elim (or_cases (fits s.fabrics step) (is_sound_step step && names_known s.fabrics step) may) [
      | inl fit ↦ after_step rows_rise entries_rise asker step s valid fit
      | inr both ↦
          let parts = and_parts (is_sound_step step) (names_known s.fabrics step) both in
          step-valid asker step s valid parts.0 parts.1
    ]

    pub all-taken-valid : (asker : Option Actor) (steps : List NodeStep) (s : NodeState) → IsValid s → may_take_all asker steps s ≡ true → IsValid (after_all asker steps s)
    all-taken-valid asker [] s valid may = valid
    all-taken-valid asker (step ∷ steps) s valid may =
        let both = and_parts (may_take s step) (may_take_all asker steps (after asker step s)) may in
        all-taken-valid asker steps (after asker step s) (taken-valid asker step s valid both.0) both.1
