-- What holds of each step that sets values: it is one of three kinds.
use Rattle.std.specs.Prelude.{◌≡◌, ℕ, true, List}
use Rattle.std.specs.List.{list_all}
use Rattle.mt_tlv.specs.declared.value.Value.{Value}
use Rattle.mt_model.specs.rows.Setting.{is_entry_of}
use Rattle.mt_model.specs.rows.Stored.{is_stored_place}
use Rattle.mt_model.specs.declared.node.action.NodeStep.{NodeStep}
use Rattle.mt_model.specs.declared.node.action.NodeStep.TheVariants.{SetRow, SetEntries, PutNetwork, RemoveNetwork, ConnectNetwork, MoveNetwork, Arm, Renew, Expire, Complete, AddRoot, Csr, AddFabric, UpdateFabric, RemoveFabric, Label, Emit}
use Rattle.mt_model.specs.declared.rows.place.Place.{Place}
use Rattle.mt_model.specs.declared.tables.access.AclEntry.{AclEntry}
use Rattle.mt_machine.specs.Effects.{is_setting_step}

-- It sets rows of a stored place, or entries of the fabric that it names, or tells of an event.
pub setting_cases
    : (P : NodeStep → Type 0)
    → ((place : Place) (fabric : ℕ) (values : List Value) → is_stored_place place ≡ true → P (SetRow place fabric values))
    → ((fabric : ℕ) (entries : List AclEntry) → list_all (is_entry_of fabric) entries ≡ true → P (SetEntries fabric entries))
    → ((place : Place) (priority fabric : ℕ) (value : Value) → P (Emit place priority fabric value))
    → (step : NodeStep) → is_setting_step step ≡ true → P step
setting_cases P row entries event (SetRow place fabric values) sets = row place fabric values sets
setting_cases P row entries event (SetEntries fabric new) sets = entries fabric new sets
setting_cases P row entries event (PutNetwork id secret) sets = absurd (cc)
setting_cases P row entries event (RemoveNetwork id) sets = absurd (cc)
setting_cases P row entries event (ConnectNetwork id) sets = absurd (cc)
setting_cases P row entries event (MoveNetwork id index) sets = absurd (cc)
setting_cases P row entries event (Arm owner seconds) sets = absurd (cc)
setting_cases P row entries event (Renew seconds) sets = absurd (cc)
setting_cases P row entries event Expire sets = absurd (cc)
setting_cases P row entries event Complete sets = absurd (cc)
setting_cases P row entries event (AddRoot cert) sets = absurd (cc)
setting_cases P row entries event (Csr nonce update) sets = absurd (cc)
setting_cases P row entries event (AddFabric fabric) sets = absurd (cc)
setting_cases P row entries event (UpdateFabric index credentials) sets = absurd (cc)
setting_cases P row entries event (RemoveFabric index) sets = absurd (cc)
setting_cases P row entries event (Label index label) sets = absurd (cc)
setting_cases P row entries event (Emit place priority fabric value) sets = event place priority fabric value
