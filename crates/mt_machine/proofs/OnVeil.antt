-- What the steps of commands leave of a fabric's own part on its veil: what they leave on the state.
use Rattle.std.proofs.Common.{◌≡◌, ℕ, ◌==◌, ◌&&◌, Bool, true, List, [], ◌∷◌, Option, Result, Ok, Err, is_ok, nat_le, length, refl, sym, arith, ◌∙◌, subst}
use Rattle.std.proofs.lemmas.Bool.{and_from, and_parts}
use Rattle.std.specs.List.{list_all}
use Rattle.mt_tlv.specs.declared.value.Value.{Value}
use Rattle.mt_commission.specs.Laws as commission
use Rattle.mt_meta.specs.Finding.{find_data_of}
use Rattle.mt_meta.specs.Stored.{is_stored}
use Rattle.mt_meta.specs.declared.meta.Meta.{Meta}
use Rattle.mt_model.specs.rows.Stored.{is_stored_place}
use Rattle.mt_model.specs.tables.Known.{Known}
use Rattle.mt_model.specs.texts.Config.{are_credentials, is_certificate, is_fabric, is_label}
use Rattle.mt_model.specs.declared.messages.status.Status.{Status}
use Rattle.mt_model.specs.declared.node.action.NodeStep.{NodeStep}
use Rattle.mt_model.specs.declared.node.action.NodeStep.TheVariants.{SetRow, SetEntries, PutNetwork, RemoveNetwork, ConnectNetwork, MoveNetwork, Arm, Renew, Expire, Complete, AddRoot, Csr, AddFabric, UpdateFabric, RemoveFabric, Label, Emit}
use Rattle.mt_model.specs.declared.node.state.NodeState.{NodeState}
use Rattle.mt_model.specs.declared.rows.place.Place.{Place}
use Rattle.mt_model.specs.declared.tables.access.Actor.{Actor}
use Rattle.mt_model.specs.declared.tables.fabric.Fabric.{Fabric}
use Rattle.mt_model.specs.declared.tables.network.Armed.{Armed}
use Rattle.mt_model.specs.declared.tables.network.Network.{Network}
use Rattle.mt_opcreds.specs.Laws.{is_well_formed}
use Rattle.mt_opcreds.specs.Moves.{IsMove, expires, expires_and_leaves, joins, leaves, names, nothing, renews, requests, trusts}
use Rattle.mt_machine.specs.Effects.{after, after_all, is_setting_step}
use Rattle.mt_machine.specs.Isolation.{own, veil}
use Rattle.mt_machine.specs.Laws.{RemovalsSeeTheVeil, StepsSeeTheVeil}
use Rattle.mt_machine.specs.State.{IsValid}
use Rattle.mt_machine.specs.Touching.{is_its_step}
use Rattle.mt_machine.proofs.Again.{own-again}
use Rattle.mt_machine.proofs.Steps.{own-alike}
use Rattle.mt_machine.proofs.Counting.{impossible}

same_number : (n : ℕ) → (n == n) ≡ true
same_number n = grind arith

module _ (kept : (place : Place) → is_stored_place place ≡ (is_stored place && is_ok (find_data_of place))) (each : StepsSeeTheVeil) (removal : RemovalsSeeTheVeil) (fabric : ℕ) (asker : Option Actor) (s : NodeState) (valid : IsValid s) where
  abbrev Alike : List NodeStep → Type 0
  Alike steps = own fabric (after_all asker steps (veil fabric s)) ≡ own fabric (after_all asker steps s)

  -- steps that set values behind a first one
  behind_alike : (first : NodeStep) (steps : List NodeStep) → list_all is_setting_step steps ≡ true → own fabric (after asker first (veil fabric s)) ≡ own fabric (after asker first s) → Alike (first ∷ steps)
  behind_alike first steps sets same = own-alike fabric asker asker steps (after asker first (veil fabric s)) (after asker first s) sets same

  pub setting_alike : (steps : List NodeStep) → list_all is_setting_step steps ≡ true → Alike steps
  setting_alike steps sets = own-alike fabric asker asker steps (veil fabric s) s sets (own-again fabric s valid.fabrics_rise)

  -- General Commissioning and Network Commissioning.

  module _ (networks : List Network) (armed : Option Armed) (writer : ℕ) where
    abbrev is_sound : NodeStep → Bool
    is_sound = commission.is_sound_step networks armed writer

    row_sets : (stored : Bool) (whose : ℕ) (values : List Value) (found : Result Meta Status) → commission.is_sound_row stored whose values found ≡ true → (stored && is_ok found) ≡ true
    row_sets stored whose values (Err status) sound = impossible sound
    row_sets stored whose values (Ok meta) sound = and_from stored true (and_parts stored _ sound).0 refl

    row_setting : (place : Place) (whose : ℕ) (values : List Value) → is_sound (SetRow place whose values) ≡ true → is_setting_step (SetRow place whose values) ≡ true
    row_setting place whose values sound = kept place ∙ row_sets (is_stored place) whose values (find_data_of place) sound

    rows_set : (steps : List NodeStep) → list_all is_sound steps ≡ true → list_all commission.sets_value steps ≡ true → list_all is_setting_step steps ≡ true
    rows_set [] sound sets = refl
    rows_set (SetRow place whose values ∷ steps) sound sets =
        let both = and_parts (is_sound (SetRow place whose values)) (list_all is_sound steps) sound in
        and_from _ _ (row_setting place whose values both.0) (rows_set steps both.1 sets)
    rows_set (SetEntries whose entries ∷ steps) sound sets = impossible sets
    rows_set (PutNetwork id secret ∷ steps) sound sets = impossible sets
    rows_set (RemoveNetwork id ∷ steps) sound sets = impossible sets
    rows_set (ConnectNetwork id ∷ steps) sound sets = impossible sets
    rows_set (MoveNetwork id index ∷ steps) sound sets = impossible sets
    rows_set (Arm owner seconds ∷ steps) sound sets = impossible sets
    rows_set (Renew seconds ∷ steps) sound sets = impossible sets
    rows_set (Expire ∷ steps) sound sets = impossible sets
    rows_set (Complete ∷ steps) sound sets = impossible sets
    rows_set (AddRoot cert ∷ steps) sound sets = impossible sets
    rows_set (Csr nonce update ∷ steps) sound sets = impossible sets
    rows_set (AddFabric new ∷ steps) sound sets = impossible sets
    rows_set (UpdateFabric index given ∷ steps) sound sets = impossible sets
    rows_set (RemoveFabric index ∷ steps) sound sets = impossible sets
    rows_set (Label index label ∷ steps) sound sets = impossible sets
    rows_set (Emit place priority whose value ∷ steps) sound sets = impossible sets

    -- the first step leaves the same own part
    first_alike : (step : NodeStep) → is_sound step ≡ true → own fabric (after asker step (veil fabric s)) ≡ own fabric (after asker step s)
    first_alike (SetRow place whose values) sound = setting_alike (SetRow place whose values ∷ []) (and_from _ _ (row_setting place whose values sound) refl)
    first_alike (SetEntries whose entries) sound = impossible sound
    first_alike (PutNetwork id secret) sound =
        let one = and_parts _ (nat_le (length secret) 64 && _) sound in
        each fabric asker (PutNetwork id secret) s valid (and_from _ _ one.0 (and_parts (nat_le (length secret) 64) _ one.1).0) refl
    first_alike (RemoveNetwork id) sound = each fabric asker (RemoveNetwork id) s valid refl refl
    first_alike (ConnectNetwork id) sound = each fabric asker (ConnectNetwork id) s valid refl refl
    first_alike (MoveNetwork id index) sound = each fabric asker (MoveNetwork id index) s valid refl refl
    first_alike (Arm owner seconds) sound = each fabric asker (Arm owner seconds) s valid refl refl
    first_alike (Renew seconds) sound = each fabric asker (Renew seconds) s valid refl refl
    first_alike Expire sound = each fabric asker Expire s valid refl refl
    first_alike Complete sound = each fabric asker Complete s valid refl refl
    first_alike (AddRoot cert) sound = impossible sound
    first_alike (Csr nonce update) sound = impossible sound
    first_alike (AddFabric new) sound = impossible sound
    first_alike (UpdateFabric index given) sound = impossible sound
    first_alike (RemoveFabric index) sound = impossible sound
    first_alike (Label index label) sound = impossible sound
    first_alike (Emit place priority whose value) sound = impossible sound

    pub commission_alike : (steps : List NodeStep) → list_all is_sound steps ≡ true → commission.sets_values_behind steps ≡ true → Alike steps
    commission_alike [] sound behind = own-again fabric s valid.fabrics_rise
    commission_alike (step ∷ steps) sound behind =
        let both = and_parts (is_sound step) (list_all is_sound steps) sound in
        behind_alike step steps (rows_set steps both.1 behind) (first_alike step both.0)

  -- Operational Credentials.

  abbrev Good : List NodeStep → Type 0
  Good steps = list_all is_well_formed steps ≡ true

  pub moved_alike : (known : Known) (steps : List NodeStep) → Good steps → ((new : Fabric) → is_its_step s (AddFabric new) fabric ≡ true) → IsMove known fabric steps → Alike steps
  moved_alike known steps good new_is_other (nothing is) = subst Alike (sym is) (own-again fabric s valid.fabrics_rise)
  moved_alike known steps good new_is_other (requests nonce update is) =
      let good_ones : (length nonce == 32 && true) ≡ true = subst Good is good in
      subst Alike (sym is) (each fabric asker (Csr nonce update) s valid (and_parts (length nonce == 32) true good_ones).0 refl)
  moved_alike known steps good new_is_other (trusts cert is) =
      let good_ones : (is_certificate cert && true) ≡ true = subst Good is good in
      subst Alike (sym is) (each fabric asker (AddRoot cert) s valid (and_parts (is_certificate cert) true good_ones).0 refl)
  moved_alike known steps good new_is_other (joins new entries own_ones is) =
      let good_ones = subst Good is good in
      subst Alike (sym is)
      (behind_alike (AddFabric new) (SetEntries new.index entries ∷ []) (and_from _ _ own_ones refl)
      (each fabric asker (AddFabric new) s valid (and_parts (is_fabric new) _ good_ones).0 (new_is_other new)))
  moved_alike known steps good new_is_other (renews given is) =
      let good_ones : (are_credentials given && true) ≡ true = subst Good is good in
      subst Alike (sym is) (each fabric asker (UpdateFabric fabric given) s valid (and_parts (are_credentials given) true good_ones).0 (same_number fabric))
  moved_alike known steps good new_is_other (names label is) =
      let good_ones : (is_label label && true) ≡ true = subst Good is good in
      subst Alike (sym is) (each fabric asker (Label fabric label) s valid (and_parts (is_label label) true good_ones).0 (same_number fabric))
  moved_alike known steps good new_is_other (leaves index free is) = subst Alike (sym is) (each fabric asker (RemoveFabric index) s valid refl refl)
  moved_alike known steps good new_is_other (expires index context was is) = subst Alike (sym is) (each fabric asker Expire s valid refl refl)
  moved_alike known steps good new_is_other (expires_and_leaves index context was_not is) = subst Alike (sym is) (removal fabric asker index s valid)
