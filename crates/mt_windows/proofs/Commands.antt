-- Commands by which fabrics join set no attribute of Administrator Commissioning.
use Rattle.std.proofs.Common.{◌≡◌, ℕ, ◌==◌, ◌∙◌, nat_lt, Bool, true, false, List, [], ◌∷◌, ◌++◌, Option, Some, None, Ok, Err, refl, ap, length, if◌then◌else◌}
use Rattle.std.proofs.lemmas.Bool.{and_from, cond_both}
use Rattle.std.proofs.lemmas.List.Folds.{list_all-append}
use Rattle.std.specs.List.{list_all}
use Rattle.mt_tlv.specs.declared.value.Value.{Value}
use Rattle.mt_admin.specs.Windows.{window_at}
use Rattle.mt_commission.specs.Answers.{set_breadcrumb}
use Rattle.mt_commission.specs.Commands as commission
use Rattle.mt_commission.specs.GeneralCommissioning as general
use Rattle.mt_commission.specs.NetworkCommissioning as network
use Rattle.mt_commission.specs.declared.codes.CommissioningError.{CommissioningError}
use Rattle.mt_commission.specs.declared.codes.CommissioningError.TheVariants as errors
use Rattle.mt_commission.specs.declared.codes.NetworkStatus.{NetworkStatus}
use Rattle.mt_commission.specs.declared.codes.NetworkStatus.TheVariants as statuses
use Rattle.mt_failsafe.specs.Calls.{is_armed_by}
use Rattle.mt_meta.specs.Given.{given_number, number_of, octets_of}
use Rattle.mt_meta.specs.clusters.GeneralCommissioning as general_commissioning
use Rattle.mt_meta.specs.clusters.NetworkCommissioning as network_commissioning
use Rattle.mt_model.specs.messages.Effects.{refused_at}
use Rattle.mt_model.specs.tables.Known.{Known}
use Rattle.mt_model.specs.declared.messages.status.Status.TheVariants.{FailsafeRequired, UnsupportedCommand}
use Rattle.mt_model.specs.declared.node.action.Effect.{Effect}
use Rattle.mt_model.specs.declared.node.action.NodeStep.{NodeStep}
use Rattle.mt_model.specs.declared.node.action.NodeStep.TheVariants.{ConnectNetwork, Expire, MoveNetwork, PutNetwork, RemoveNetwork}
use Rattle.mt_model.specs.declared.rows.place.Place.{Place}
use Rattle.mt_model.specs.declared.tables.access.Actor.{Actor}
use Rattle.mt_model.specs.declared.tables.network.Armed.{Armed}
use Rattle.mt_opcreds.specs.Commands as credentials
use Rattle.mt_opcreds.specs.Judged.{Judged}
use Rattle.mt_opcreds.specs.Moves.{IsMove, StepsAreMoves, expires, expires_and_leaves, joins, leaves, names, nothing, renews, requests, trusts}
use Rattle.mt_windows.proofs.Told.{spares}

module _ (leaf : ℕ) where
  abbrev all_spare : List NodeStep → Bool
  all_spare steps = list_all (spares (window_at leaf)) steps

  abbrev pub EffectSpares : Effect → Type 0
  EffectSpares effect = all_spare effect.steps ≡ true

  -- Operational Credentials.

  moves_spare : (known : Known) (fabric : ℕ) (steps : List NodeStep) → IsMove known fabric steps → all_spare steps ≡ true
  moves_spare known fabric steps (nothing is) = ap all_spare is
  moves_spare known fabric steps (requests nonce update is) = ap all_spare is
  moves_spare known fabric steps (trusts cert is) = ap all_spare is
  moves_spare known fabric steps (joins new entries its is) = ap all_spare is
  moves_spare known fabric steps (renews given is) = ap all_spare is
  moves_spare known fabric steps (names label is) = ap all_spare is
  moves_spare known fabric steps (leaves index context is) = ap all_spare is
  moves_spare known fabric steps (expires index context added is) = ap all_spare is
  moves_spare known fabric steps (expires_and_leaves index context added is) = ap all_spare is

  pub credentials_spare : StepsAreMoves → (judged : Judged) (known : Known) (actor : Actor) (command : Place) (fields : Value) → EffectSpares (credentials.invoked judged known actor command fields)
  credentials_spare moves judged known actor command fields = moves_spare known actor.fabric (credentials.invoked judged known actor command fields).steps (moves judged known actor command fields)

  -- General Commissioning.

  armed_spare : (command : Place) (crumb : ℕ) (steps : List NodeStep) → all_spare steps ≡ true → EffectSpares (general.armed_effect command crumb (Some steps))
  armed_spare command crumb steps spare = list_all-append (spares (window_at leaf)) steps (set_breadcrumb crumb ∷ []) ∙ and_from _ _ spare refl

  arming_spares : (fabric seconds : ℕ) → all_spare (general.arming fabric seconds) ≡ true
  arming_spares fabric seconds = cond_both (seconds == 0) [] _ (λ (steps : List NodeStep). all_spare steps ≡ true) (λ is. refl) (λ is_not. refl)

  renewing_spares : (seconds : ℕ) → spares (window_at leaf) (general.renewing seconds) ≡ true
  renewing_spares seconds = cond_both (seconds == 0) Expire _ (λ (step : NodeStep). spares (window_at leaf) step ≡ true) (λ is. refl) (λ is_not. refl)

  owned_spare : (command : Place) (crumb fabric seconds : ℕ) (armed : Armed) (own : Bool) → EffectSpares (general.armed_effect command crumb (if own then Some (general.renewing seconds ∷ []) else None))
  owned_spare command crumb fabric seconds armed true = armed_spare command crumb (general.renewing seconds ∷ []) (and_from _ _ (renewing_spares seconds) refl)
  owned_spare command crumb fabric seconds armed false = refl

  arm_spares : (command : Place) (crumb fabric seconds : ℕ) (armed : Option Armed) → EffectSpares (general.armed_effect command crumb (general.failsafe_steps fabric seconds armed))
  arm_spares command crumb fabric seconds None = armed_spare command crumb (general.arming fabric seconds) (arming_spares fabric seconds)
  arm_spares command crumb fabric seconds (Some armed) = owned_spare command crumb fabric seconds armed (armed.owner == fabric)

  pub either : (test : Bool) (x y : Effect) → EffectSpares x → EffectSpares y → EffectSpares (if test then x else y)
  either true x y first second = first
  either false x y first second = second

  regulatory_spares : (command : Place) (fields : Value) → EffectSpares (general.set_regulatory_config command fields)
  regulatory_spares command fields =
      either (nat_lt 2 (number_of 0 fields)) (general.error_effect command 3 errors.ValueOutsideRange []) (general.error_effect command 3 errors.Ok (general.regulatory_steps fields)) refl refl

  completed_spares : (command : Place) (error : CommissioningError) → EffectSpares (general.completed_effect command error)
  completed_spares command errors.Ok = refl
  completed_spares command error = refl

  general_spares : (known : Known) (actor : Actor) (command : Place) (fields : Value) → EffectSpares (general.general_commissioning_effect known actor command fields)
  general_spares known actor command fields =
      either (command.leaf == 0) (general.arm_fail_safe known actor command fields)
      (if command.leaf == 2 then general.set_regulatory_config command fields else if command.leaf == 4 then general.commissioning_complete known actor command else refused_at command UnsupportedCommand)
      (arm_spares command (number_of 1 fields) actor.fabric (general.seconds_of fields) known.armed)
      (either (command.leaf == 2) (general.set_regulatory_config command fields) (if command.leaf == 4 then general.commissioning_complete known actor command else refused_at command UnsupportedCommand)
      (regulatory_spares command fields)
      (either (command.leaf == 4) (general.commissioning_complete known actor command) (refused_at command UnsupportedCommand) (completed_spares command (general.completing actor known.armed)) refl))

  -- Network Commissioning.

  last_spare : (status : NetworkStatus) (id : List ℕ) (crumb : Option ℕ) → all_spare (network.last_steps status id ++ network.breadcrumb_steps crumb) ≡ true
  last_spare status id None = refl
  last_spare status id (Some crumb) = refl

  network_spares : (id : List ℕ) (crumb : Option ℕ) (step : NodeStep) (outcome : network.Outcome) → spares (window_at leaf) step ≡ true → all_spare (network.network_steps id crumb step outcome) ≡ true
  network_spares id crumb step (Ok place) spare = and_from _ _ spare (last_spare statuses.Success id crumb)
  network_spares id crumb step (Err status) spare = refl

  owner_spares : (known : Known) (actor : Actor) (command : Place) (effect : Effect) → EffectSpares effect → EffectSpares (network.if_owner known actor command effect)
  owner_spares known actor command effect spare = either (is_armed_by actor.fabric known.armed) effect (refused_at command FailsafeRequired) spare refl

  adding_spares : (known : Known) (command : Place) (fields : Value) → EffectSpares (network.add_or_update_network known.networks command fields)
  adding_spares known command fields =
      let id = octets_of 0 fields in
      let secret = octets_of 1 fields in
      network_spares id (given_number 2 fields) (PutNetwork id secret) (network.putting known.networks id secret) refl

  removing_spares : (known : Known) (command : Place) (fields : Value) → EffectSpares (network.remove_network known.networks command fields)
  removing_spares known command fields =
      let id = octets_of 0 fields in
      network_spares id (given_number 1 fields) (RemoveNetwork id) (network.found_place known.networks id) refl

  connecting_spares : (known : Known) (reachable : List (List ℕ)) (command : Place) (fields : Value) → EffectSpares (network.connect_network known.networks reachable command fields)
  connecting_spares known reachable command fields =
      let id = octets_of 0 fields in
      network_spares id (given_number 1 fields) (ConnectNetwork id) (network.connecting known.networks reachable id) refl

  moving_spares : (known : Known) (command : Place) (fields : Value) → EffectSpares (network.reorder_network known.networks command fields)
  moving_spares known command fields =
      let id = octets_of 0 fields in
      let index = number_of 1 fields in
      network_spares id (given_number 2 fields) (MoveNetwork id index) (network.if_place (length known.networks) index (network.found_place known.networks id)) refl

  one_of : (a b c d : Bool) (command : Place) (v w x y : Effect) → EffectSpares v → EffectSpares w → EffectSpares x → EffectSpares y
      → EffectSpares (if a then v else if b then w else if c then x else if d then y else refused_at command UnsupportedCommand)
  one_of true b c d command v w x y first second third fourth = first
  one_of false true c d command v w x y first second third fourth = second
  one_of false false true d command v w x y first second third fourth = third
  one_of false false false true command v w x y first second third fourth = fourth
  one_of false false false false command v w x y first second third fourth = refl

  networks_spare : (known : Known) (reachable : List (List ℕ)) (actor : Actor) (command : Place) (fields : Value) → EffectSpares (network.network_commissioning_effect known reachable actor command fields)
  networks_spare known reachable actor command fields =
      let networks = known.networks in
      one_of (command.leaf == 2) (command.leaf == 4) (command.leaf == 6) (command.leaf == 8) command
      (network.if_owner known actor command (network.add_or_update_network networks command fields))
      (network.if_owner known actor command (network.remove_network networks command fields))
      (network.if_owner known actor command (network.connect_network networks reachable command fields))
      (network.if_owner known actor command (network.reorder_network networks command fields))
      (owner_spares known actor command (network.add_or_update_network networks command fields) (adding_spares known command fields))
      (owner_spares known actor command (network.remove_network networks command fields) (removing_spares known command fields))
      (owner_spares known actor command (network.connect_network networks reachable command fields) (connecting_spares known reachable command fields))
      (owner_spares known actor command (network.reorder_network networks command fields) (moving_spares known command fields))

  pub commission_spares : (known : Known) (reachable : List (List ℕ)) (actor : Actor) (command : Place) (fields : Value) → EffectSpares (commission.invoked known reachable actor command fields)
  commission_spares known reachable actor command fields =
      either (command.cluster == general_commissioning.cluster) (general.general_commissioning_effect known actor command fields)
      (if command.cluster == network_commissioning.cluster then network.network_commissioning_effect known reachable actor command fields else refused_at command UnsupportedCommand)
      (general_spares known actor command fields)
      (either (command.cluster == network_commissioning.cluster) (network.network_commissioning_effect known reachable actor command fields) (refused_at command UnsupportedCommand)
      (networks_spare known reachable actor command fields) refl)
