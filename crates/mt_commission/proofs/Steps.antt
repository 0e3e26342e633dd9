-- The steps of commands whose fields have their form are sound.
use Rattle.std.proofs.Common.{◌≡◌, ℕ, ◌^◌, ◌==◌, ◌&&◌, ◌||◌, inl, inr, nat_le, nat_lt, Bool, true, false, List, [], ◌∷◌, length, Option, Some, None, Ok, Err, refl, sym, ap, ◌∙◌, arith, if◌then◌else◌}
use Rattle.std.specs.Prelude.{bytes_eq, is_none, is_some, ok_or}
use Rattle.std.specs.List.{list_all, list_any}
use Rattle.std.proofs.lemmas.Bool.{and_from, and_parts, cases_Bool}
use Rattle.std.proofs.lemmas.List.Folds.{list_all-append}
use Rattle.mt_tlv.specs.Tree.{Elements}
use Rattle.mt_tlv.specs.View.{tree}
use Rattle.mt_tlv.specs.declared.value.Value.{Value}
use Rattle.mt_tlv.specs.declared.value.Value.TheVariants as values
use Rattle.mt_meta.specs.Fields.{are_within, field_has_type, field_is_within, has_fields, have_types}
use Rattle.mt_meta.specs.Rows.{any_number, any_octets, needed, optional}
use Rattle.mt_meta.specs.Stored.{is_stored}
use Rattle.mt_meta.specs.Table.{attributes_of, clusters_of, command_fields, endpoints, extensions_of, globals}
use Rattle.mt_meta.specs.clusters.GeneralCommissioning as general
use Rattle.mt_meta.specs.clusters.NetworkCommissioning as network
use Rattle.mt_meta.specs.declared.rows.Field.{Field}
use Rattle.mt_meta.specs.declared.rows.Form.TheVariants as forms
use Rattle.mt_model.specs.messages.Effects.{refused_at}
use Rattle.mt_model.specs.declared.messages.status.Status.TheVariants.{FailsafeRequired, UnsupportedCommand}
use Rattle.mt_model.specs.declared.node.action.Effect.{Effect}
use Rattle.mt_model.specs.Trees.{field_in}
use Rattle.mt_model.specs.tables.Known.{Known}
use Rattle.mt_model.specs.texts.Config.{has_up_to}
use Rattle.mt_model.specs.declared.node.action.NodeStep.{NodeStep}
use Rattle.mt_model.specs.declared.node.action.NodeStep.TheVariants.{PutNetwork, RemoveNetwork, ConnectNetwork, MoveNetwork, Arm, Renew, Expire}
use Rattle.mt_model.specs.declared.rows.place.Place.{Place}
use Rattle.mt_model.specs.declared.tables.access.Actor.{Actor}
use Rattle.mt_model.specs.declared.tables.network.Armed.{Armed}
use Rattle.mt_model.specs.declared.tables.network.Network.{Network}
use Rattle.mt_failsafe.specs.Calls.{is_armed_by, is_context, is_of_context}
use Rattle.mt_commission.specs.Answers.{set_breadcrumb, set_value}
use Rattle.mt_meta.specs.Given.{given_number, number_of, octets_of, text_of}
use Rattle.mt_commission.specs.GeneralCommissioning.{arm_fail_safe, armed_effect, arming, commissioning_complete, completed_effect, completing, error_effect, failsafe_steps, general_commissioning_effect, regulatory_steps, renewing, seconds_of, set_regulatory_config}
use Rattle.mt_commission.specs.Laws.{StepsAreSound, is_sound_step, is_there}
use Rattle.mt_commission.specs.NetworkCommissioning.{Outcome, add_or_update_network, breadcrumb_steps, connect_network, connecting, found_place, if_owner, if_place, if_reachable, last_steps, network_commissioning_effect, network_steps, place_among, put_place, putting, remove_network, reorder_network, status_value}
use Rattle.mt_commission.specs.declared.codes.CommissioningError.TheVariants as errors
use Rattle.mt_commission.specs.declared.codes.NetworkStatus.{NetworkStatus}
use Rattle.mt_commission.specs.declared.codes.NetworkStatus.TheVariants as statuses
use Rattle.mt_commission.proofs.Forms.{are_of, fits, fits_or_zero, is_country, number_fits, text_fits}

same_number : (n : ℕ) → (n == n) ≡ true
same_number n = grind arith

-- Rows.

module _ (networks : List Network) (armed : Option Armed) (fabric : ℕ) where
  abbrev P : NodeStep → Bool
  P = is_sound_step networks armed fabric

  breadcrumb_set : (n : ℕ) → nat_lt n (2 ^ 64) ≡ true → P (set_breadcrumb n) ≡ true
  unfolding is_stored endpoints clusters_of attributes_of globals extensions_of
  breadcrumb_set n h = rw h refl

  config_set : (n : ℕ) → nat_lt n (2 ^ 64) ≡ true → P (set_value 0x30 2 (values.Uint n)) ≡ true
  unfolding is_stored endpoints clusters_of attributes_of globals extensions_of
  config_set n h = rw h refl

  location_set : (country : List ℕ) → is_country country ≡ true → P (set_value 0x28 6 (values.Text country)) ≡ true
  unfolding is_stored endpoints clusters_of attributes_of globals extensions_of
  location_set country h = rw h refl

  status_set : (status : NetworkStatus) → P (set_value 0x31 5 (status_value status)) ≡ true
  unfolding is_stored endpoints clusters_of attributes_of globals extensions_of
  status_set statuses.Success = refl
  status_set statuses.OutOfRange = refl
  status_set statuses.BoundsExceeded = refl
  status_set statuses.NetworkIdNotFound = refl
  status_set statuses.OtherConnectionFailure = refl

  id_set : (id : List ℕ) (is_id : Bool) → has_up_to 32 id ≡ is_id → P (set_value 0x31 6 (if is_id then values.Octets id else values.Null)) ≡ true
  unfolding is_stored endpoints clusters_of attributes_of globals extensions_of
  id_set id true h = rw h refl
  id_set id false h = refl

  -- General Commissioning.

  arming_sound : (seconds : ℕ) → armed ≡ None → (none : Bool) → (seconds == 0) ≡ none → list_all P (if none then [] else Arm fabric seconds ∷ []) ≡ true
  arming_sound seconds is true h = refl
  arming_sound seconds is false h = and_from _ _ (and_from _ _ (same_number fabric) (ap is_none is)) refl

  renewing_sound : (seconds : ℕ) → is_armed_by fabric armed ≡ true → (none : Bool) → (seconds == 0) ≡ none → P (if none then Expire else Renew seconds) ≡ true
  renewing_sound seconds is true h = is
  renewing_sound seconds is false h = is

  armed_sound : (command : Place) (breadcrumb : ℕ) → nat_lt breadcrumb (2 ^ 64) ≡ true → (steps : List NodeStep) → list_all P steps ≡ true → list_all P (armed_effect command breadcrumb (Some steps)).steps ≡ true
  armed_sound command breadcrumb h steps sound =
      list_all-append P steps (set_breadcrumb breadcrumb ∷ []) ∙ and_from _ _ sound (and_from _ _ (breadcrumb_set breadcrumb h) refl)

  owned_sound : (command : Place) (breadcrumb seconds : ℕ) → nat_lt breadcrumb (2 ^ 64) ≡ true → (own : Bool) → is_armed_by fabric armed ≡ own
      → list_all P (armed_effect command breadcrumb (if own then Some (renewing seconds ∷ []) else None)).steps ≡ true
  owned_sound command breadcrumb seconds h true is = armed_sound command breadcrumb h (renewing seconds ∷ []) (and_from _ _ (renewing_sound seconds is (seconds == 0) refl) refl)
  owned_sound command breadcrumb seconds h false is = refl

  arm_sound : (command : Place) (breadcrumb seconds : ℕ) → nat_lt breadcrumb (2 ^ 64) ≡ true → (its : Option Armed) → armed ≡ its → list_all P (armed_effect command breadcrumb (failsafe_steps fabric seconds its)).steps ≡ true
  arm_sound command breadcrumb seconds h None is = armed_sound command breadcrumb h (arming fabric seconds) (arming_sound seconds is (seconds == 0) refl)
  arm_sound command breadcrumb seconds h (Some its) is = owned_sound command breadcrumb seconds h (its.owner == fabric) (ap (is_armed_by fabric) is)

  regulatory_sound : (fields : Value) → nat_lt (number_of 0 fields) (2 ^ 64) ≡ true → is_country (text_of 1 fields) ≡ true → nat_lt (number_of 2 fields) (2 ^ 64) ≡ true → list_all P (regulatory_steps fields) ≡ true
  regulatory_sound fields config country breadcrumb =
      and_from _ _ (config_set (number_of 0 fields) config) (and_from _ _ (location_set (text_of 1 fields) country) (and_from _ _ (breadcrumb_set (number_of 2 fields) breadcrumb) refl))

  complete_sound : (command : Place) (actor : Actor) (its : Option Armed) → actor.fabric ≡ fabric → armed ≡ its → list_all P (completed_effect command (completing actor its)).steps ≡ true
  complete_sound command actor None asks is = refl
  complete_sound command actor (Some its) asks is = elim (cases_Bool (is_of_context actor its)) [
    | inl own ↦
        let its_context : is_context fabric armed ≡ true = ap (is_context fabric) is ∙ ap (λ n. its.context == n) (sym asks) ∙ (and_parts _ (its.context == actor.fabric) own).1 in
        rw own (and_from _ _ its_context (and_from _ _ (breadcrumb_set 0 refl) refl))
    | inr other ↦ rw other refl
  ]

  -- Network Commissioning.

  last_sound : (status : NetworkStatus) (id : List ℕ) → list_all P (last_steps status id) ≡ true
  last_sound status id = and_from _ _ (status_set status) (and_from _ _ (id_set id (has_up_to 32 id) refl) refl)

  given_sound : (breadcrumb : Option ℕ) → fits breadcrumb ≡ true → list_all P (breadcrumb_steps breadcrumb) ≡ true
  given_sound None h = refl
  given_sound (Some n) h = and_from _ _ (breadcrumb_set n h) refl

  network_sound : (id : List ℕ) (breadcrumb : Option ℕ) (step : NodeStep) → fits breadcrumb ≡ true → (outcome : Outcome) → ((place : ℕ) → outcome ≡ Ok place → P step ≡ true)
      → list_all P (network_steps id breadcrumb step outcome) ≡ true
  network_sound id breadcrumb step h (Err status) sound = last_sound status id
  network_sound id breadcrumb step h (Ok place) sound =
      and_from _ _ (sound place refl) (list_all-append P (last_steps statuses.Success id) (breadcrumb_steps breadcrumb) ∙ and_from _ _ (last_sound statuses.Success id) (given_sound breadcrumb h))

  found_there : (found : Option ℕ) (place : ℕ) → ok_or found statuses.NetworkIdNotFound ≡ Ok place → is_some found ≡ true
  found_there None place is = absurd (cc)
  found_there (Some there) place is = refl

  found_sound : (id : List ℕ) (place : ℕ) → found_place networks id ≡ Ok place → is_there networks id ≡ true
  found_sound id place is = found_there (place_among networks id) place is

  room : (count place : ℕ) (full : Bool) → nat_le 4 count ≡ full → (if full then Err statuses.BoundsExceeded else Ok count) ≡ Ok place → nat_lt count 4 ≡ true
  room count place true h is = absurd (cc)
  room count place false h is = grind (arith, h)

  put_room : (id : List ℕ) (place : ℕ) (found : Option ℕ) → place_among networks id ≡ found → put_place (length networks) found ≡ Ok place → (is_there networks id || nat_lt (length networks) 4) ≡ true
  put_room id place (Some there) h is = rw h refl
  put_room id place None h is = rw h (room (length networks) place (nat_le 4 (length networks)) refl is)

  put_sound : (id secret : List ℕ) (place : ℕ) (well : Bool) → (has_up_to 32 id && nat_le (length secret) 64) ≡ well
      → (if well then put_place (length networks) (place_among networks id) else Err statuses.OutOfRange) ≡ Ok place → P (PutNetwork id secret) ≡ true
  put_sound id secret place false h is = absurd (cc)
  put_sound id secret place true h is =
      let both = and_parts (has_up_to 32 id) (nat_le (length secret) 64) h in
      and_from _ _ both.0 (and_from _ _ both.1 (put_room id place (place_among networks id) refl is))

  connect_sound : (id : List ℕ) (place : ℕ) (reachable : Bool) (its : Outcome) → found_place networks id ≡ its → if_reachable reachable its ≡ Ok place → is_there networks id ≡ true
  connect_sound id place reachable (Err status) h is = absurd (cc)
  connect_sound id place reachable (Ok there) h is = found_sound id there h

  within : (index place count : ℕ) (well : Bool) → (nat_lt index count && nat_lt index 4) ≡ well → (if well then Ok index else Err statuses.OutOfRange) ≡ Ok place → nat_lt index count ≡ true
  within index place count true h is = (and_parts (nat_lt index count) (nat_lt index 4) h).0
  within index place count false h is = absurd (cc)

  move_sound : (id : List ℕ) (index place : ℕ) (its : Outcome) → found_place networks id ≡ its → if_place (length networks) index its ≡ Ok place → P (MoveNetwork id index) ≡ true
  move_sound id index place (Err status) h is = absurd (cc)
  move_sound id index place (Ok there) h is =
      and_from _ _ (found_sound id there h) (within index place (length networks) (nat_lt index (length networks) && nat_lt index 4) refl is)

  owner_sound : (own : Bool) (command : Place) (effect : Effect) → list_all P effect.steps ≡ true → list_all P (if own then effect else refused_at command FailsafeRequired).steps ≡ true
  owner_sound true command effect h = h
  owner_sound false command effect h = refl

-- What the fields of a command are.

first_type : (row : Field) (rows : List Field) (es : Elements) → have_types (row ∷ rows) es ≡ true → (field_has_type row (field_in row.number es) ≡ true) × (have_types rows es ≡ true)
first_type row rows es h = and_parts (field_has_type row (field_in row.number es)) (have_types rows es) h

first_limit : (row : Field) (rows : List Field) (es : Elements) → are_within (row ∷ rows) es ≡ true → (field_is_within row (field_in row.number es) ≡ true) × (are_within rows es ≡ true)
first_limit row rows es h = and_parts (field_is_within row (field_in row.number es)) (are_within rows es) h

given_fits : (fields : Value) (es : Elements) (number : ℕ) (is_needed : Bool) → fields ≡ values.Struct es → field_has_type (record { number = number; needed = is_needed; form = any_number }) (field_in number es) ≡ true → fits (given_number number fields) ≡ true
given_fits fields es number is_needed is h = rw is (number_fits number is_needed (field_in number es) h)

module _ (fields : Value) where
  arm_form : has_fields general.arm_fail_safe_fields (tree fields) ≡ true → nat_lt (number_of 1 fields) (2 ^ 64) ≡ true
  arm_form h =
      let a = are_of general.arm_fail_safe_fields fields h in
      let behind = first_type (needed 0 (forms.Uint 0xffff)) (needed 1 any_number ∷ []) a.members a.types in
      fits_or_zero (given_number 1 fields) (given_fits fields a.members 1 true a.is (first_type (needed 1 any_number) [] a.members behind.1).0)

  regulatory_form : has_fields general.set_regulatory_config_fields (tree fields) ≡ true
      → (nat_lt (number_of 0 fields) (2 ^ 64) ≡ true) × ((is_country (text_of 1 fields) ≡ true) × (nat_lt (number_of 2 fields) (2 ^ 64) ≡ true))
  regulatory_form h =
      let a = are_of general.set_regulatory_config_fields fields h in
      let one = first_type (needed 0 any_number) (needed 1 (forms.Text 2 2) ∷ needed 2 any_number ∷ []) a.members a.types in
      let two = first_type (needed 1 (forms.Text 2 2)) (needed 2 any_number ∷ []) a.members one.1 in
      let three = first_type (needed 2 any_number) [] a.members two.1 in
      let limits = first_limit (needed 0 any_number) (needed 1 (forms.Text 2 2) ∷ needed 2 any_number ∷ []) a.members a.limits in
      let limit = first_limit (needed 1 (forms.Text 2 2)) (needed 2 any_number ∷ []) a.members limits.1 in
      let country : is_country (text_of 1 fields) ≡ true = rw a.is (text_fits 1 (field_in 1 a.members) two.0 limit.0) in (
        fits_or_zero (given_number 0 fields) (given_fits fields a.members 0 true a.is one.0),
        (country, fits_or_zero (given_number 2 fields) (given_fits fields a.members 2 true a.is three.0)),
      )

  add_form : has_fields network.add_or_update_wifi_network_fields (tree fields) ≡ true → fits (given_number 2 fields) ≡ true
  add_form h =
      let a = are_of network.add_or_update_wifi_network_fields fields h in
      let one = first_type (needed 0 any_octets) (needed 1 any_octets ∷ optional 2 any_number ∷ []) a.members a.types in
      let two = first_type (needed 1 any_octets) (optional 2 any_number ∷ []) a.members one.1 in
      given_fits fields a.members 2 false a.is (first_type (optional 2 any_number) [] a.members two.1).0

  network_form : has_fields network.network_fields (tree fields) ≡ true → fits (given_number 1 fields) ≡ true
  network_form h =
      let a = are_of network.network_fields fields h in
      let one = first_type (needed 0 any_octets) (optional 1 any_number ∷ []) a.members a.types in
      given_fits fields a.members 1 false a.is (first_type (optional 1 any_number) [] a.members one.1).0

  reorder_form : has_fields network.reorder_network_fields (tree fields) ≡ true → fits (given_number 2 fields) ≡ true
  reorder_form h =
      let a = are_of network.reorder_network_fields fields h in
      let one = first_type (needed 0 any_octets) (needed 1 any_number ∷ optional 2 any_number ∷ []) a.members a.types in
      let two = first_type (needed 1 any_number) (optional 2 any_number ∷ []) a.members one.1 in
      given_fits fields a.members 2 false a.is (first_type (optional 2 any_number) [] a.members two.1).0

-- Commands.

module _ (known : Known) (reachable : List (List ℕ)) (actor : Actor) (command : Place) (fields : Value) where
  abbrev passes : Effect → Type 0
  passes effect = list_all (is_sound_step known.networks known.armed actor.fabric) effect.steps ≡ true

  regulatory_by : (above : Bool) → list_all (is_sound_step known.networks known.armed actor.fabric) (regulatory_steps fields) ≡ true
      → passes (if above then error_effect command 3 errors.ValueOutsideRange [] else error_effect command 3 errors.Ok (regulatory_steps fields))
  regulatory_by true h = refl
  regulatory_by false h = h

  general_by : (zero two four : Bool) → has_fields (if zero then general.arm_fail_safe_fields else if two then general.set_regulatory_config_fields else []) (tree fields) ≡ true
      → passes (if zero then arm_fail_safe known actor command fields else if two then set_regulatory_config command fields else if four then commissioning_complete known actor command else refused_at command UnsupportedCommand)
  general_by true two four h = arm_sound known.networks known.armed actor.fabric command (number_of 1 fields) (seconds_of fields) (arm_form fields h) known.armed refl
  general_by false true four h =
      let form = regulatory_form fields h in
      regulatory_by (nat_lt 2 (number_of 0 fields)) (regulatory_sound known.networks known.armed actor.fabric fields form.0 form.1.0 form.1.1)
  general_by false false true h = complete_sound known.networks known.armed actor.fabric command actor known.armed refl refl
  general_by false false false h = refl

  put_passes : fits (given_number 2 fields) ≡ true → passes (add_or_update_network known.networks command fields)
  put_passes h =
      network_sound known.networks known.armed actor.fabric (octets_of 0 fields) (given_number 2 fields) (PutNetwork (octets_of 0 fields) (octets_of 1 fields)) h (putting known.networks (octets_of 0 fields) (octets_of 1 fields))
      (λ place is. put_sound known.networks known.armed actor.fabric (octets_of 0 fields) (octets_of 1 fields) place (has_up_to 32 (octets_of 0 fields) && nat_le (length (octets_of 1 fields)) 64) refl is)

  remove_passes : fits (given_number 1 fields) ≡ true → passes (remove_network known.networks command fields)
  remove_passes h =
      network_sound known.networks known.armed actor.fabric (octets_of 0 fields) (given_number 1 fields) (RemoveNetwork (octets_of 0 fields)) h (found_place known.networks (octets_of 0 fields))
      (λ place is. found_sound known.networks known.armed actor.fabric (octets_of 0 fields) place is)

  connect_passes : fits (given_number 1 fields) ≡ true → passes (connect_network known.networks reachable command fields)
  connect_passes h =
      network_sound known.networks known.armed actor.fabric (octets_of 0 fields) (given_number 1 fields) (ConnectNetwork (octets_of 0 fields)) h (connecting known.networks reachable (octets_of 0 fields))
      (λ place is. connect_sound known.networks known.armed actor.fabric (octets_of 0 fields) place (list_any (bytes_eq (octets_of 0 fields)) reachable) (found_place known.networks (octets_of 0 fields)) refl is)

  reorder_passes : fits (given_number 2 fields) ≡ true → passes (reorder_network known.networks command fields)
  reorder_passes h =
      network_sound known.networks known.armed actor.fabric (octets_of 0 fields) (given_number 2 fields) (MoveNetwork (octets_of 0 fields) (number_of 1 fields)) h (if_place (length known.networks) (number_of 1 fields) (found_place known.networks (octets_of 0 fields)))
      (λ place is. move_sound known.networks known.armed actor.fabric (octets_of 0 fields) (number_of 1 fields) place (found_place known.networks (octets_of 0 fields)) refl is)

  owned : (effect : Effect) → passes effect → passes (if_owner known actor command effect)
  owned effect h = owner_sound known.networks known.armed actor.fabric (is_armed_by actor.fabric known.armed) command effect h

  network_by : (two four six eight : Bool)
      → has_fields (if two then network.add_or_update_wifi_network_fields else if four then network.network_fields else if six then network.network_fields else if eight then network.reorder_network_fields else []) (tree fields) ≡ true
      → passes
      (if two then if_owner known actor command (add_or_update_network known.networks command fields)
      else if four then if_owner known actor command (remove_network known.networks command fields)
      else if six then if_owner known actor command (connect_network known.networks reachable command fields)
      else if eight then if_owner known actor command (reorder_network known.networks command fields)
      else refused_at command UnsupportedCommand)
  network_by true four six eight h = owned (add_or_update_network known.networks command fields) (put_passes (add_form fields h))
  network_by false true six eight h = owned (remove_network known.networks command fields) (remove_passes (network_form fields h))
  network_by false false true eight h = owned (connect_network known.networks reachable command fields) (connect_passes (network_form fields h))
  network_by false false false true h = owned (reorder_network known.networks command fields) (reorder_passes (reorder_form fields h))
  network_by false false false false h = refl

  invoked_by : (rest : List Field) (is_general is_network : Bool)
      → has_fields (if is_general then general.command_fields command.leaf else if is_network then network.command_fields command.leaf else rest) (tree fields) ≡ true
      → passes (if is_general then general_commissioning_effect known actor command fields else if is_network then network_commissioning_effect known reachable actor command fields else refused_at command UnsupportedCommand)
  invoked_by rest true is_network h = general_by (command.leaf == 0) (command.leaf == 2) (command.leaf == 4) h
  invoked_by rest false true h = network_by (command.leaf == 2) (command.leaf == 4) (command.leaf == 6) (command.leaf == 8) h
  invoked_by rest false false h = refl

pub steps_sound : StepsAreSound
unfolding command_fields
steps_sound known reachable actor command fields h = invoked_by known reachable actor command fields _ (command.cluster == general.cluster) (command.cluster == network.cluster) h
