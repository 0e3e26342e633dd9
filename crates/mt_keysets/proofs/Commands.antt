-- What commands of other clusters make of the group key sets of a fabric: nothing.
use Rattle.std.proofs.Common.{◌≡◌, ◌≢◌, ℕ, ◌==◌, ◌&&◌, ◌||◌, not, inl, inr, length, nat_lt, Bool, true, List, [], ◌∷◌, Option, Some, None, Result, Ok, Err, refl, sym, ap, ◌∙◌, subst}
use Rattle.std.specs.List.{list_all}
use Rattle.std.proofs.lemmas.Bool.{and_from, and_parts, and_right, cases_Bool, eqb-true}
use Rattle.mt_tlv.specs.declared.value.Value.{Value}
use Rattle.mt_tlv.specs.declared.value.Value.TheVariants as values
use Rattle.mt_meta.specs.Finding.{find_data_of}
use Rattle.mt_meta.specs.Forms.{has_form}
use Rattle.mt_meta.specs.Given.{number_of}
use Rattle.mt_meta.specs.Stored.{is_stored}
use Rattle.mt_meta.specs.clusters.Bench as bench
use Rattle.mt_meta.specs.clusters.OnOff as on_off
use Rattle.mt_meta.specs.declared.meta.Meta.{Meta}
use Rattle.mt_model.specs.rows.Sight.{same_place}
use Rattle.mt_model.specs.tables.KeySets.{key_sets}
use Rattle.mt_model.specs.tables.Known.{Known}
use Rattle.mt_model.specs.declared.limits.TheConstants.{LAST_DISCRIMINATOR}
use Rattle.mt_model.specs.declared.messages.status.Status.{Status}
use Rattle.mt_model.specs.declared.node.action.Effect.{Effect}
use Rattle.mt_model.specs.declared.node.action.NodeStep.{NodeStep}
use Rattle.mt_model.specs.declared.node.action.NodeStep.TheVariants.{SetRow, SetEntries, Expire, AddRoot, Csr, AddFabric, UpdateFabric, Label}
use Rattle.mt_model.specs.declared.rows.place.Place.{Place}
use Rattle.mt_model.specs.declared.rows.place.Row.{Row}
use Rattle.mt_model.specs.declared.tables.access.Actor.{Actor}
use Rattle.mt_model.specs.declared.tables.network.Armed.{Armed}
use Rattle.mt_model.specs.declared.tables.network.Network.{Network}
use Rattle.mt_admin.specs.Commands as admin
use Rattle.mt_admin.specs.Windows.{is_open}
use Rattle.mt_apps.specs.Bench.{bench_effect}
use Rattle.mt_apps.specs.Commands.{invoked}
use Rattle.mt_apps.specs.OnOff.{on_off_at, set_on}
use Rattle.mt_commission.specs.Laws as commission
use Rattle.mt_opcreds.specs.Moves.{IsMove, expires, expires_and_leaves, joins, leaves, names, nothing, renews, requests, trusts}
use Rattle.mt_opcreds.specs.RemoveFabric.{leaving}
use Rattle.mt_keysets.proofs.Rows.{impossible, not_nobody}
use Rattle.mt_keysets.proofs.Steps.{Stays, all_stay, join_stays, spares}

weaker : (P Q : NodeStep → Bool) → ((step : NodeStep) → P step ≡ true → Q step ≡ true) → (steps : List NodeStep) → list_all P steps ≡ true → list_all Q steps ≡ true
weaker P Q each [] all = refl
weaker P Q each (step ∷ steps) all =
    let both = and_parts (P step) (list_all P steps) all in
    and_from _ _ (each step both.0) (weaker P Q each steps both.1)

module _ (fabric : ℕ) (some : fabric ≢ 0) where
  -- rows of nobody are none of its sets
  nobodys_spare : (place : Place) (whose : ℕ) (rows : List Value) → (whose == 0) ≡ true → spares fabric (SetRow place whose rows) ≡ true
  nobodys_spare place whose rows nobodys =
      ap not (and_right (same_place key_sets place) (fabric == whose) (ap (λ (n : ℕ). fabric == n) (eqb-true whose 0 nobodys) ∙ not_nobody fabric some))

  -- Commands of commissioning.

  row_spares : (place : Place) (whose : ℕ) (rows : List Value) (stored : Bool) (found : Result Meta Status) → commission.is_sound_row stored whose rows found ≡ true → spares fabric (SetRow place whose rows) ≡ true
  row_spares place whose rows stored (Err status) sound = impossible sound
  row_spares place whose rows stored (Ok meta) sound =
      let one = and_parts stored (not meta.scoped && (whose == 0 && (length rows == 1 && list_all (has_form meta whose) rows))) sound in
      let two = and_parts (not meta.scoped) (whose == 0 && (length rows == 1 && list_all (has_form meta whose) rows)) one.1 in
      let three = and_parts (whose == 0) (length rows == 1 && list_all (has_form meta whose) rows) two.1 in
      nobodys_spare place whose rows three.0

  sound_spares : (networks : List Network) (armed : Option Armed) (actor : ℕ) (step : NodeStep) → commission.is_sound_step networks armed actor step ≡ true → spares fabric step ≡ true
  sound_spares networks armed actor (SetRow place whose rows) sound = row_spares place whose rows (is_stored place) (find_data_of place) sound
  sound_spares networks armed actor (AddFabric new) sound = impossible sound
  sound_spares networks armed actor step sound = refl

  pub commission_stays : (networks : List Network) (armed : Option Armed) (actor : ℕ) (steps : List NodeStep) → list_all (commission.is_sound_step networks armed actor) steps ≡ true → Stays fabric steps
  commission_stays networks armed actor steps sound =
      all_stay fabric steps (weaker (commission.is_sound_step networks armed actor) (spares fabric) (sound_spares networks armed actor) steps sound)

  -- Commands of Operational Credentials.

  these_stay : (steps these : List NodeStep) → steps ≡ these → Stays fabric these → Stays fabric steps
  these_stay steps these is stay = subst (Stays fabric) (sym is) stay

  pub moved_stays : (known : Known) (whose : ℕ) (steps : List NodeStep) → IsMove known whose steps → Stays fabric steps
  moved_stays known whose steps (nothing is) = these_stay steps [] is (all_stay fabric [] refl)
  moved_stays known whose steps (requests nonce update is) = these_stay steps (Csr nonce update ∷ []) is (all_stay fabric (Csr nonce update ∷ []) refl)
  moved_stays known whose steps (trusts cert is) = these_stay steps (AddRoot cert ∷ []) is (all_stay fabric (AddRoot cert ∷ []) refl)
  moved_stays known whose steps (joins new entries own is) = these_stay steps (AddFabric new ∷ SetEntries new.index entries ∷ []) is (join_stays fabric new (SetEntries new.index entries ∷ []) refl)
  moved_stays known whose steps (renews given is) = these_stay steps (UpdateFabric whose given ∷ []) is (all_stay fabric (UpdateFabric whose given ∷ []) refl)
  moved_stays known whose steps (names label is) = these_stay steps (Label whose label ∷ []) is (all_stay fabric (Label whose label ∷ []) refl)
  moved_stays known whose steps (leaves index context is) = these_stay steps (leaving index) is (all_stay fabric (leaving index) refl)
  moved_stays known whose steps (expires index context was is) = these_stay steps (Expire ∷ []) is (all_stay fabric (Expire ∷ []) refl)
  moved_stays known whose steps (expires_and_leaves index context was_not is) = these_stay steps (Expire ∷ leaving index) is (all_stay fabric (Expire ∷ leaving index) refl)

  -- Commands of Administrator Commissioning.

  abbrev Spares : Effect → Type 0
  Spares effect = list_all (spares fabric) effect.steps ≡ true

  opens_spare : (rows_at : Place → List Row) (known : Known) (actor : Actor) (command : Place) (fields : Value) (now : ℕ) → Spares (admin.open_window rows_at known actor command fields now)
  opens_spare rows_at known actor command fields now = elim (cases_Bool (not (admin.is_timeout (number_of 0 fields)) || nat_lt LAST_DISCRIMINATOR (number_of 2 fields))) [
    | inl refused ↦ rw refused refl
    | inr may ↦ rw may (elim (cases_Bool (admin.is_busy rows_at known)) [
      | inl busy ↦ rw busy refl
      | inr free ↦ rw free (elim (cases_Bool (admin.is_verified fields)) [ inl verified ↦ rw verified refl | inr not_verified ↦ rw not_verified refl ])
    ])
  ]

  opens_basic_spare : (rows_at : Place → List Row) (known : Known) (actor : Actor) (command : Place) (fields : Value) (now : ℕ) → Spares (admin.open_basic_window rows_at known actor command fields now)
  opens_basic_spare rows_at known actor command fields now = elim (cases_Bool (admin.is_timeout (number_of 0 fields))) [
    | inl may ↦ rw may (elim (cases_Bool (admin.is_busy rows_at known)) [ inl busy ↦ rw busy refl | inr free ↦ rw free refl ])
    | inr refused ↦ rw refused refl
  ]

  revoke_spares : (rows_at : Place → List Row) (command : Place) → Spares (admin.revoke rows_at command)
  revoke_spares rows_at command = elim (cases_Bool (is_open rows_at)) [ inl there ↦ rw there refl | inr none ↦ rw none refl ]

  admin_spares : (rows_at : Place → List Row) (known : Known) (actor : Actor) (command : Place) (fields : Value) (now : ℕ) → Spares (admin.invoked rows_at known actor command fields now)
  admin_spares rows_at known actor command fields now = elim (cases_Bool (command.leaf == 0)) [
    | inl is ↦ rw is (opens_spare rows_at known actor command fields now)
    | inr other ↦ rw other (elim (cases_Bool (command.leaf == 1)) [
      | inl is ↦ rw is (opens_basic_spare rows_at known actor command fields now)
      | inr another ↦ rw another (elim (cases_Bool (command.leaf == 2)) [ inl is ↦ rw is (revoke_spares rows_at command) | inr none ↦ rw none refl ])
    ])
  ]

  pub admin_stays : (rows_at : Place → List Row) (known : Known) (actor : Actor) (command : Place) (fields : Value) (now : ℕ) → Stays fabric (admin.invoked rows_at known actor command fields now).steps
  admin_stays rows_at known actor command fields now = all_stay fabric (admin.invoked rows_at known actor command fields now).steps (admin_spares rows_at known actor command fields now)

  -- Commands of On/Off and of Bench.

  on_spares : (command : Place) (on : Option Bool) → Spares (set_on command on)
  on_spares command None = refl
  on_spares command (Some on) = and_from _ _ (nobodys_spare (on_off_at command.endpoint) 0 (values.Bool on ∷ []) refl) refl

  ring_spares : (rows_at : Place → List Row) (whose : ℕ) (command : Place) → Spares (bench_effect rows_at whose command)
  ring_spares rows_at whose command = elim (cases_Bool (command.leaf == 0)) [ inl ring ↦ rw ring refl | inr none ↦ rw none refl ]

  apps_spare : (rows_at : Place → List Row) (actor : Actor) (command : Place) → Spares (invoked rows_at actor command)
  apps_spare rows_at actor command = elim (cases_Bool (command.cluster == on_off.cluster)) [
    | inl is ↦ rw is (on_spares command _)
    | inr other ↦ rw other (elim (cases_Bool (command.cluster == bench.cluster)) [ inl is ↦ rw is (ring_spares rows_at actor.fabric command) | inr none ↦ rw none refl ])
  ]

  pub apps_stay : (rows_at : Place → List Row) (actor : Actor) (command : Place) → Stays fabric (invoked rows_at actor command).steps
  apps_stay rows_at actor command = all_stay fabric (invoked rows_at actor command).steps (apps_spare rows_at actor command)
