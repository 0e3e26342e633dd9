-- Commands of other clusters set no group key sets.
use Rattle.std.proofs.Common.{◌≡◌, ℕ, ◌==◌, ◌||◌, not, inl, inr, nat_lt, Bool, true, false, List, [], ◌∷◌, Option, Some, None, Ok, refl, sym, ap, ◌∙◌, subst}
use Rattle.std.specs.List.{list_all}
use Rattle.std.proofs.lemmas.Bool.{and_from, and_parts, and_right, cases_Bool}
use Rattle.mt_tlv.specs.declared.value.Value.{Value}
use Rattle.mt_meta.specs.Finding.{find_data_of}
use Rattle.mt_meta.specs.Given.{number_of}
use Rattle.mt_meta.specs.Stored.{is_stored}
use Rattle.mt_meta.specs.clusters.Bench as bench
use Rattle.mt_meta.specs.Table.{attributes_of, clusters_of, endpoints, extensions_of, globals}
use Rattle.mt_meta.specs.clusters.GroupKeyManagement.{sets}
use Rattle.mt_meta.specs.clusters.OnOff as on_off
use Rattle.mt_model.specs.rows.Sight.{same_place}
use Rattle.mt_model.specs.tables.KeySets.{key_sets}
use Rattle.mt_model.specs.tables.Known.{Known}
use Rattle.mt_model.specs.declared.limits.TheConstants.{LAST_DISCRIMINATOR}
use Rattle.mt_model.specs.declared.node.action.Effect.{Effect}
use Rattle.mt_model.specs.declared.node.action.NodeStep.{NodeStep}
use Rattle.mt_model.specs.declared.node.action.NodeStep.TheVariants.{SetRow, SetEntries, Expire, AddRoot, Csr, AddFabric, UpdateFabric, Label}
use Rattle.mt_model.specs.declared.rows.place.Place.{Place}
use Rattle.mt_model.specs.declared.rows.place.Row.{Row}
use Rattle.mt_model.specs.declared.tables.access.Actor.{Actor}
use Rattle.mt_model.specs.declared.tables.network.Armed.{Armed}
use Rattle.mt_model.specs.declared.tables.network.Network.{Network}
use Rattle.mt_admin.specs.Commands as admin
use Rattle.mt_admin.specs.Windows.{is_open}
use Rattle.mt_apps.specs.Bench.{bench_effect}
use Rattle.mt_apps.specs.Commands.{invoked}
use Rattle.mt_apps.specs.OnOff.{set_on}
use Rattle.mt_commission.specs.Laws as commission
use Rattle.mt_opcreds.specs.Moves.{IsMove, expires, expires_and_leaves, joins, leaves, names, nothing, renews, requests, trusts}
use Rattle.mt_opcreds.specs.RemoveFabric.{leaving}
use Rattle.mt_masks.proofs.Lists.{impossible}
use Rattle.mt_masks.proofs.Rows.{place_same}
use Rattle.mt_masks.proofs.Steps.{spares}

abbrev pub Spared : List NodeStep → Type 0
Spared steps = list_all spares steps ≡ true

weaker : (P Q : NodeStep → Bool) → ((step : NodeStep) → P step ≡ true → Q step ≡ true) → (steps : List NodeStep) → list_all P steps ≡ true → list_all Q steps ≡ true
weaker P Q each [] all = refl
weaker P Q each (step ∷ steps) all =
    let both = and_parts (P step) (list_all P steps) all in
    and_from _ _ (each step both.0) (weaker P Q each steps both.1)

-- Commands of commissioning.

sets_there : find_data_of key_sets ≡ Ok sets.meta
unfolding endpoints clusters_of attributes_of globals extensions_of
sets_there = refl

no_scoped : (stored : Bool) (whose : ℕ) (rows : List Value) → commission.is_sound_row stored whose rows (Ok sets.meta) ≡ true → false ≡ true
no_scoped stored whose rows sound = (and_parts stored false sound).1

row_spares : (place : Place) (whose : ℕ) (rows : List Value) (stored : Bool) → commission.is_sound_row stored whose rows (find_data_of place) ≡ true → spares (SetRow place whose rows) ≡ true
row_spares place whose rows stored sound = elim (cases_Bool (same_place place key_sets)) [
  | inl here ↦ impossible (no_scoped stored whose rows (sym (ap (commission.is_sound_row stored whose rows) (ap find_data_of (place_same place key_sets here) ∙ sets_there)) ∙ sound))
  | inr elsewhere ↦ ap not elsewhere
]

sound_spares : (networks : List Network) (armed : Option Armed) (actor : ℕ) (step : NodeStep) → commission.is_sound_step networks armed actor step ≡ true → spares step ≡ true
sound_spares networks armed actor (SetRow place whose rows) sound = row_spares place whose rows (is_stored place) sound
sound_spares networks armed actor step sound = refl

pub commission_spares : (networks : List Network) (armed : Option Armed) (actor : ℕ) (steps : List NodeStep) → list_all (commission.is_sound_step networks armed actor) steps ≡ true → Spared steps
commission_spares networks armed actor steps sound =
    weaker (commission.is_sound_step networks armed actor) spares (sound_spares networks armed actor) steps sound

-- Commands of Operational Credentials.

these_spare : (steps these : List NodeStep) → steps ≡ these → Spared these → Spared steps
these_spare steps these is stay = subst Spared (sym is) stay

pub moved_spares : (known : Known) (whose : ℕ) (steps : List NodeStep) → IsMove known whose steps → Spared steps
moved_spares known whose steps (nothing is) = these_spare steps [] is refl
moved_spares known whose steps (requests nonce update is) = these_spare steps (Csr nonce update ∷ []) is refl
moved_spares known whose steps (trusts cert is) = these_spare steps (AddRoot cert ∷ []) is refl
moved_spares known whose steps (joins new entries own is) = these_spare steps (AddFabric new ∷ SetEntries new.index entries ∷ []) is refl
moved_spares known whose steps (renews given is) = these_spare steps (UpdateFabric whose given ∷ []) is refl
moved_spares known whose steps (names label is) = these_spare steps (Label whose label ∷ []) is refl
moved_spares known whose steps (leaves index context is) = these_spare steps (leaving index) is refl
moved_spares known whose steps (expires index context was is) = these_spare steps (Expire ∷ []) is refl
moved_spares known whose steps (expires_and_leaves index context was_not is) = these_spare steps (Expire ∷ leaving index) is refl

-- Commands of Administrator Commissioning.

abbrev pub Spares : Effect → Type 0
Spares effect = list_all spares effect.steps ≡ true

opens_spare : (rows_at : Place → List Row) (known : Known) (actor : Actor) (command : Place) (fields : Value) (now : ℕ) → Spares (admin.open_window rows_at known actor command fields now)
opens_spare rows_at known actor command fields now = elim (cases_Bool (not (admin.is_timeout (number_of 0 fields)) || nat_lt LAST_DISCRIMINATOR (number_of 2 fields))) [
  | inl refused ↦ rw refused refl
  | inr may ↦ rw may (elim (cases_Bool (admin.is_busy rows_at known)) [
    | inl busy ↦ rw busy refl
    | inr free ↦ rw free (elim (cases_Bool (admin.is_verified fields)) [ inl verified ↦ rw verified refl | inr not_verified ↦ rw not_verified refl ])
  ])
]

opens_basic_spare : (rows_at : Place → List Row) (known : Known) (actor : Actor) (command : Place) (fields : Value) (now : ℕ) → Spares (admin.open_basic_window rows_at known actor command fields now)
opens_basic_spare rows_at known actor command fields now = elim (cases_Bool (admin.is_timeout (number_of 0 fields))) [
  | inl may ↦ rw may (elim (cases_Bool (admin.is_busy rows_at known)) [ inl busy ↦ rw busy refl | inr free ↦ rw free refl ])
  | inr refused ↦ rw refused refl
]

revoke_spares : (rows_at : Place → List Row) (command : Place) → Spares (admin.revoke rows_at command)
revoke_spares rows_at command = elim (cases_Bool (is_open rows_at)) [ inl there ↦ rw there refl | inr none ↦ rw none refl ]

pub admin_spares : (rows_at : Place → List Row) (known : Known) (actor : Actor) (command : Place) (fields : Value) (now : ℕ) → Spares (admin.invoked rows_at known actor command fields now)
admin_spares rows_at known actor command fields now = elim (cases_Bool (command.leaf == 0)) [
  | inl is ↦ rw is (opens_spare rows_at known actor command fields now)
  | inr other ↦ rw other (elim (cases_Bool (command.leaf == 1)) [
    | inl is ↦ rw is (opens_basic_spare rows_at known actor command fields now)
    | inr another ↦ rw another (elim (cases_Bool (command.leaf == 2)) [ inl is ↦ rw is (revoke_spares rows_at command) | inr none ↦ rw none refl ])
  ])
]

-- Commands of On/Off and of Bench.

on_spares : (command : Place) (on : Option Bool) → Spares (set_on command on)
on_spares command None = refl
on_spares command (Some on) = and_from _ _ (ap not (and_right (command.endpoint == 0) false refl)) refl

ring_spares : (rows_at : Place → List Row) (whose : ℕ) (command : Place) → Spares (bench_effect rows_at whose command)
ring_spares rows_at whose command = elim (cases_Bool (command.leaf == 0)) [ inl ring ↦ rw ring refl | inr none ↦ rw none refl ]

pub apps_spare : (rows_at : Place → List Row) (actor : Actor) (command : Place) → Spares (invoked rows_at actor command)
apps_spare rows_at actor command = elim (cases_Bool (command.cluster == on_off.cluster)) [
  | inl is ↦ rw is (on_spares command _)
  | inr other ↦ rw other (elim (cases_Bool (command.cluster == bench.cluster)) [ inl is ↦ rw is (ring_spares rows_at actor.fabric command) | inr none ↦ rw none refl ])
]
