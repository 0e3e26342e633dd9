-- What holds of the steps of commands and of the events of writes: they set the rows of nobody at places that are stored, and tell
-- the asker's fabric of something.
use Rattle.std.proofs.Common.{◌≡◌, ℕ, ◌==◌, inl, inr, not, Bool, true, false, List, [], ◌∷◌, Option, Some, None, Ok, refl, sym, ap, ◌∙◌, arith, if◌then◌else◌}
use Rattle.std.specs.List.{list_all}
use Rattle.std.proofs.lemmas.Bool.{and_from, cases_Bool, eqb-true}
use Rattle.std.proofs.lemmas.List.Folds.{list_all-append}
use Rattle.mt_tlv.specs.declared.value.Value.{Value}
use Rattle.mt_tlv.specs.declared.value.Value.TheVariants as values
use Rattle.mt_meta.specs.Finding.{find_command_of, find_data_of, found, has_cluster, is_endpoint, missing_of}
use Rattle.mt_meta.specs.Stored.{is_stored}
use Rattle.mt_meta.specs.Table.{attributes_of, extensions_of, globals}
use Rattle.mt_meta.specs.clusters.Bench as bench
use Rattle.mt_meta.specs.clusters.OnOff as on_off
use Rattle.mt_meta.specs.declared.meta.CommandMeta.{CommandMeta}
use Rattle.mt_meta.specs.declared.meta.Kind.TheVariants as kinds
use Rattle.mt_meta.specs.declared.meta.Meta.{Meta}
use Rattle.mt_model.specs.rows.Same.{is_same_entry}
use Rattle.mt_model.specs.declared.messages.status.Status.{Status}
use Rattle.mt_model.specs.declared.messages.status.Status.TheVariants.{UnsupportedCluster, UnsupportedEndpoint}
use Rattle.mt_model.specs.declared.node.action.NodeStep.{NodeStep}
use Rattle.mt_model.specs.declared.node.action.NodeStep.TheVariants.{SetRow, SetEntries, PutNetwork, RemoveNetwork, ConnectNetwork, MoveNetwork, Arm, Renew, Expire, Complete, AddRoot, Csr, AddFabric, UpdateFabric, RemoveFabric, Label, Emit}
use Rattle.mt_model.specs.declared.rows.place.Place.{Place}
use Rattle.mt_model.specs.declared.rows.place.Row.{Row}
use Rattle.mt_model.specs.declared.tables.access.AclEntry.{AclEntry}
use Rattle.mt_model.specs.declared.tables.access.Actor.{Actor}
use Rattle.mt_model.specs.declared.tables.access.Privilege.TheVariants.{View}
use Rattle.mt_model.specs.declared.tables.fabric.Fabric.{Fabric}
use Rattle.mt_apps.specs.Bench.{bench_effect}
use Rattle.mt_apps.specs.Commands.{invoked}
use Rattle.mt_apps.specs.EntryEvents.{entry_event, entry_events, events_between, if_changed}
use Rattle.mt_apps.specs.OnOff.{on_off_at, set_on}
use Rattle.mt_write.specs.Laws.{is_own_step}
use Rattle.mt_machine.specs.Taking.{fits}

-- On/Off is there where one of its commands is.

found_there : {X : Type 0} (missing : Option Status) (row : Option X) (status : Status) (x : X) → found missing row status ≡ Ok x → missing ≡ None
found_there (Some s) row status x is = absurd (cc)
found_there None row status x is = refl

missing_at : ℕ → ℕ → Option Status
missing_at endpoint cluster = if not (is_endpoint endpoint) then Some UnsupportedEndpoint
    else if not (has_cluster endpoint cluster) then Some UnsupportedCluster
    else None

abbrev pub on_off_meta : Meta
on_off_meta = record { kind = kinds.Bool; read = View; write = None; scoped = false; timed = false; kept = true; least = 0; limit = 0 }

on_off_found : (endpoint : ℕ) → missing_of (on_off_at endpoint) ≡ None → find_data_of (on_off_at endpoint) ≡ Ok on_off_meta
unfolding attributes_of globals extensions_of
on_off_found endpoint there = rw there refl

on_off_is : (command : Place) (meta : CommandMeta) → (command.cluster == on_off.cluster) ≡ true → find_command_of command ≡ Ok meta → find_data_of (on_off_at command.endpoint) ≡ Ok on_off_meta
unfolding missing_at
on_off_is command meta is there =
    on_off_found command.endpoint
    (ap (missing_at command.endpoint) (sym (eqb-true command.cluster on_off.cluster is)) ∙ found_there (missing_of command) _ _ meta there)

-- What passes a test where events of the actor's fabric do, and rows of On/Off.
module _ (P : NodeStep → Bool) (actor : Actor) (told : (place : Place) (priority : ℕ) (value : Value) → P (Emit place priority actor.fabric value) ≡ true) where
  event_passes : (change : ℕ) (entry : AclEntry) → P (entry_event actor change entry) ≡ true
  unfolding entry_event
  event_passes change entry = told _ _ _

  changed_pass : (old new : AclEntry) (same : Bool) → list_all P (if same then [] else entry_event actor 0 new ∷ []) ≡ true
  changed_pass old new true = refl
  changed_pass old new false = and_from _ _ (event_passes 0 new) refl

  between_pass : (entries others : List AclEntry) → list_all P (events_between actor entries others) ≡ true
  between_pass [] [] = refl
  between_pass [] (new ∷ others) = and_from _ _ (event_passes 1 new) (between_pass [] others)
  between_pass (old ∷ entries) [] = and_from _ _ (event_passes 2 old) (between_pass entries [])
  between_pass (old ∷ entries) (new ∷ others) =
      list_all-append P (if_changed actor old new) (events_between actor entries others)
      ∙ and_from _ _ (changed_pass old new (is_same_entry old new)) (between_pass entries others)

  pub events_pass : (entries : List AclEntry) (steps : List NodeStep) → list_all P (entry_events actor entries steps) ≡ true
  events_pass entries [] = refl
  events_pass entries (SetRow place whose rows ∷ steps) = events_pass entries steps
  events_pass entries (SetEntries whose new ∷ steps) =
      list_all-append P (events_between actor entries new) (entry_events actor new steps)
      ∙ and_from _ _ (between_pass entries new) (events_pass new steps)
  events_pass entries (PutNetwork id secret ∷ steps) = events_pass entries steps
  events_pass entries (RemoveNetwork id ∷ steps) = events_pass entries steps
  events_pass entries (ConnectNetwork id ∷ steps) = events_pass entries steps
  events_pass entries (MoveNetwork id index ∷ steps) = events_pass entries steps
  events_pass entries (Arm owner seconds ∷ steps) = events_pass entries steps
  events_pass entries (Renew seconds ∷ steps) = events_pass entries steps
  events_pass entries (Expire ∷ steps) = events_pass entries steps
  events_pass entries (Complete ∷ steps) = events_pass entries steps
  events_pass entries (AddRoot cert ∷ steps) = events_pass entries steps
  events_pass entries (Csr nonce update ∷ steps) = events_pass entries steps
  events_pass entries (AddFabric joins ∷ steps) = events_pass entries steps
  events_pass entries (UpdateFabric index given ∷ steps) = events_pass entries steps
  events_pass entries (RemoveFabric index ∷ steps) = events_pass entries steps
  events_pass entries (Label index label ∷ steps) = events_pass entries steps
  events_pass entries (Emit place priority whose value ∷ steps) = events_pass entries steps

  module _ (set : (endpoint : ℕ) (on : Bool) → find_data_of (on_off_at endpoint) ≡ Ok on_off_meta → P (SetRow (on_off_at endpoint) 0 (values.Bool on ∷ [])) ≡ true) where
    set_passes : (command : Place) (on : Option Bool) → find_data_of (on_off_at command.endpoint) ≡ Ok on_off_meta → list_all P (set_on command on).steps ≡ true
    set_passes command None there = refl
    set_passes command (Some on) there = and_from _ _ (set command.endpoint on there) refl

    ring_passes : (rows_at : Place → List Row) (command : Place) → list_all P (bench_effect rows_at actor.fabric command).steps ≡ true
    ring_passes rows_at command = elim (cases_Bool (command.leaf == 0)) [
      | inl ring ↦ rw ring (and_from _ _ (told _ _ _) refl)
      | inr other ↦ rw other refl
    ]

    pub invoked_pass : (rows_at : Place → List Row) (command : Place) (meta : CommandMeta) → find_command_of command ≡ Ok meta → list_all P (invoked rows_at actor command).steps ≡ true
    invoked_pass rows_at command meta there = elim (cases_Bool (command.cluster == on_off.cluster)) [
      | inl is ↦ rw is (set_passes command _ (on_off_is command meta is there))
      | inr other ↦ rw other (elim (cases_Bool (command.cluster == bench.cluster)) [
        | inl is ↦ rw is (ring_passes rows_at command)
        | inr neither ↦ rw neither refl
      ])
    ]

-- They are the asker's own, and fit the state.

same_number : (n : ℕ) → (n == n) ≡ true
same_number n = grind arith

own_set : (actor : Actor) (endpoint : ℕ) (on : Bool) → find_data_of (on_off_at endpoint) ≡ Ok on_off_meta → is_own_step actor (SetRow (on_off_at endpoint) 0 (values.Bool on ∷ [])) ≡ true
own_set actor endpoint on there = rw there refl

fitting_set : (fabrics : List Fabric) (endpoint : ℕ) (on : Bool) → find_data_of (on_off_at endpoint) ≡ Ok on_off_meta → fits fabrics (SetRow (on_off_at endpoint) 0 (values.Bool on ∷ [])) ≡ true
unfolding is_stored attributes_of globals extensions_of
fitting_set fabrics endpoint on there = rw there refl

pub own_events : (actor : Actor) (entries : List AclEntry) (steps : List NodeStep) → list_all (is_own_step actor) (entry_events actor entries steps) ≡ true
own_events actor = events_pass (is_own_step actor) actor (λ place priority value. same_number actor.fabric)

pub own_invoked : (actor : Actor) (rows_at : Place → List Row) (command : Place) (meta : CommandMeta) → find_command_of command ≡ Ok meta → list_all (is_own_step actor) (invoked rows_at actor command).steps ≡ true
own_invoked actor = invoked_pass (is_own_step actor) actor (λ place priority value. same_number actor.fabric) (own_set actor)

pub fitting_events : (fabrics : List Fabric) (actor : Actor) (entries : List AclEntry) (steps : List NodeStep) → list_all (fits fabrics) (entry_events actor entries steps) ≡ true
fitting_events fabrics actor = events_pass (fits fabrics) actor (λ place priority value. refl)

pub fitting_invoked : (fabrics : List Fabric) (actor : Actor) (rows_at : Place → List Row) (command : Place) (meta : CommandMeta) → find_command_of command ≡ Ok meta → list_all (fits fabrics) (invoked rows_at actor command).steps ≡ true
fitting_invoked fabrics actor = invoked_pass (fits fabrics) actor (λ place priority value. refl) (fitting_set fabrics)
