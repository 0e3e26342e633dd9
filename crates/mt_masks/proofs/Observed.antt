-- What is answered of rows that agree but at the place of key sets: reads, writes and commands of other clusters are the same, since no path
-- names that place and these commands ask none.
use Rattle.std.proofs.Common.{◌≡◌, ℕ, ◌==◌, inl, inr, Bool, true, false, List, [], ◌∷◌, Option, Some, None, Result, Err, refl, sym, ap, ◌∙◌, if◌then◌else◌}
use Rattle.std.specs.List.{flat_map, list_any}
use Rattle.std.proofs.lemmas.Bool.{and_right, cases_Bool}
use Rattle.mt_tlv.specs.declared.value.Value.{Value}
use Rattle.mt_meta.specs.Finding.{find_of}
use Rattle.mt_meta.specs.Places.{is_not_global, places}
use Rattle.mt_meta.specs.Table.{attributes_of, clusters_of, endpoints, extensions_of, globals}
use Rattle.mt_model.specs.messages.Blocks.{path_of, place_named}
use Rattle.mt_model.specs.messages.Status.{code_of}
use Rattle.mt_model.specs.rows.Seen.{Seen}
use Rattle.mt_model.specs.rows.Sight.{is_key_sets, same_place}
use Rattle.mt_model.specs.tables.KeySets.{key_sets}
use Rattle.mt_model.specs.tables.Known.{Known}
use Rattle.mt_model.specs.declared.messages.message.Item.TheVariants.{Refused}
use Rattle.mt_model.specs.declared.messages.message.Path.{Path}
use Rattle.mt_model.specs.declared.messages.message.WriteItem.{WriteItem}
use Rattle.mt_model.specs.declared.messages.status.Status.{Status}
use Rattle.mt_model.specs.declared.messages.status.Status.TheVariants.{UnsupportedAccess, UnsupportedAttribute}
use Rattle.mt_model.specs.declared.node.action.NodeStep.{NodeStep}
use Rattle.mt_model.specs.declared.node.state.Version.{Version}
use Rattle.mt_model.specs.declared.rows.place.Place.{Place}
use Rattle.mt_model.specs.declared.rows.place.Row.{Row}
use Rattle.mt_model.specs.declared.tables.access.Actor.{Actor}
use Rattle.mt_admin.specs.Commands as admin
use Rattle.mt_admin.specs.Windows.{ticked}
use Rattle.mt_apps.specs.Commands as apps
use Rattle.mt_read.specs.Reading.{concrete_items, found_items, granted_items, items_at, may_read, read_answer, wildcard_items}
use Rattle.mt_write.specs.Writing.{item_step, may_write, open_at, with_all, with_item, with_step, write_answer, written_at}
use Rattle.mt_write.specs.declared.writing.Written.{Written}
use Rattle.mt_masks.proofs.Rows.{place_same}

pub no_attribute : find_of key_sets ≡ Err UnsupportedAttribute
unfolding endpoints clusters_of attributes_of globals extensions_of
no_attribute = refl

pub none_there : (place : Place) → same_place place key_sets ≡ true → find_of place ≡ Err UnsupportedAttribute
none_there place here = ap find_of (place_same place key_sets here) ∙ no_attribute

-- rows that agree but at the place of key sets
abbrev pub Agree : (Place → List Row) → (Place → List Row) → Type 0
Agree now_at rows_at = (place : Place) → same_place place key_sets ≡ false → now_at place ≡ rows_at place

module _ (seen : Seen) (now_at : Place → List Row) (agree : Agree now_at seen.rows_at) where
  abbrev masked : Seen
  masked = record seen { rows_at = now_at }

  -- Reads.

  module _ (actor : Actor) (filtered : Bool) (versions : List Version) where
    concrete_same : (place : Place) → concrete_items masked actor filtered versions place ≡ concrete_items seen actor filtered versions place
    concrete_same place = elim (cases_Bool (same_place place key_sets)) [
      | inl here ↦
          let nothing = none_there place here in
          (λ i. if may_read seen actor place then found_items masked actor filtered versions place (nothing i) else Refused (path_of place) (code_of UnsupportedAccess) ∷ [])
          ∙ sym (λ i. if may_read seen actor place then found_items seen actor filtered versions place (nothing i) else Refused (path_of place) (code_of UnsupportedAccess) ∷ [])
      | inr elsewhere ↦ ap (λ (rows : List Row). concrete_items (record seen { rows_at = λ (p : Place). rows }) actor filtered versions place) (agree place elsewhere)
    ]

    wildcard_same : (place : Place) → wildcard_items masked actor filtered versions place ≡ wildcard_items seen actor filtered versions place
    wildcard_same place = elim (cases_Bool (same_place place key_sets)) [
      | inl here ↦
          let nothing = none_there place here in
          (λ i. if may_read seen actor place then granted_items masked actor filtered versions place (nothing i) else [])
          ∙ sym (λ i. if may_read seen actor place then granted_items seen actor filtered versions place (nothing i) else [])
      | inr elsewhere ↦ ap (λ (rows : List Row). wildcard_items (record seen { rows_at = λ (p : Place). rows }) actor filtered versions place) (agree place elsewhere)
    ]

    items_same : (path : Path) (named : Option Place) → items_at masked actor filtered versions path named ≡ items_at seen actor filtered versions path named
    items_same path (Some place) = concrete_same place
    items_same path None = λ i. flat_map (λ (place : Place). wildcard_same place i) (places path)

    pub read_same : (paths : List Path) → read_answer masked actor paths filtered versions ≡ read_answer seen actor paths filtered versions
    read_same paths = λ i. if list_any is_not_global paths then None else Some (flat_map (λ (path : Path). items_same path (place_named path) i) paths)

  -- Writes.

  module _ (actor : Actor) (timed : Bool) where
    refused_alike : (steps : List NodeStep) (item : WriteItem) (place : Place) (version : ℕ) (may : Bool)
        → written_at masked actor steps item place (if may then open_at version timed item (Err UnsupportedAttribute) else Err UnsupportedAccess)
        ≡ written_at seen actor steps item place (if may then open_at version timed item (Err UnsupportedAttribute) else Err UnsupportedAccess)
    refused_alike steps item place version true = refl
    refused_alike steps item place version false = refl

    item_same : (steps : List NodeStep) (item : WriteItem) (named : Option Place) → item_step masked actor timed steps item named ≡ item_step seen actor timed steps item named
    item_same steps item None = refl
    item_same steps item (Some place) = elim (cases_Bool (same_place place key_sets)) [
      | inl here ↦
          let nothing = none_there place here in
          let version = seen.version_of place.endpoint place.cluster in
          (λ i. written_at masked actor steps item place (if may_write seen actor place then open_at version timed item (nothing i) else Err UnsupportedAccess))
          ∙ refused_alike steps item place version (may_write seen actor place)
          ∙ sym (λ i. written_at seen actor steps item place (if may_write seen actor place then open_at version timed item (nothing i) else Err UnsupportedAccess))
      | inr elsewhere ↦ ap (λ (rows : List Row). item_step (record seen { rows_at = λ (p : Place). rows }) actor timed steps item (Some place)) (agree place elsewhere)
    ]

    all_same : (written : Written) (items : List WriteItem) → with_all masked actor timed written items ≡ with_all seen actor timed written items
    all_same written [] = refl
    all_same written (item ∷ items) =
        ap (λ (result : Result NodeStep Status). with_all masked actor timed (with_step written item.path result) items) (item_same written.rows item (place_named item.path))
        ∙ all_same (with_item seen actor timed written item) items

    pub write_same : (items : List WriteItem) → write_answer masked actor items timed ≡ write_answer seen actor items timed
    write_same items = all_same (record { rows = []; statuses = [] }) items

-- Rows without those of the place of key sets.

abbrev hidden : (Place → List Row) → Place → List Row
hidden rows_at place = if is_key_sets place then [] else rows_at place

module _ (rows_at now_at : Place → List Row) (agree : Agree now_at rows_at) where
  hidden_there : (place : Place) → hidden now_at place ≡ hidden rows_at place
  hidden_there place = elim (cases_Bool (is_key_sets place)) [ inl here ↦ rw here refl | inr elsewhere ↦ rw elsewhere (agree place (and_right (place.endpoint == 0) _ elsewhere)) ]

  hidden_same : hidden now_at ≡ hidden rows_at
  hidden_same = λ i place. hidden_there place i

  -- Commands of Administrator Commissioning, of On/Off and of Bench, and time steps.

  pub admin_same : (known : Known) (actor : Actor) (command : Place) (fields : Value) (clock : ℕ) → admin.invoked now_at known actor command fields clock ≡ admin.invoked rows_at known actor command fields clock
  admin_same known actor command fields clock = ap (λ (at : Place → List Row). admin.invoked at known actor command fields clock) hidden_same

  pub apps_same : (actor : Actor) (command : Place) → apps.invoked now_at actor command ≡ apps.invoked rows_at actor command
  apps_same actor command = ap (λ (at : Place → List Row). apps.invoked at actor command) hidden_same

  pub ticked_same : (clock : ℕ) → ticked now_at clock ≡ ticked rows_at clock
  ticked_same clock = ap (λ (at : Place → List Row). ticked at clock) hidden_same
