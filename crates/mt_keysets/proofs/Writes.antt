-- Writes set none of the group key sets, since the place of these is no attribute's.
use Rattle.std.proofs.Common.{◌≡◌, ℕ, ◌==◌, ◌&&◌, not, inl, inr, Bool, true, false, List, [], ◌∷◌, Option, Some, None, Result, Ok, Err, refl, sym, ap, ◌∙◌, if◌then◌else◌}
use Rattle.std.specs.List.{list_all}
use Rattle.std.proofs.lemmas.Bool.{and_from, cases_Bool, cond_both}
use Rattle.std.proofs.lemmas.List.Folds.{list_all-append}
use Rattle.mt_tlv.specs.declared.value.Value.{Value}
use Rattle.mt_meta.specs.Finding.{find_of}
use Rattle.mt_meta.specs.Table.{attributes_of, clusters_of, endpoints, extensions_of, globals}
use Rattle.mt_meta.specs.declared.meta.Meta.{Meta}
use Rattle.mt_model.specs.messages.Blocks.{place_named}
use Rattle.mt_model.specs.rows.Same.{is_same_entry}
use Rattle.mt_model.specs.rows.Seen.{Observation, Seen}
use Rattle.mt_model.specs.rows.Sight.{same_place}
use Rattle.mt_model.specs.tables.KeySets.{key_sets}
use Rattle.mt_model.specs.declared.messages.message.Path.{Path}
use Rattle.mt_model.specs.declared.messages.message.WriteItem.{WriteItem}
use Rattle.mt_model.specs.declared.messages.status.Status.{Status}
use Rattle.mt_model.specs.declared.messages.status.Status.TheVariants.{UnsupportedAccess, UnsupportedAttribute}
use Rattle.mt_model.specs.declared.node.action.NodeStep.{NodeStep}
use Rattle.mt_model.specs.declared.node.action.NodeStep.TheVariants.{SetEntries}
use Rattle.mt_model.specs.declared.rows.place.Place.{Place}
use Rattle.mt_model.specs.declared.tables.access.AclEntry.{AclEntry}
use Rattle.mt_model.specs.declared.tables.access.Actor.{Actor}
use Rattle.mt_apps.specs.EntryEvents.{entry_event, entry_events, events_between, if_changed}
use Rattle.mt_write.specs.Writing.{entries_step, is_entry_list, item_step, may_write, open_at, row_step, with_all, with_item, with_step, write_answer, written_at}
use Rattle.mt_write.specs.declared.writing.Written.{Written}
use Rattle.mt_machine.specs.Step.{with_events}
use Rattle.mt_keysets.proofs.Rows.{place_same}
use Rattle.mt_keysets.proofs.Steps.{spares}

no_attribute : find_of key_sets ≡ Err UnsupportedAttribute
unfolding endpoints clusters_of attributes_of globals extensions_of
no_attribute = refl

module _ (fabric : ℕ) where
  abbrev is_fine : Result NodeStep Status → Bool
  is_fine (Err status) = true
  is_fine (Ok step) = spares fabric step

  -- Items.

  entries_fine : (whose : ℕ) (entries : Result (List AclEntry) Status) → is_fine (entries_step whose entries) ≡ true
  entries_fine whose (Err status) = refl
  entries_fine whose (Ok entries) = refl

  rows_fine : (place : Place) (whose : ℕ) (rows : Result (List Value) Status) → same_place key_sets place ≡ false → is_fine (row_step place whose rows) ≡ true
  rows_fine place whose (Err status) elsewhere = refl
  rows_fine place whose (Ok rows) elsewhere = ap (λ (b : Bool). not (b && fabric == whose)) elsewhere

  elsewhere_fine : (seen : Seen) (actor : Actor) (steps : List NodeStep) (item : WriteItem) (place : Place) (found : Result Meta Status) → same_place key_sets place ≡ false → is_fine (written_at seen actor steps item place found) ≡ true
  elsewhere_fine seen actor steps item place (Err status) elsewhere = refl
  elsewhere_fine seen actor steps item place (Ok meta) elsewhere =
      cond_both (is_entry_list meta.kind) (entries_step actor.fabric _) (row_step place _ _) (λ (r : Result NodeStep Status). is_fine r ≡ true)
      (λ is. entries_fine actor.fabric _) (λ other. rows_fine place _ _ elsewhere)

  -- what is no attribute is not written
  here_fine : (seen : Seen) (actor : Actor) (timed : Bool) (steps : List NodeStep) (item : WriteItem) (place : Place) (version : ℕ) (may : Bool) (found : Result Meta Status) → found ≡ Err UnsupportedAttribute
      → is_fine (written_at seen actor steps item place (if may then open_at version timed item found else Err UnsupportedAccess)) ≡ true
  here_fine seen actor timed steps item place version true (Err status) none = refl
  here_fine seen actor timed steps item place version true (Ok meta) none = absurd cc
  here_fine seen actor timed steps item place version false found none = refl

  item_fine : (seen : Seen) (actor : Actor) (timed : Bool) (steps : List NodeStep) (item : WriteItem) (named : Option Place) → is_fine (item_step seen actor timed steps item named) ≡ true
  item_fine seen actor timed steps item None = refl
  item_fine seen actor timed steps item (Some place) = elim (cases_Bool (same_place key_sets place)) [
    | inl here ↦
        here_fine seen actor timed steps item place (seen.version_of place.endpoint place.cluster) (may_write seen actor place) (find_of place)
        (ap find_of (sym (place_same key_sets place here)) ∙ no_attribute)
    | inr elsewhere ↦ elsewhere_fine seen actor steps item place _ elsewhere
  ]

  abbrev all_spare : List NodeStep → Type 0
  all_spare steps = list_all (spares fabric) steps ≡ true

  step_fine : (written : Written) (path : Path) (result : Result NodeStep Status) → all_spare written.rows → is_fine result ≡ true → all_spare (with_step written path result).rows
  step_fine written path (Err status) before fine = before
  step_fine written path (Ok step) before fine = list_all-append (spares fabric) written.rows (step ∷ []) ∙ and_from _ _ before (and_from _ _ fine refl)

  items_fine : (seen : Seen) (actor : Actor) (timed : Bool) (written : Written) (items : List WriteItem) → all_spare written.rows → all_spare (with_all seen actor timed written items).rows
  items_fine seen actor timed written [] before = before
  items_fine seen actor timed written (item ∷ items) before =
      items_fine seen actor timed (with_item seen actor timed written item) items
      (step_fine written item.path (item_step seen actor timed written.rows item (place_named item.path)) before (item_fine seen actor timed written.rows item (place_named item.path)))

  -- Events of what is set.

  event_spares : (actor : Actor) (change : ℕ) (entry : AclEntry) → spares fabric (entry_event actor change entry) ≡ true
  unfolding entry_event
  event_spares actor change entry = refl

  changed_spare : (actor : Actor) (new : AclEntry) (same : Bool) → all_spare (if same then [] else entry_event actor 0 new ∷ [])
  changed_spare actor new true = refl
  changed_spare actor new false = and_from _ _ (event_spares actor 0 new) refl

  between_spare : (actor : Actor) (entries others : List AclEntry) → all_spare (events_between actor entries others)
  between_spare actor [] [] = refl
  between_spare actor [] (new ∷ others) = and_from _ _ (event_spares actor 1 new) (between_spare actor [] others)
  between_spare actor (old ∷ entries) [] = and_from _ _ (event_spares actor 2 old) (between_spare actor entries [])
  between_spare actor (old ∷ entries) (new ∷ others) =
      list_all-append (spares fabric) (if_changed actor old new) (events_between actor entries others)
      ∙ and_from _ _ (changed_spare actor new (is_same_entry old new)) (between_spare actor entries others)

  events_spare : (actor : Actor) (entries : List AclEntry) (steps : List NodeStep) → all_spare (entry_events actor entries steps)
  events_spare actor entries [] = refl
  events_spare actor entries (SetEntries whose new ∷ steps) =
      list_all-append (spares fabric) (events_between actor entries new) (entry_events actor new steps) ∙ and_from _ _ (between_spare actor entries new) (events_spare actor new steps)
  events_spare actor entries (step ∷ steps) = events_spare actor entries steps

  pub writes_spare : (o : Observation) (actor : Actor) (items : List WriteItem) (timed : Bool) → all_spare (with_events o actor (write_answer o.seen actor items timed).rows)
  writes_spare o actor items timed =
      let steps = (write_answer o.seen actor items timed).rows in
      list_all-append (spares fabric) steps (entry_events actor o.seen.entries steps)
      ∙ and_from _ _ (items_fine o.seen actor timed (record { rows = []; statuses = [] }) items refl) (events_spare actor o.seen.entries steps)
