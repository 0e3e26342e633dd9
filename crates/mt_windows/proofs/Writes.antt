-- Writes set no rows of a place that nobody may write, and neither do the events that they tell.
use Rattle.std.proofs.Common.{◌≡◌, ℕ, ◌==◌, ◌&&◌, ◌∙◌, inl, inr, not, is_ok, Bool, true, false, List, [], ◌∷◌, Option, Some, None, Result, Ok, Err, refl, sym, ap, subst, if◌then◌else◌}
use Rattle.std.proofs.lemmas.Bool.{and_from, cases_Bool, cond_both}
use Rattle.std.proofs.lemmas.List.Folds.{list_all-append}
use Rattle.std.specs.List.{list_all}
use Rattle.mt_tlv.specs.declared.value.Value.{Value}
use Rattle.mt_apps.specs.EntryEvents.{entry_event, entry_events, events_between, if_changed}
use Rattle.mt_meta.specs.Table.{attributes_of, clusters_of, endpoints, extensions_of, globals}
use Rattle.mt_meta.specs.declared.meta.Meta.{Meta}
use Rattle.mt_model.specs.messages.Blocks.{place_named}
use Rattle.mt_model.specs.rows.Same.{is_same_entry}
use Rattle.mt_model.specs.rows.Seen.{Seen}
use Rattle.mt_model.specs.rows.Sight.{same_place}
use Rattle.mt_model.specs.declared.messages.message.Path.{Path}
use Rattle.mt_model.specs.declared.messages.message.WriteItem.{WriteItem}
use Rattle.mt_model.specs.declared.messages.status.Status.{Status}
use Rattle.mt_model.specs.declared.messages.status.Status.TheVariants.{UnsupportedAccess, UnsupportedWrite}
use Rattle.mt_model.specs.declared.node.action.NodeStep.{NodeStep}
use Rattle.mt_model.specs.declared.node.action.NodeStep.TheVariants.{SetEntries}
use Rattle.mt_model.specs.declared.rows.place.Place.{Place}
use Rattle.mt_model.specs.declared.tables.access.AclEntry.{AclEntry}
use Rattle.mt_model.specs.declared.tables.access.Actor.{Actor}
use Rattle.mt_admin.specs.Windows.{window_at, window_end}
use Rattle.mt_write.specs.Writing.{entries_step, entries_written, fabric_of, is_entry_list, item_step, may_write, opened, own_values, row_step, rows_written, with_all, with_item, with_step, write_answer, written_at}
use Rattle.mt_write.specs.Latest.{entries_now, rows_now}
use Rattle.mt_write.specs.declared.writing.Written.{Written}
use Rattle.mt_windows.proofs.Rows.{place-same}
use Rattle.mt_windows.proofs.Told.{spares}

-- nobody may write a place
abbrev pub IsUnwritten : Place → Type 0
IsUnwritten q = (seen : Seen) (actor : Actor) (timed : Bool) (item : WriteItem) → is_ok (opened seen actor timed item q) ≡ false

abbrev refused : Bool → Status → Status → Result Meta Status
refused may status other = if may then Err status else Err other

refused_either : (may : Bool) (status other : Status) → is_ok (refused may status other) ≡ false
refused_either true status other = refl
refused_either false status other = refl

pub status_unwritten : IsUnwritten (window_at 0)
unfolding attributes_of clusters_of endpoints extensions_of globals
status_unwritten seen actor timed item = refused_either (may_write seen actor (window_at 0)) UnsupportedWrite UnsupportedAccess

pub end_unwritten : IsUnwritten (window_at window_end)
unfolding attributes_of clusters_of endpoints extensions_of globals
end_unwritten seen actor timed item = refused_either (may_write seen actor (window_at window_end)) UnsupportedWrite UnsupportedAccess

module _ (q : Place) where
  abbrev passes : Result NodeStep Status → Bool
  passes (Ok step) = spares q step
  passes (Err status) = true

  row_passes : (place : Place) (fabric : ℕ) (rows : Result (List Value) Status) → same_place place q ≡ false → passes (row_step place fabric rows) ≡ true
  row_passes place fabric (Err status) other = refl
  row_passes place fabric (Ok rows) other = ap (λ (b : Bool). not (b && fabric == 0)) other

  entries_pass : (fabric : ℕ) (entries : Result (List AclEntry) Status) → passes (entries_step fabric entries) ≡ true
  entries_pass fabric (Err status) = refl
  entries_pass fabric (Ok entries) = refl

  module _ (seen : Seen) (actor : Actor) (steps : List NodeStep) (item : WriteItem) (place : Place) where
    written_passes : (found : Result Meta Status) → same_place place q ≡ false → passes (written_at seen actor steps item place found) ≡ true
    written_passes (Err status) other = refl
    written_passes (Ok meta) other =
        cond_both (is_entry_list meta.kind) (entries_written item meta actor.fabric (entries_now actor.fabric steps seen.entries))
        (rows_written item place meta (fabric_of actor meta) (rows_now place (fabric_of actor meta) steps (own_values (fabric_of actor meta) (seen.rows_at place))))
        (λ (step : Result NodeStep Status). passes step ≡ true)
        (λ is. entries_pass actor.fabric _) (λ is_not. row_passes place (fabric_of actor meta) _ other)

    refused_passes : (found : Result Meta Status) → is_ok found ≡ false → passes (written_at seen actor steps item place found) ≡ true
    refused_passes (Err status) refused = refl
    refused_passes (Ok meta) refused = absurd cc

  module _ (unwritten : IsUnwritten q) (seen : Seen) (actor : Actor) (timed : Bool) where
    item_passes : (steps : List NodeStep) (item : WriteItem) (named : Option Place) → passes (item_step seen actor timed steps item named) ≡ true
    item_passes steps item None = refl
    item_passes steps item (Some place) = elim (cases_Bool (same_place place q)) [
      | inl here ↦
          let refused : is_ok (opened seen actor timed item place) ≡ false = subst (λ (p : Place). is_ok (opened seen actor timed item p) ≡ false) (sym (place-same place q here)) (unwritten seen actor timed item) in
          refused_passes seen actor steps item place (opened seen actor timed item place) refused
      | inr other ↦ written_passes seen actor steps item place (opened seen actor timed item place) other
    ]

    step_spares : (written : Written) (path : Path) (made : Result NodeStep Status) → list_all (spares q) written.rows ≡ true → passes made ≡ true → list_all (spares q) (with_step written path made).rows ≡ true
    step_spares written path (Err status) before its = before
    step_spares written path (Ok step) before its = list_all-append (spares q) written.rows (step ∷ []) ∙ and_from _ _ before (and_from _ _ its refl)

    items_spare : (written : Written) (items : List WriteItem) → list_all (spares q) written.rows ≡ true → list_all (spares q) (with_all seen actor timed written items).rows ≡ true
    items_spare written [] before = before
    items_spare written (item ∷ items) before =
        items_spare (with_item seen actor timed written item) items
        (step_spares written item.path (item_step seen actor timed written.rows item (place_named item.path)) before (item_passes written.rows item (place_named item.path)))

    pub writes_spare : (items : List WriteItem) → list_all (spares q) (write_answer seen actor items timed).rows ≡ true
    writes_spare items = items_spare (record { rows = []; statuses = [] }) items refl

  -- Events of entries.

  module _ (actor : Actor) where
    event_spares : (change : ℕ) (entry : AclEntry) → spares q (entry_event actor change entry) ≡ true
    unfolding entry_event
    event_spares change entry = refl

    changed_spare : (old new : AclEntry) (same : Bool) → list_all (spares q) (if same then [] else entry_event actor 0 new ∷ []) ≡ true
    changed_spare old new true = refl
    changed_spare old new false = and_from _ _ (event_spares 0 new) refl

    between_spare : (entries others : List AclEntry) → list_all (spares q) (events_between actor entries others) ≡ true
    between_spare [] [] = refl
    between_spare [] (new ∷ others) = and_from _ _ (event_spares 1 new) (between_spare [] others)
    between_spare (old ∷ entries) [] = and_from _ _ (event_spares 2 old) (between_spare entries [])
    between_spare (old ∷ entries) (new ∷ others) =
        list_all-append (spares q) (if_changed actor old new) (events_between actor entries others)
        ∙ and_from _ _ (changed_spare old new (is_same_entry old new)) (between_spare entries others)

    pub events_spare : (entries : List AclEntry) (steps : List NodeStep) → list_all (spares q) (entry_events actor entries steps) ≡ true
    events_spare entries [] = refl
    events_spare entries (SetEntries whose new ∷ steps) =
        list_all-append (spares q) (events_between actor entries new) (entry_events actor new steps)
        ∙ and_from _ _ (between_spare entries new) (events_spare new steps)
    events_spare entries (step ∷ steps) = events_spare entries steps
