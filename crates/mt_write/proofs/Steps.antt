-- What holds of each step that a write makes, since it holds of those that an item makes at an attribute that is there, may be written
-- by whoever writes, and is writable.
use Rattle.std.proofs.Common.{◌≡◌, ◌∙◌, ◌&&◌, ◌||◌, not, is_none, ℕ, Bool, true, false, List, [], ◌∷◌, Option, Some, None, Result, Ok, Err, refl, if◌then◌else◌}
use Rattle.std.specs.List.{list_all}
use Rattle.std.proofs.lemmas.Bool.{and_from, or_parts}
use Rattle.std.proofs.lemmas.List.Folds.{list_all-append}
use Rattle.mt_meta.specs.Finding.{find_of}
use Rattle.mt_meta.specs.declared.meta.Meta.{Meta}
use Rattle.mt_model.specs.messages.Blocks.{names_item, place_named}
use Rattle.mt_model.specs.rows.Seen.{Seen}
use Rattle.mt_model.specs.declared.tables.access.Actor.{Actor}
use Rattle.mt_model.specs.declared.node.action.NodeStep.{NodeStep}
use Rattle.mt_model.specs.declared.messages.message.Path.{Path}
use Rattle.mt_model.specs.declared.messages.message.WriteItem.{WriteItem}
use Rattle.mt_model.specs.declared.rows.place.Place.{Place}
use Rattle.mt_model.specs.declared.messages.status.Status.{Status}
use Rattle.mt_model.specs.declared.messages.status.Status.TheVariants.{UnsupportedAccess, UnsupportedWrite, NeedsTimedInteraction, DataVersionMismatch}
use Rattle.mt_write.specs.declared.writing.Written.{Written}
use Rattle.mt_write.specs.Writing.{is_outdated, item_step, may_write, open_at, with_all, with_item, with_step, write_answer, written_at}

-- whether an item's step passes, where it makes one
abbrev pub passes : (NodeStep → Bool) → Result NodeStep Status → Bool
passes test (Err status) = true
passes test (Ok step) = test step

pub record Passes (test : NodeStep → Bool) (outcome : Result NodeStep Status) : Type 0 where
  pub is : passes test outcome ≡ true

module _ (test : NodeStep → Bool) (seen : Seen) (actor : Actor) (timed : Bool)
    (each : (steps : List NodeStep) → list_all test steps ≡ true → (item : WriteItem) (place : Place) (meta : Meta) → find_of place ≡ Ok meta → may_write seen actor place ≡ true → is_none meta.write ≡ false
    → Passes test (written_at seen actor steps item place (Ok meta)))
  where
    module _ (steps : List NodeStep) (before : list_all test steps ≡ true) (item : WriteItem) (place : Place) where
      guarded : (a b c : Bool) (meta : Meta) → find_of place ≡ Ok meta → may_write seen actor place ≡ true → (a ≡ false → is_none meta.write ≡ false)
          → Passes test (written_at seen actor steps item place (if a then Err UnsupportedWrite else if b then Err NeedsTimedInteraction else if c then Err DataVersionMismatch else Ok meta))
      guarded true b c meta there may writable = record { is = refl }
      guarded false true c meta there may writable = record { is = refl }
      guarded false false true meta there may writable = record { is = refl }
      guarded false false false meta there may writable = each steps before item place meta there may (writable refl)

      opened : (version : ℕ) (found : Result Meta Status) → find_of place ≡ found → may_write seen actor place ≡ true → Passes test (written_at seen actor steps item place (open_at version timed item found))
      opened version (Err status) is may = record { is = refl }
      opened version (Ok meta) is may =
          guarded (is_none meta.write || names_item item.path) (meta.timed && not timed) (is_outdated item.version version) meta is may
          (λ no. (or_parts (is_none meta.write) (names_item item.path) no).0)

      allowed : (may : Bool) (version : ℕ) → may_write seen actor place ≡ may → Passes test (written_at seen actor steps item place (if may then open_at version timed item (find_of place) else Err UnsupportedAccess))
      allowed true version is = opened version (find_of place) refl is
      allowed false version is = record { is = refl }

    of_item : (steps : List NodeStep) → list_all test steps ≡ true → (item : WriteItem) (place : Option Place) → Passes test (item_step seen actor timed steps item place)
    of_item steps before item None = record { is = refl }
    of_item steps before item (Some place) = allowed steps before item place (may_write seen actor place) (seen.version_of place.endpoint place.cluster) refl

    of_step : (written : Written) (path : Path) (outcome : Result NodeStep Status) → list_all test written.rows ≡ true → Passes test outcome → list_all test (with_step written path outcome).rows ≡ true
    of_step written path (Err status) all one = all
    of_step written path (Ok step) all one = list_all-append test written.rows (step ∷ []) ∙ and_from _ _ all (and_from (test step) true one.is refl)

    of_all : (written : Written) (items : List WriteItem) → list_all test written.rows ≡ true → list_all test (with_all seen actor timed written items).rows ≡ true
    of_all written [] all = all
    of_all written (item ∷ items) all = of_all (with_item seen actor timed written item) items (of_step written item.path _ all (of_item written.rows all item (place_named item.path)))

    pub each_passes : (items : List WriteItem) → list_all test (write_answer seen actor items timed).rows ≡ true
    each_passes items = of_all (record { rows = []; statuses = [] }) items refl
