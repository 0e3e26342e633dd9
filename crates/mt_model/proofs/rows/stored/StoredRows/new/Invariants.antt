use Rattle.std.proofs.Common.{◌≡◌, true, take}
use Rattle.std.specs.BTreeMap.{IsOrdered}
use Rattle.std.specs.List.{list_all}
use Rattle.mt_model.specs.rows.Stored.{has_place, place_order}
use Rattle.mt_model.proofs.Stored.{has_none}
use Rattle.mt_model.proofs.rows.stored.StoredRows.new.Given as goal

abbrev pub invariant-loop-place : goal.invariant-loop-place
invariant-loop-place l = record {
  ordered : IsOrdered place_order l.places;
  empty : list_all has_none l.places.entries ≡ true;
  there : list_all (has_place l.places) (take l.place-index l.place-items) ≡ true;
}
