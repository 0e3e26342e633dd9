use Rattle.std.proofs.Common.{◌≡◌, ◌++◌, map}
use Rattle.std.specs.BTreeMap.{IsOrdered}
use Rattle.mt_model.specs.declared.rows.place.Row.{Row}
use Rattle.mt_model.specs.rows.Stored.{place_order}
use Rattle.mt_model.specs.tables.Leaving.{stays}
use Rattle.mt_model.proofs.Copied.{bare, copy_at}
use Rattle.mt_model.proofs.rows.stored.StoredRows.copy_without.Given as goal

abbrev pub invariant-loop-place : goal.invariant-loop-place
invariant-loop-place l = record {
  ordered : IsOrdered place_order l.places;
  copied : map bare l.places.entries ++ map (copy_at (λ (row : Row). stays l.fn.gone row.fabric)) l.place-iterator ≡ map (copy_at (λ (row : Row). stays l.fn.gone row.fabric)) l.self-inside.places.entries;
}
