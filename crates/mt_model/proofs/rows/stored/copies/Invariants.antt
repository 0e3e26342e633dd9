use Rattle.std.proofs.Common.{◌≡◌, take, filter}
use Rattle.mt_model.specs.declared.rows.place.Row.{Row}
use Rattle.mt_model.specs.tables.Leaving.{stays}
use Rattle.mt_model.proofs.rows.stored.copies.Given as goal

abbrev pub invariant-loop-row : goal.invariant-loop-row
invariant-loop-row l = l.copies.items ≡ filter (λ (row : Row). stays l.fn.gone row.fabric) (take l.row-index l.fn.rows)
