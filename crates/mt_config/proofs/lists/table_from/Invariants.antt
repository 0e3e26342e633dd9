use Rattle.std.proofs.Common.{◌≡◌, ◌+◌, drop}
use Rattle.serde_json.specs.View.{items_view}
use Rattle.mt_config.specs.Lists.{table_from}
use Rattle.mt_config.proofs.Tables.{with_fronts}
use Rattle.mt_config.proofs.lists.table_from.Given as goal

abbrev pub invariant-loop-place : goal.invariant-loop-place
invariant-loop-place l = with_fronts l.found.items l.granted.items (table_from (l.place + 1) (items_view (drop l.place l.rows))) ≡ table_from 1 (items_view l.rows)
