-- The lists of a configuration: rows that have their form and keep the rules.
use Rattle.std.specs.Prelude.{ℕ, ◌+◌, ◌&&◌, Bool, if◌then◌else◌, List, [], ◌∷◌, ◌++◌, codes, Option, Some, None}
use Rattle.serde_json.specs.Data.{Data, Items, no_items, item}
use Rattle.mt_model.specs.texts.Config.{are_fabrics, are_entries, are_sessions, are_roots, are_csrs, are_joins, are_network_ids}
use Rattle.mt_model.specs.declared.texts.config.CsrRow.{CsrRow}
use Rattle.mt_model.specs.declared.texts.config.JoinRow.{JoinRow}
use Rattle.mt_model.specs.declared.texts.config.RootRow.{RootRow}
use Rattle.mt_model.specs.declared.texts.config.SessionRow.{SessionRow}
use Rattle.mt_model.specs.declared.limits.TheConstants.{FABRICS, SESSIONS, VERDICTS, NETWORKS}
use Rattle.mt_config.specs.Json.{◌>>=◌, octets, items_of, list_of}
use Rattle.mt_config.specs.Rows.{fabric_of, entries_of, session, root, csr, join}
use Rattle.mt_config.specs.declared.lists.Table.{Table}

-- what keeps the rule
abbrev pub where_kept : {X : Type 0} → (X → Bool) → X → Option X
where_kept rule x = if rule x then Some x else None

-- the fabrics of the rows, the first of them with this index and the next with the next, and the entries
-- of all of them
abbrev pub table_from : ℕ → Items → Option Table
table_from index no_items = Some (record { fabrics = []; entries = [] })
table_from index (item d ds) = do
  fabric ← fabric_of index d
  entries ← entries_of index d
  others ← table_from (index + 1) ds
  Some (record { fabrics = fabric ∷ others.fabrics; entries = entries ++ others.entries })

abbrev pub is_table : Table → Bool
is_table table = are_fabrics table.fabrics && are_entries table.fabrics table.entries

unfoldable pub table_of : Data → Option Table
table_of d = do
  rows ← items_of (codes "fabrics") FABRICS d
  table_from 1 rows

unfoldable pub fabrics : Data → Option Table
fabrics d = do
  table ← table_of d
  where_kept is_table table

unfoldable pub sessions : Data → Option (List SessionRow)
sessions d = do
  rows ← list_of (codes "sessions") SESSIONS session d
  where_kept are_sessions rows

unfoldable pub roots : Data → Option (List RootRow)
roots d = do
  rows ← list_of (codes "roots") VERDICTS root d
  where_kept are_roots rows

unfoldable pub csrs : Data → Option (List CsrRow)
csrs d = do
  rows ← list_of (codes "csrs") VERDICTS csr d
  where_kept are_csrs rows

unfoldable pub joins : Data → Option (List JoinRow)
joins d = do
  rows ← list_of (codes "joins") VERDICTS join d
  where_kept are_joins rows

-- the ids of networks
unfoldable pub reachable : Data → Option (List (List ℕ))
reachable d = do
  ids ← list_of (codes "reachable") NETWORKS octets d
  where_kept are_network_ids ids
