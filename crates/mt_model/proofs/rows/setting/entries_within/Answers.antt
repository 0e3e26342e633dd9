use Rattle.std.proofs.Common.{rules}
use Rattle.std.proofs.lemmas.List.Sorted.{IsPartitionPoint-from_clause}
use Rattle.mt_model.specs.rows.Setting.{is_entry_above, is_entry_below}
use Rattle.mt_model.specs.declared.tables.access.AclEntry.{AclEntry}
use Rattle.mt_model.proofs.OfFabric.{is_no_higher, lower_is_no_higher, lower_parts, no_higher_parts}
use Rattle.mt_model.proofs.Ranges.{back_part, front_part, points_in_order}
use Rattle.mt_model.proofs.rows.setting.entries_within.Goals as goal

pub returns-clause-order : goal.returns-clause-order
returns-clause-order c =
    let fabric = c.args.fabric in
    let entries = c.args.entries.now in
    let begin = c.partition_point-begin in
    let end = c.partition_point-end in
    points_in_order AclEntry (is_entry_below fabric) (is_no_higher fabric) (lower_is_no_higher fabric) entries begin.result end.result begin.ensures.bound
    (IsPartitionPoint-from_clause (is_entry_below fabric) entries begin.result begin.ensures.partitioned (lower_parts fabric 0 entries c.requires) (λ a r q k. search rules))
    (IsPartitionPoint-from_clause (is_no_higher fabric) entries end.result end.ensures.partitioned (no_higher_parts fabric 0 entries c.requires) (λ a r q k. search rules))

pub returns-clause-below : goal.returns-clause-below
returns-clause-below c =
    let fabric = c.args.fabric in
    let entries = c.args.entries.now in
    let begin = c.partition_point-begin in
    front_part AclEntry (is_entry_below fabric) entries begin.result begin.ensures.bound
    (IsPartitionPoint-from_clause (is_entry_below fabric) entries begin.result begin.ensures.partitioned (lower_parts fabric 0 entries c.requires) (λ a r q k. search rules))

pub returns-clause-above : goal.returns-clause-above
returns-clause-above c =
    let fabric = c.args.fabric in
    let entries = c.args.entries.now in
    let end = c.partition_point-end in
    back_part AclEntry (is_entry_above fabric) entries end.result
    (IsPartitionPoint-from_clause (is_no_higher fabric) entries end.result end.ensures.partitioned (no_higher_parts fabric 0 entries c.requires) (λ a r q k. search rules))
