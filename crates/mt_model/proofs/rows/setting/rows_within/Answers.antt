use Rattle.std.proofs.Common.{not, rules}
use Rattle.std.proofs.lemmas.List.Sorted.{IsPartitionPoint-from_clause}
use Rattle.mt_model.specs.rows.Setting.{is_above, is_at, is_below}
use Rattle.mt_model.specs.declared.rows.place.Row.{Row}
use Rattle.mt_model.proofs.Ranges.{back_part, front_part, points_in_order, range_between}
use Rattle.mt_model.proofs.Setting.{behind_is_other, below_is_not_above, below_is_other, below_parts, between_is_at, no_above_parts}
use Rattle.mt_model.proofs.rows.setting.rows_within.Goals as goal

pub returns-clause-order : goal.returns-clause-order
returns-clause-order c =
    let place = c.args.place.now in
    let fabric = c.args.fabric in
    let rows = c.args.rows.now in
    let begin = c.partition_point-begin in
    let end = c.partition_point-end in
    points_in_order Row (is_below place fabric) (λ (row : Row). not (is_above place fabric row)) (below_is_not_above place fabric) rows begin.result end.result begin.ensures.bound
    (IsPartitionPoint-from_clause (is_below place fabric) rows begin.result begin.ensures.partitioned (below_parts place fabric rows c.requires) (λ a r q k. search rules))
    (IsPartitionPoint-from_clause (λ (row : Row). not (is_above place fabric row)) rows end.result end.ensures.partitioned (no_above_parts place fabric rows c.requires) (λ a r q k. search rules))

pub returns-clause-below : goal.returns-clause-below
returns-clause-below c =
    let place = c.args.place.now in
    let fabric = c.args.fabric in
    let rows = c.args.rows.now in
    let begin = c.partition_point-begin in
    front_part Row (is_below place fabric) rows begin.result begin.ensures.bound
    (IsPartitionPoint-from_clause (is_below place fabric) rows begin.result begin.ensures.partitioned (below_parts place fabric rows c.requires) (λ a r q k. search rules))

pub returns-clause-above : goal.returns-clause-above
returns-clause-above c =
    let place = c.args.place.now in
    let fabric = c.args.fabric in
    let rows = c.args.rows.now in
    let end = c.partition_point-end in
    back_part Row (is_above place fabric) rows end.result
    (IsPartitionPoint-from_clause (λ (row : Row). not (is_above place fabric row)) rows end.result end.ensures.partitioned (no_above_parts place fabric rows c.requires) (λ a r q k. search rules))

pub returns-clause-at : goal.returns-clause-at
returns-clause-at c =
    let place = c.args.place.now in
    let fabric = c.args.fabric in
    let rows = c.args.rows.now in
    let begin = c.partition_point-begin in
    let end = c.partition_point-end in
    range_between Row (is_below place fabric) (λ (row : Row). not (is_above place fabric row)) (is_at place fabric)
    (below_is_other place fabric) (behind_is_other place fabric) (between_is_at place fabric) rows begin.result end.result (returns-clause-order c) end.ensures.bound
    (IsPartitionPoint-from_clause (is_below place fabric) rows begin.result begin.ensures.partitioned (below_parts place fabric rows c.requires) (λ a r q k. search rules))
    (IsPartitionPoint-from_clause (λ (row : Row). not (is_above place fabric row)) rows end.result end.ensures.partitioned (no_above_parts place fabric rows c.requires) (λ a r q k. search rules))
