use Rattle.std.proofs.Common.{◌≡◌, ◌-◌, List, true, length, take, drop, sym, subst, length-drop, arith, rules}
use Rattle.std.proofs.lemmas.List.{take_all}
use Rattle.std.proofs.lemmas.List.Sorted.{IsPartitionPoint-from_clause}
use Rattle.mt_model.specs.texts.Config.{ascend_from}
use Rattle.mt_model.specs.declared.tables.access.AclEntry.{AclEntry}
use Rattle.mt_model.proofs.OfFabric.{ascending-drop, between_is_own, higher_is_other, is_lower, is_no_higher, is_own, lower_is_other, lower_parts, no_higher_parts}
use Rattle.mt_model.proofs.Ranges.{range_rest}
use Rattle.mt_model.proofs.tables.access.entries_of.Goals as goal

pub returns : goal.returns
returns c =
    let fabric = c.args.fabric in
    let entries = c.args.entries.now in
    let begin = c.partition_point-begin.result in
    let end = c.partition_point-end.result in
    let rest = take (length entries - begin) (drop begin entries) in
    let same : rest ≡ drop begin entries = take_all (length entries - begin) (drop begin entries) (omega (arith, length-drop begin entries)) in
    let up_on : ascend_from 0 rest ≡ true = subst (λ (l : List AclEntry). ascend_from 0 l ≡ true) (sym same) (ascending-drop begin 1 entries c.requires) in
    let first = IsPartitionPoint-from_clause (is_lower fabric) entries begin c.partition_point-begin.ensures.partitioned (lower_parts fabric 1 entries c.requires) (λ a r q k. search rules) in
    let second = IsPartitionPoint-from_clause (is_no_higher fabric) rest end c.partition_point-end.ensures.partitioned (no_higher_parts fabric 0 rest up_on) (λ a r q k. search rules) in
    range_rest AclEntry (is_lower fabric) (is_no_higher fabric) (is_own fabric) (lower_is_other fabric) (higher_is_other fabric) (between_is_own fabric) entries rest begin end same c.partition_point-begin.ensures.bound c.partition_point-end.ensures.bound first second
