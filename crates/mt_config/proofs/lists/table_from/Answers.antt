use Rattle.std.proofs.lemmas.Result.{err_from_is_err_and}
use Rattle.serde_json.specs.View.{items_view}
use Rattle.mt_config.proofs.Tables.{goes_on, stops_at_entries, stops_at_fabric}
use Rattle.mt_config.proofs.lists.table_from.Goals as goal
use Rattle.mt_config.specs.Lists.{table_from}

pub returns-in_err-fabric : goal.returns-in_err-fabric
returns-in_err-fabric c =
    let p = err_from_is_err_and c.from_residual.result c.from_residual.ensures.1 in
    rw (p.1, p.2) (stops_at_fabric c.in_err-fabric.field-0.0 c.loop-place.found.items c.loop-place.granted.items c.args.rows.now c.loop-place.place c.index-rows-place.result (table_from 1 (items_view c.args.rows.now)) c.loop-place-test.true c.index-rows-place.is c.in_err-fabric.ensures c.loop-place.invariant)

pub returns-in_err-added : goal.returns-in_err-added
returns-in_err-added c =
    let p = err_from_is_err_and c.from_residual-in_err-added.result c.from_residual-in_err-added.ensures.1 in
    rw (p.1, p.2) (stops_at_entries c.in_err-added.field-0.0 c.loop-place.found.items c.loop-place.granted.items c.args.rows.now c.loop-place.place c.index-rows-place.result c.in_ok-fabric.field-0 (table_from 1 (items_view c.args.rows.now)) c.loop-place-test.true c.index-rows-place.is c.in_ok-fabric.ensures c.in_err-added.ensures c.loop-place.invariant)

pub loop-place-preserved : goal.loop-place-preserved
loop-place-preserved c =
    rw (c.in_ok-push.ensures.items, c.in_ok-append.ensures.items) (goes_on c.loop-place.found.items c.loop-place.granted.items c.args.rows.now c.loop-place.place c.index-rows-place.result c.in_ok-fabric.field-0 c.in_ok-added.added.items (table_from 1 (items_view c.args.rows.now)) c.loop-place-test.true c.index-rows-place.is c.in_ok-fabric.ensures c.in_ok-added.ensures c.loop-place.invariant)
