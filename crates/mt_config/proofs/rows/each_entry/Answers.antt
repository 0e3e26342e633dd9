use Rattle.std.proofs.lemmas.Result.{err_from_is_err_and}
use Rattle.serde_json.specs.View.{items_view}
use Rattle.mt_config.specs.Json.{each}
use Rattle.mt_config.specs.Rows.{entry_of}
use Rattle.mt_config.proofs.Items.{goes_on, stops}
use Rattle.mt_config.proofs.rows.each_entry.Goals as goal

pub loop-item-preserved : goal.loop-item-preserved
loop-item-preserved c =
    let form = entry_of c.args.fabric in
    rw c.in_ok-push.ensures.items (goes_on form c.loop-item.entries.items c.args.items.now c.loop-item.item-index c.item-item.result c.in_ok-entry.field-0 (each form (items_view c.args.items.now)) c.loop-item-test.true c.item-item.is c.in_ok-entry.ensures c.loop-item.invariant)

pub returns-in_err-entry : goal.returns-in_err-entry
returns-in_err-entry c =
    let form = entry_of c.args.fabric in
    let p = err_from_is_err_and c.from_residual.result c.from_residual.ensures.1 in
    rw (p.1, p.2) (stops c.in_err-entry.field-0.0 form c.loop-item.entries.items c.args.items.now c.loop-item.item-index c.item-item.result (each form (items_view c.args.items.now)) c.loop-item-test.true c.item-item.is c.in_err-entry.ensures c.loop-item.invariant)
