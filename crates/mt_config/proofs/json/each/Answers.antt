use Rattle.std.proofs.lemmas.Result.{err_from_is_err_and}
use Rattle.serde_json.specs.View.{items_view}
use Rattle.mt_config.specs.Json.{each}
use Rattle.mt_config.proofs.Items.{goes_on, stops}
use Rattle.mt_config.proofs.json.each.Goals as goal

pub loop-item-preserved : goal.loop-item-preserved
loop-item-preserved g c =
    let form = g.T.FromJson.form in
    rw c.in_ok-push.ensures.items (goes_on form c.loop-item.found.items c.args.items.now c.loop-item.item-index c.item-item.result c.in_ok-from_json.field-0 (each form (items_view c.args.items.now)) c.loop-item-test.true c.item-item.is c.in_ok-from_json.ensures c.loop-item.invariant)

pub returns-in_err-from_json : goal.returns-in_err-from_json
returns-in_err-from_json g c =
    let form = g.T.FromJson.form in
    let p = err_from_is_err_and c.from_residual.result c.from_residual.ensures.1 in
    rw (p.1, p.2) (stops c.in_err-from_json.field-0.0 form c.loop-item.found.items c.args.items.now c.loop-item.item-index c.item-item.result (each form (items_view c.args.items.now)) c.loop-item-test.true c.item-item.is c.in_err-from_json.ensures c.loop-item.invariant)
